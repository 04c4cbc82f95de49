use Rattle.std.proofs.Common.{◌<◌, ◌≤◌, ℕ, List, length, take, refl, sym, subst, ◌∙◌}
use Rattle.base_specs.specs.Told.{Added}
use Rattle.base_specs.specs.Counts.{Fails}
use Rattle.base_specs.proofs.Telling.{added_none}
use Rattle.w32tm_cmd.proofs.Writings.{line_more, lines_all, line_broke}
use Rattle.w32tm_cmd.proofs.writing.write_lines.Goals as goal

pub write-requires : goal.write-requires
write-requires g c =
    let some : 0 < length c.line-item.result = subst (λ (l : List ℕ). 0 < length l) (sym c.line-item.is) (c.requires c.loop-line.line-index c.line-item.result c.loop-line-test.true) in
    subst (λ (l : List ℕ). 0 < length l) (sym c.as_slice.ensures.bytes) some

pub loop-line-init : goal.loop-line-init
loop-line-init g c = record { written = added_none (g.O.Sink.written c.args.out.now); no_fault = refl }

pub loop-line-preserved : goal.loop-line-preserved
loop-line-preserved g c =
    let line = subst (Added (g.O.Sink.written c.loop-line.out) (g.O.Sink.written c.write.new.self)) c.as_slice.ensures.bytes c.in_default.ensures.bytes in
    record {
      written = line_more c.args.lines.now c.line-item.result c.loop-line.line-index _ _ _ c.loop-line-test.true c.line-item.is c.loop-line.invariant.written line;
      no_fault = c.in_default.ensures.cause ∙ c.loop-line.invariant.no_fault;
    }

pub returns-in-Failed-clause-bytes : goal.returns-in-Failed-clause-bytes
returns-in-Failed-clause-bytes g c =
    let front = c.in-Failed.ensures.bytes in
    let bytes = c.as_slice.ensures.bytes in
    let most : front.0 ≤ length c.line-item.result = subst (λ (l : List ℕ). front.0 ≤ length l) bytes front.1 in
    let line = subst (λ (l : List ℕ). Added (g.O.Sink.written c.loop-line.out) (g.O.Sink.written c.write.new.self) (take front.0 l)) bytes front.2 in
    line_broke c.args.lines.now c.line-item.result c.loop-line.line-index front.0 _ _ _ c.loop-line-test.true c.line-item.is most c.loop-line.invariant.written line

pub returns-in-Failed-clause-cause : goal.returns-in-Failed-clause-cause
returns-in-Failed-clause-cause g c =
    subst (λ (n : ℕ). Fails n (g.O.Sink.faults c.write.new.self)) c.loop-line.invariant.no_fault c.in-Failed.ensures.cause

pub returns : goal.returns
returns g c = record {
  bytes = lines_all c.args.lines.now c.loop-line.line-index _ _ c.loop-line-test.false c.loop-line.invariant.written;
  cause = c.loop-line.invariant.no_fault;
}
