use Rattle.std.proofs.Common.{◌≡◌}
use Rattle.std.proofs.lemmas.Result.{err_from_is_err_and}
use Rattle.run_deeds.specs.declared.life_end.Why.TheVariants.{SinkFault}
use Rattle.member_run.proofs.Writes.{closes_none, closes_on}
use Rattle.member_run.proofs.closing.write_closing_lines.Goals as goal

pub returns-in_err-write_piece : goal.returns-in_err-write_piece
returns-in_err-write_piece g c =
    let p = err_from_is_err_and c.from_residual.result c.from_residual.ensures.1 in
    let fault : c.in_err-write_piece.field-0.0 ≡ SinkFault = cc c.in_err-write_piece.ensures.why in
    let wrote = rw (fault, c.as_slice.ensures.bytes, c.total_line-total.ensures.text, c.from.ensures, c.from-2.ensures) at c.in_err-write_piece.ensures.bytes in
    rw (p.1, p.2, fault) (closes_none c.args.end.now _ _ _ _ wrote)

pub returns : goal.returns
returns g c =
    let first = rw (c.as_slice.ensures.bytes, c.total_line-total.ensures.text, c.from.ensures, c.from-2.ensures) at c.in_ok-write_piece.ensures.bytes in
    let second = rw (c.as_slice-2.ensures.bytes, c.link_line.ensures.text) at c.write_piece-2.ensures.bytes in
    closes_on c.args.end.now _ _ _ _ _ _ _ first second
