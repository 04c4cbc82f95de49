use Rattle.std.proofs.Common.{◌≡◌, ◌-◌, take, sym, ◌∙◌, ap, inl, inr}
use Rattle.capture_fmt.proofs.Filling.{fills, held_after}
use Rattle.capture_fmt.proofs.buffer.Buffer.fill.Goals.{in-Bytes, in-End}
use Rattle.capture_fmt.proofs.buffer.Buffer.fill.Goals as goal

pub returns-clause-fills : goal.returns-clause-fills
returns-clause-fills g c =
    let len = c.self.inside.to - c.self.inside.from in
    let bytes = c.read_behind-taken.new.bytes in
    let front : take len bytes ≡ c.args.self.now = c.read_behind-taken.ensures.front ∙ c.move_to_front.ensures ∙ c.self.view_is in
    elim c.match-taken.branch [
      | in-Bytes w ↦ fills _ c.read_behind-taken.result _ bytes len _ _ _ (w.taken-is ∙ sym w.in-Bytes.is) front (w.self-is ∙ sym (ap (held_after len) w.in-Bytes.is)) c.read_behind-taken.ensures.read
      | in-End w ↦ fills _ c.read_behind-taken.result _ bytes len _ _ _ w.taken-is front (elim w.in-End.is [
        | inl end ↦ w.self-is ∙ sym (ap (held_after len) end)
        | inr failed ↦ w.self-is ∙ sym (ap (held_after len) failed)
      ]) c.read_behind-taken.ensures.read
    ]
