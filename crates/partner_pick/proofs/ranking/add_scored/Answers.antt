use Rattle.std.proofs.Common.{◌≡◌, false, true, refl}
use Rattle.partner_pick.proofs.Steps.{ranked_push, ranked_skip}
use Rattle.partner_pick.proofs.ranking.add_scored.Goals as goal
use Rattle.partner_pick.proofs.ranking.add_scored.Goals.{then-has_candidate+in_ok-push, else-has_candidate}

pub loop-place-preserved : goal.loop-place-preserved
loop-place-preserved c =
    let entries = c.args.directory.now in
    let places = c.loop-place.places.items in
    elim c.if-has_candidate.branch [
      | then-has_candidate+in_ok-push w ↦
          let found = w.if-has_candidate.ensures.0 refl in
          rw (w.places-is, w.in_ok-push.ensures.items)
          (ranked_push c.args.role c.args.own.now entries c.args.wanted c.loop-place.place places c.loop-place.invariant found.0 found.1)
      | else-has_candidate w ↦
          rw w.places-is
          (ranked_skip c.args.role c.args.own.now entries c.args.wanted c.loop-place.place places c.loop-place.invariant
          (λ candidate same. let wrong : false ≡ true = w.if-has_candidate.ensures.1 (candidate, same) in cc))
    ]
