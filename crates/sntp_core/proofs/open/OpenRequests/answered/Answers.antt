use Rattle.std.proofs.Common.{◌≡◌, true, false, List, Some, None, w64, sym, ap, ◌∙◌}
use Rattle.std.proofs.lemmas.Int.{to_z-of_z}
use Rattle.std.proofs.lemmas.Bool.{cond-true, cond-false}
use Rattle.time_machine.specs.declared.outcome.Request.{Request}
use Rattle.time_machine.specs.Verdict.{is_answered}
use Rattle.sntp_core.specs.Open.{IsPlaceOf, IsRising, request_in}
use Rattle.sntp_core.proofs.Finding.{absent, found}
use Rattle.sntp_core.proofs.open.OpenRequests.answered.Goals as goal

pub returns-in_err-place : goal.returns-in_err-place
returns-in_err-place c =
    let none : IsPlaceOf c.args.stamp.seconds c.args.self.now None = rw c.in_err-place.was at c.place_of.ensures in
    c.from_residual.ensures ∙ sym (absent c.args.now c.args.stamp c.args.self.now none)

pub returns-then-is_answered : goal.returns-then-is_answered
returns-then-is_answered c =
    let place = c.in_ok-place.place in
    let same : c.as_slice.result.now ≡ c.args.self.now = c.as_slice.ensures.value ∙ c.self.view_is in
    let rising : IsRising c.args.self.now = rw (← c.self.view_is) c.self.invariant in
    let at : IsPlaceOf c.args.stamp.seconds c.args.self.now (Some place) = rw c.in_ok-place.was at c.place_of.ensures in
    let asked : c.is_answered.result ≡ is_answered c.args.now c.args.stamp (request_in c.as_slice.result.now place) =
    rw (to_z-of_z w64 c.args.now c.ranges.now) at c.is_answered.ensures in
    let passes : is_answered c.args.now c.args.stamp (request_in c.args.self.now place) ≡ true =
    sym (ap (λ (l : List Request). is_answered c.args.now c.args.stamp (request_in l place)) same) ∙ sym asked ∙ c.if-is_answered.true in
    ap (λ (l : List Request). Some (request_in l place)) same
    ∙ sym (found c.args.now c.args.stamp c.args.self.now place rising at ∙ cond-true _ _ _ passes)

pub returns-else-is_answered : goal.returns-else-is_answered
returns-else-is_answered c =
    let place = c.in_ok-place.place in
    let same : c.as_slice.result.now ≡ c.args.self.now = c.as_slice.ensures.value ∙ c.self.view_is in
    let rising : IsRising c.args.self.now = rw (← c.self.view_is) c.self.invariant in
    let at : IsPlaceOf c.args.stamp.seconds c.args.self.now (Some place) = rw c.in_ok-place.was at c.place_of.ensures in
    let asked : c.is_answered.result ≡ is_answered c.args.now c.args.stamp (request_in c.as_slice.result.now place) =
    rw (to_z-of_z w64 c.args.now c.ranges.now) at c.is_answered.ensures in
    let fails : is_answered c.args.now c.args.stamp (request_in c.args.self.now place) ≡ false =
    sym (ap (λ (l : List Request). is_answered c.args.now c.args.stamp (request_in l place)) same) ∙ sym asked ∙ c.if-is_answered.false in
    sym (found c.args.now c.args.stamp c.args.self.now place rising at ∙ cond-false _ _ _ fails)
