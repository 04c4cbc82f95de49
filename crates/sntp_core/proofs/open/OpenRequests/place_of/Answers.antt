use Rattle.std.proofs.Common.{rules}
use Rattle.std.proofs.lemmas.List.Sorted.{answers_always}
use Rattle.sntp_core.proofs.Finding.{searched}
use Rattle.sntp_core.proofs.open.OpenRequests.place_of.Goals as goal

-- the closure gives a request's count
pub returns : goal.returns
returns c =
    let facts = c.binary_search_by_key.ensures in
    let by_count = facts.position (λ request. request.count) (answers_always _ _ _ (λ f a r g called. search rules)) in
    rw (c.ok.ensures.value, ← c.self.view_is, ← c.as_slice.ensures.value) (searched _ (rw c.as_slice.ensures.value c.self.invariant) c.args.count _ facts.bound by_count)
