use Rattle.std.proofs.Common.{rules, ◌≡◌, ◌<◌, All, ℕ, subst, sym}
use Rattle.std.proofs.lemmas.List.{get_or_default}
use Rattle.rpc_pdu.proofs.body.BodyBytes.holding.Goals as goal

-- the bytes of a slice are below 256
pub invariant_of-result : goal.invariant_of-result
invariant_of-result c =
    let bytes = c.args.bytes.now in
    let all : All (λ (byte : ℕ). byte < 256) bytes =
    λ k d lt. subst (λ (byte : ℕ). byte < 256) (sym (get_or_default bytes k d 0 lt)) (c.type_inv.bytes k).fits in
    let kept : c.try_extend_from_slice.new.self.items ≡ bytes = search rules in
    (search rules, subst (All (λ (byte : ℕ). byte < 256)) (sym kept) all)
