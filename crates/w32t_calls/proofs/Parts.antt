-- What the body of a request has.
use Rattle.std.specs.Prelude.{nat_le}
use Rattle.std.proofs.lemmas.Bool.{cases_Bool, cond-false, cond-true}
use Rattle.std.proofs.Common.{inl, inr, ◌≡◌, ℕ, ◌≤◌, length, ap, arith}
use Rattle.rpc_pdu.specs.declared.pdu.Pdu.{Pdu}
use Rattle.rpc_pdu.specs.Header.{request_kind}
use Rattle.rpc_pdu.specs.Pdu.{PduFits, header_with, need}
use Rattle.w32t_calls.specs.Answers.{stub_place}

-- a request that fits reaches to its stub
pub request_asks : (pdu : Pdu) → pdu.kind ≡ request_kind → PduFits pdu → stub_place pdu.flags ≤ length pdu.body
unfolding need
request_asks pdu is fits =
    let asks : need (header_with pdu) pdu.body ≡ stub_place pdu.flags =
    ap (λ (k : ℕ). need (record (header_with pdu) { kind = k }) pdu.body) is in
    omega (arith, fits.enough, asks)

pub request_long : (pdu : Pdu) → pdu.kind ≡ request_kind → PduFits pdu → 8 ≤ length pdu.body
request_long pdu is fits =
    elim (cases_Bool (nat_le 128 pdu.flags)) [
      | inl high ↦ let same : stub_place pdu.flags ≡ 24 = cond-true _ _ _ high in omega (arith, request_asks pdu is fits, same)
      | inr low ↦ let same : stub_place pdu.flags ≡ 8 = cond-false _ _ _ low in omega (arith, request_asks pdu is fits, same)
    ]
