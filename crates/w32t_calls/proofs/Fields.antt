-- The numbers at a place in the body of a reply.
use Rattle.std.proofs.Common.{◌≡◌, ℕ, ◌≤◌, ◌<◌, ◌^◌, List, ◌++◌, length, take, drop, sym, ◌∙◌, ap, arith}
use Rattle.std.proofs.lemmas.List.{take_at}
use Rattle.byte_codec.specs.Numbers.{low_number_bytes, low_number_of, part_at}
use Rattle.byte_codec.proofs.Numbers.{length-low_number_bytes, low_number_of-low_number_bytes}
use Rattle.rpc_pdu.specs.declared.pdu.Pdu.{Pdu}
use Rattle.rpc_pdu.specs.Header.{fault_kind, response_kind}
use Rattle.rpc_pdu.specs.Pdu.{PduFits, header_with, need}

-- the number that was read at a place
pub number_read : (place count n : ℕ) (bytes rest : List ℕ) → drop place bytes ≡ low_number_bytes count n ++ rest → n < 256 ^ count
    → n ≡ low_number_of (part_at place count bytes)
number_read place count n bytes rest read fits =
    sym (ap (λ (l : List ℕ). low_number_of (take count l)) read
    ∙ ap low_number_of (take_at (low_number_bytes count n) rest count (length-low_number_bytes count n))
    ∙ low_number_of-low_number_bytes count n fits)

need_response : (pdu : Pdu) → pdu.kind ≡ response_kind → need (header_with pdu) pdu.body ≡ 8
unfolding need
need_response pdu is = rw is

need_fault : (pdu : Pdu) → pdu.kind ≡ fault_kind → need (header_with pdu) pdu.body ≡ 12
unfolding need
need_fault pdu is = rw is

-- what the body of a response and of a fault has
pub response_asks : (pdu : Pdu) → pdu.kind ≡ response_kind → PduFits pdu → 8 ≤ length pdu.body
response_asks pdu is fits = omega (arith, need_response pdu is, fits.enough)

pub fault_asks : (pdu : Pdu) → pdu.kind ≡ fault_kind → PduFits pdu → 12 ≤ length pdu.body
fault_asks pdu is fits = omega (arith, need_fault pdu is, fits.enough)
