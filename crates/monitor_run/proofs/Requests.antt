-- The plain request as bytes.
use Rattle.std.proofs.Common.{◌≡◌, ◌+◌, ℕ, List, ◌++◌, length, length-append, replicate, take, ◌∷◌, sym, ◌∙◌, ap, arith}
use Rattle.std.proofs.lemmas.List.{take_all}
use Rattle.std.proofs.Math.Seq.{take-append_seam}
use Rattle.ntp_wire.specs.declared.stamp.Stamp.{Stamp}
use Rattle.ntp_wire.specs.Header.{header_bytes}
use Rattle.ntp_wire.specs.Stamp.{stamp_bytes}
use Rattle.ntp_wire.proofs.Headers.{length-header_bytes, length-stamp_bytes}
use Rattle.ms_auth.specs.declared.packet.Kind.TheVariants.{Short}
use Rattle.ms_auth.specs.declared.packet.Packet.{Packet}
use Rattle.ms_auth.specs.Packet.{SpellsPacket, tail_bytes}
use Rattle.ms_auth.specs.Request.{request_bytes, request_tail_bytes}
use Rattle.monitor_run.specs.Request.{plain_request}

same_front : (n : ℕ) (xs ys more rest : List ℕ) → length xs ≡ n → length ys ≡ n → xs ++ more ≡ ys ++ rest → xs ≡ ys
same_front n xs ys more rest long also same =
    sym (take-append_seam xs more) ∙ ap (λ (l : List ℕ). take (length xs) l) same ∙ ap (λ (k : ℕ). take k (ys ++ rest)) (long ∙ sym also) ∙ take-append_seam ys rest

length-plain_request : (stamp : Stamp) → length (plain_request stamp) ≡ 48
length-plain_request stamp = length-append (0xDB ∷ 0 ∷ 0 ∷ 0xE9 ∷ replicate 36 0) (stamp_bytes stamp) ∙ ap (λ (n : ℕ). 40 + n) (length-stamp_bytes stamp)

-- the header of a member's request with the poll exponent 0
pub plain_header : (rid : ℕ) (stamp : Stamp) (p : Packet) → SpellsPacket p (request_bytes Short rid 0 stamp) → header_bytes p.header ≡ plain_request stamp
plain_header rid stamp p spells =
    same_front 48 (header_bytes p.header) (plain_request stamp) (tail_bytes p.tail) (request_tail_bytes Short rid)
    (length-header_bytes p.header spells.fits.header.reference_id) (length-plain_request stamp) (sym spells.written)

-- it is sent whole
pub plain_whole : (stamp : Stamp) → take 256 (plain_request stamp) ≡ plain_request stamp
plain_whole stamp = let long = length-plain_request stamp in take_all 256 (plain_request stamp) (omega (arith, long))
