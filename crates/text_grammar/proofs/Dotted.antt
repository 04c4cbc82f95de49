-- What stands in an address.
use Rattle.std.proofs.Common.{◌≡◌, ◌≢◌, ◌<◌, ◌++◌, ◌∷◌, ℕ, List, decimal, sym, ◌∙◌, arith}
use Rattle.std.specs.Char.{digit_value}
use Rattle.std.proofs.lemmas.Fmt.{decimal_injective}
use Rattle.text_grammar.specs.Bytes.{HasNo}
use Rattle.text_grammar.specs.Address.{SpellsAddress, SpellsPort, SpellsSocketAddress}
use Rattle.text_grammar.proofs.Cuts.{one_cut, has_no_append, has_no_cons}
use Rattle.text_grammar.proofs.Decimals.{decimal_has_no, no_dot}

-- an address has no byte in it that is neither a digit nor a dot
pub address_has_no : (byte ip : ℕ) (text : List ℕ) → (digit_value byte < 10 → ⊥) → 46 ≢ byte → SpellsAddress ip text → HasNo byte text
address_has_no byte ip text digit dot spells =
    let a = decimal_has_no byte spells.a digit (omega (arith, spells.a_fits)) in
    let b = decimal_has_no byte spells.b digit (omega (arith, spells.b_fits)) in
    let c = decimal_has_no byte spells.c digit (omega (arith, spells.c_fits)) in
    let d = decimal_has_no byte spells.d digit (omega (arith, spells.d_fits)) in
    rw spells.written (has_no_append byte _ _ a (has_no_cons byte 46 _ dot (has_no_append byte _ _ b (has_no_cons byte 46 _ dot (has_no_append byte _ _ c (has_no_cons byte 46 _ dot d))))))

-- no colon
pub address_no_colon : (ip : ℕ) (text : List ℕ) → SpellsAddress ip text → HasNo 58 text
address_no_colon ip text spells = address_has_no 58 ip text (λ h. absurd (omega (arith, h))) (λ e. absurd (omega (arith, e))) spells

-- no blank
pub address_no_blank : (ip : ℕ) (text : List ℕ) → SpellsAddress ip text → HasNo 32 text
address_no_blank ip text spells = address_has_no 32 ip text (λ h. absurd (omega (arith, h))) (λ e. absurd (omega (arith, e))) spells

-- an address and a port have no blank
pub socket_no_blank : (ip port : ℕ) (text : List ℕ) → SpellsSocketAddress ip port text → HasNo 32 text
socket_no_blank ip port text spells =
    let digits = decimal_has_no 32 port (λ h. absurd (omega (arith, h))) (omega (arith, spells.port_spelled.fits)) in
    let port_none : HasNo 32 spells.digits = rw spells.port_spelled.written digits in
    rw spells.written (has_no_append 32 _ _ (address_no_blank ip _ spells.address_spelled) (has_no_cons 32 58 _ (λ e. absurd (omega (arith, e))) port_none))

-- equal digits before the first dot, and equal rests
one_part : (a b : ℕ) (x y : List ℕ) → a < 256 → b < 256 → decimal a ++ 46 ∷ x ≡ decimal b ++ 46 ∷ y → (a ≡ b) × (x ≡ y)
one_part a b x y a_fits b_fits same =
    let cut = one_cut 46 (decimal a) x (decimal b) y (no_dot a (omega (arith, a_fits))) (no_dot b (omega (arith, b_fits))) same in
    (decimal_injective a b (omega (arith, a_fits)) (omega (arith, b_fits)) cut.0, cut.1)

-- a text spells one address
pub one_address : (ip jp : ℕ) (text : List ℕ) → SpellsAddress ip text → SpellsAddress jp text → ip ≡ jp
one_address ip jp text p q =
    let first = one_part p.a q.a _ _ p.a_fits q.a_fits (sym p.written ∙ q.written) in
    let second = one_part p.b q.b _ _ p.b_fits q.b_fits first.1 in
    let third = one_part p.c q.c _ _ p.c_fits q.c_fits second.1 in
    let fourth = decimal_injective p.d q.d (omega (arith, p.d_fits)) (omega (arith, q.d_fits)) third.1 in
    omega (arith, p.number, q.number, first.0, second.0, third.0, fourth)

-- and one port
pub one_port : (a b : ℕ) (text : List ℕ) → SpellsPort a text → SpellsPort b text → a ≡ b
one_port a b text p q = decimal_injective a b (omega (arith, p.fits)) (omega (arith, q.fits)) (sym p.written ∙ q.written)

pub one_socket_address : (ip port jp qort : ℕ) (text : List ℕ) → SpellsSocketAddress ip port text → SpellsSocketAddress jp qort text
    → (ip ≡ jp) × (port ≡ qort)
one_socket_address ip port jp qort text p q =
    let cut = one_cut 58 p.address p.digits q.address q.digits (address_no_colon ip _ p.address_spelled) (address_no_colon jp _ q.address_spelled) (sym p.written ∙ q.written) in (
      one_address ip jp q.address (rw cut.0 at p.address_spelled) q.address_spelled,
      one_port port qort q.digits (rw cut.1 at p.port_spelled) q.port_spelled,
    )
