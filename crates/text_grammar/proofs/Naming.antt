-- What stands in a name.
use Rattle.std.proofs.Common.{◌≡◌, ◌<◌, ℕ, true, false, List, get_or, refl, sym, ◌∙◌, ap, arith}
use Rattle.std.specs.List.{All}
use Rattle.text_grammar.specs.Bytes.{HasNo}
use Rattle.text_grammar.specs.Name.{IsName, is_name_byte}

-- a name has no byte in it that no name has
pub name_has_no : (byte : ℕ) (name : List ℕ) → is_name_byte byte ≡ false → IsName name → HasNo byte name
name_has_no byte name other named i within is =
    let good = named.bytes i 0 within in
    let wrong = sym other ∙ ap is_name_byte (sym is) ∙ good in
    cc wrong

-- no blank
pub name_no_blank : (name : List ℕ) → IsName name → HasNo 32 name
name_no_blank name named = name_has_no 32 name refl named

-- the bytes of a name are ASCII
name_byte_small : (byte : ℕ) → is_name_byte byte ≡ true → byte < 128
name_byte_small byte good = grind arith

pub name_is_ascii : (name : List ℕ) → IsName name → All (λ byte. byte < 128) name
name_is_ascii name named i d within = name_byte_small (get_or name i d) (named.bytes i d within)
