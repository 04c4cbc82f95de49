-- The lines that name computers.
use Rattle.std.specs.Prelude.{◌≡◌, ◌++◌, ◌∷◌, ℕ, Bool, List, [], codes, nat_eq, if◌then◌else◌}
use Rattle.std.specs.List.{starts_with}
use Rattle.text_grammar.specs.Name.{IsName}
use Rattle.text_grammar.specs.Address.{SpellsSocketAddress}
use Rattle.text_grammar.specs.Lines.{TextForm}
use Rattle.partner_pick.specs.declared.entry.Entry.{Entry}

-- a computer line: it begins with `computer` and a blank
abbrev pub is_computer_line : List ℕ → Bool
is_computer_line line = starts_with nat_eq line (codes "computer ")

-- a flag that is set is its letter, and one that isn't is `-`
abbrev pub flag_byte : ℕ → Bool → ℕ
flag_byte letter flag = if flag then letter else 45

-- `S` in the site, `R` reliable, `P` of the parent domain, `E` a PDC emulator
abbrev pub flags_text : Bool → Bool → Bool → Bool → List ℕ
flags_text in_site reliable parent pdc =
    flag_byte 83 in_site ∷ flag_byte 82 reliable ∷ flag_byte 80 parent ∷ flag_byte 69 pdc ∷ []

-- `computer NAME ADDRESS:PORT FLAGS`
pub record SpellsEntry (entry : Entry) (line : List ℕ) : Type 0 where
  pub named : IsName entry.name
  pub address : List ℕ
  pub address_spelled : SpellsSocketAddress entry.addr.ip entry.addr.port address
  pub flags : List ℕ
  pub flags_are : flags ≡ flags_text entry.in_site entry.reliable entry.parent entry.pdc
  pub words : line ≡ codes "computer " ++ entry.name ++ 32 ∷ (address ++ 32 ∷ flags)

-- the text of a directory: computer lines with distinct names, among others that are not looked at
abbrev pub computer_text : TextForm Entry
computer_text = record { is_seen = is_computer_line; Spells = SpellsEntry; AreSame = λ a b. a.name ≡ b.name }
