-- What the reader of a text of computers answers.
use Rattle.std.specs.Prelude.{◌≡◌, ◌++◌, ◌∷◌, ◌⊎◌, ⊤, ℕ, true, false, List, [], Result, Ok, Err}
use Rattle.text_grammar.specs.Lines.{Say, IsFirstBad, SpellsNothing, SaysAgain}
use Rattle.partner_pick.specs.declared.entry.Entry.{Entry}
use Rattle.partner_pick.specs.declared.fault.DirFault.{DirFault}
use Rattle.partner_pick.specs.declared.fault.DirFault.TheVariants.{BadLine, TwiceName, NoMemory}
use Rattle.partner_pick.specs.Names.{HasName}
use Rattle.partner_pick.specs.ComputerText.{computer_text, is_computer_line, SpellsEntry}

-- An answer that is true of these lines: the entries of the computer lines, or the first bad one. Want of memory
-- says nothing of them.
abbrev pub IsAnswer : List (List ℕ) → Result (List Entry) DirFault → Type 0
IsAnswer lines (Ok entries) = Say computer_text lines entries
IsAnswer lines (Err (BadLine n)) = IsFirstBad computer_text (SpellsNothing computer_text) lines n
IsAnswer lines (Err (TwiceName n)) = IsFirstBad computer_text (SaysAgain computer_text) lines n
IsAnswer lines (Err NoMemory) = ⊤

-- a computer line that spells a new entry, beside those of the lines before it
pub record SpellsNew (entry : Entry) (entries : List Entry) (line : List ℕ) : Type 0 where
  pub seen : is_computer_line line ≡ true
  pub spelled : SpellsEntry entry line
  pub fresh : ¬ HasName entries entry.name

-- What is done with line n: its new entry stands at the end, or it has none and isn't looked at, or it is bad
-- beside the entries of the lines before it.
abbrev pub Takes : ℕ → List ℕ → List Entry → List Entry → Result (Unit {0}) DirFault → Type 0
Takes n line old new (Ok done) =
    ((is_computer_line line ≡ false) × (new ≡ old))
    ⊎ ((entry : Entry) × SpellsNew entry old line × (new ≡ old ++ entry ∷ []))
Takes n line old new (Err (BadLine m)) = (m ≡ n) × SpellsNothing computer_text old line
Takes n line old new (Err (TwiceName m)) = (m ≡ n) × SaysAgain computer_text old line
Takes n line old new (Err NoMemory) = ⊤
