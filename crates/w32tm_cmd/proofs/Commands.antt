-- Which command the words spell.
use Rattle.std.proofs.Common.{◌≡◌, ℕ, List, Result, Ok, Err}
use Rattle.w32tm_text.specs.declared.words.Action.{Action}
use Rattle.w32tm_text.specs.declared.words.BadWords.{BadWords}
use Rattle.w32tm_text.specs.declared.words.Command.{Command}
use Rattle.w32tm_text.specs.Words.{IsCommand, SpellsCommand}

-- words that were read as a command are those of its action
pub same_action : (action : Action) (words : List (List ℕ)) (command : Command) → IsCommand action words
    → ((c : Command) → SpellsCommand c words → ◌≡◌ {A = Result Command BadWords} (Ok command) (Ok c)) → command.action ≡ action
same_action action words command is found =
    let read = found is.command is.spelled in
    let same : command ≡ is.command = cc read in
    let its = is.is in
    cc (same, its)

-- words of a command are read
pub is_read : (action : Action) (words : List (List ℕ)) (bad : BadWords) → IsCommand action words
    → ((c : Command) → SpellsCommand c words → ◌≡◌ {A = Result Command BadWords} (Err bad) (Ok c)) → ⊥
is_read action words bad is found = let read = found is.command is.spelled in cc read
