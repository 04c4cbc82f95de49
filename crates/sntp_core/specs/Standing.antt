-- What a member keeps of a history.
use Rattle.std.specs.Prelude.{◌≡◌, ◌↔◌, ◌∷◌}
use Rattle.capture_fmt.specs.declared.event.Event.{Event}
use Rattle.time_machine.specs.declared.conf.Conf.{Conf}
use Rattle.time_machine.specs.Events.{History}
use Rattle.time_machine.specs.Words.{Words, words}
use Rattle.time_machine.specs.Machine.{told}
use Rattle.time_machine.specs.Growing.{MayFollow, Grows}
use Rattle.time_machine.specs.Kept.{kept}
use Rattle.sntp_core.specs.declared.member.Member.{Member}

-- what a member is set to
abbrev pub conf_of : Member → Conf
conf_of m = m.conf

-- what a member keeps, in the words of the time machine: of the changes of partner it keeps the present partner alone
abbrev pub words_of : Member → Words
words_of m =
    record {
      mark = m.mark;
      sent = m.sent;
      greatest = m.greatest;
      base = m.base;
      poll = m.poll;
      changes = m.partner;
      open_requests = m.open_requests;
      source = m.source;
    }

-- the history grows, and the member keeps what stands at its end
pub record StandsForHistory (m : Member) (history : History) : Type 0 where
  pub grows : Grows (conf_of m) history
  pub keeps : words_of m ≡ kept (conf_of m) (words (conf_of m) (told (conf_of m) history))

-- an event may follow on what a member keeps just where the history followed by it grows
abbrev pub LawOfFollowing : Type 0
LawOfFollowing = (m : Member) (history : History) (e : Event) → StandsForHistory m history →
    (MayFollow (conf_of m) (words_of m) e ↔ Grows (conf_of m) (e ∷ history))
