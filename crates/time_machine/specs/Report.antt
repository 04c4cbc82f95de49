-- The report of a history: a line for each event that has one, and the line that closes it.
use Rattle.std.specs.Prelude.{ℕ, ◌/◌, ◌%◌, ◌^◌, List, [], ◌∷◌, ◌++◌, codes, decimal}
use Rattle.std.specs.Fmt.{signed_decimal}
use Rattle.edge_traits.specs.declared.datagram.Addr.{Addr}
use Rattle.time_machine.specs.declared.outcome.How.{How}
use Rattle.time_machine.specs.declared.outcome.How.TheVariants.{Slew, Step}
use Rattle.time_machine.specs.declared.outcome.Reason.{Reason}
use Rattle.time_machine.specs.declared.outcome.Reason.TheVariants.{BadLength, BadSource, BadMode, BadStratum, NoRequest, BadKeyId, BadDigest, BadTimes, TooBig}
use Rattle.time_machine.specs.declared.outcome.Outcome.{Outcome}
use Rattle.time_machine.specs.declared.outcome.Outcome.TheVariants.{Started, Idle, Sent, Moved, Refused}
use Rattle.time_machine.specs.declared.conf.Conf.{Conf}
use Rattle.time_machine.specs.Events.{History}
use Rattle.time_machine.specs.Machine.{told}
use Rattle.time_machine.specs.Entries.{gather}

-- the four numbers of an address, the first one the highest byte, and its port
abbrev pub addr_text : Addr → List ℕ
addr_text a =
    decimal (a.ip / 2 ^ 24) ++ codes "." ++ decimal (a.ip / 2 ^ 16 % 256) ++ codes "."
    ++ decimal (a.ip / 2 ^ 8 % 256) ++ codes "." ++ decimal (a.ip % 256) ++ codes ":" ++ decimal a.port

-- the way of a correction, as a line has it
abbrev pub how_text : How → List ℕ
how_text Slew = codes "slew"
how_text Step = codes "step"

-- the reason of a refusal, as a line has it
abbrev pub reason_text : Reason → List ℕ
reason_text BadLength = codes "BadLength"
reason_text BadSource = codes "BadSource"
reason_text BadMode = codes "BadMode"
reason_text BadStratum = codes "BadStratum"
reason_text NoRequest = codes "NoRequest"
reason_text BadKeyId = codes "BadKeyId"
reason_text BadDigest = codes "BadDigest"
reason_text BadTimes = codes "BadTimes"
reason_text TooBig = codes "TooBig"

-- the line of an outcome, with its line feed; an idle Tick has none
abbrev pub line_of : Outcome → List ℕ
line_of (Started mark) = codes "life mark=" ++ decimal mark ++ 10 ∷ []
line_of Idle = []
line_of (Sent to count bytes) = codes "send n=" ++ decimal count ++ codes " to=" ++ addr_text to ++ 10 ∷ []
line_of (Moved count offset how) = codes "moved n=" ++ decimal count ++ codes " offset=" ++ signed_decimal offset
    ++ codes " by=" ++ how_text how ++ 10 ∷ []
line_of (Refused reason) = codes "refused reason=" ++ reason_text reason ++ 10 ∷ []

-- the line with which a report closes: how many requests were sent, corrections made, and datagrams refused
abbrev pub total_line : (sent moved refused : ℕ) → List ℕ
total_line sent moved refused =
    codes "total sent=" ++ decimal sent ++ codes " moved=" ++ decimal moved
    ++ codes " refused=" ++ decimal refused ++ 10 ∷ []

-- the lines of a history, in the order of its events
unfoldable pub report_of : Conf → History → List ℕ
report_of conf history = gather (λ t. line_of t.outcome) (told conf history)
