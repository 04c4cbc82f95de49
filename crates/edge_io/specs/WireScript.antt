-- What a wire in memory will do.
use Rattle.std.specs.Prelude.{◌≡◌, ℕ, ◌+◌, ◌||◌, if◌then◌else◌, List, [], ◌∷◌, ◌++◌, IfSome, length, drop, nat_lt, Option, Some, None}
use Rattle.std.specs.Option.{option_map, option_to_list}
use Rattle.base_specs.specs.Counts.{next_count}
use Rattle.edge_traits.specs.declared.sink.Put.{Put}
use Rattle.edge_traits.specs.declared.sink.Put.TheVariants as write
use Rattle.edge_traits.specs.declared.source.Take.{Take}
use Rattle.edge_traits.specs.declared.source.Take.TheVariants as read
use Rattle.edge_traits.specs.declared.wire.Opened.{Opened}
use Rattle.edge_traits.specs.declared.wire.Opened.TheVariants as opened
use Rattle.edge_traits.specs.Wire.{Entry, Session, NoMore, Failed}
use Rattle.edge_io.specs.Calls.{is_listed}
use Rattle.edge_io.specs.SessionScript.{is_too_long, session_answer, session_read, session_written, SessionScript}

-- The sessions to come, those that were closed, and the one that is open. Then the answers before the open session,
-- where the wire tells them, and how many answers it can tell. Then the numbers of the calls that fail, the calls
-- made, and how many requests and reads failed, and how many writes.
pub record WireScript : Type 0 where
  pub waiting : List SessionScript
  pub closed : List SessionScript
  pub current : Option SessionScript
  pub earlier : Option (List Opened)
  pub room : ℕ
  pub fails : List ℕ
  pub calls : ℕ
  pub faults : ℕ
  pub write_faults : ℕ

-- the entries of these answers, which opened these sessions in turn
unfoldable pub entries_of : List Opened → List SessionScript → List Entry
entries_of [] sessions = []
entries_of (opened.Session ∷ answers) [] = []
entries_of (opened.Session ∷ answers) (session ∷ sessions) = Session session.told ∷ entries_of answers sessions
entries_of (opened.NoMore ∷ answers) sessions = NoMore ∷ entries_of answers sessions
entries_of (opened.Failed ∷ answers) sessions = Failed ∷ entries_of answers sessions

-- the entry of the open session
abbrev pub open_entry : Option SessionScript → List Entry
open_entry None = []
open_entry (Some session) = Session session.told ∷ []

-- what is told of these answers and sessions, the open one last
abbrev pub told_as : Option (List Opened) → List SessionScript → Option SessionScript → Option (List Entry)
told_as None closed current = None
told_as (Some answers) closed current = Some (entries_of answers closed ++ open_entry current)

-- what a wire tells
abbrev pub told_of : WireScript → Option (List Entry)
told_of s = told_as s.earlier s.closed s.current

-- the sessions that were opened, the open one last
abbrev pub opened_of : WireScript → List SessionScript
opened_of s = s.closed ++ option_to_list s.current

-- how many sessions these answers opened
unfoldable pub opened_in : List Opened → ℕ
opened_in [] = 0
opened_in (opened.Session ∷ answers) = opened_in answers + 1
opened_in (opened.NoMore ∷ answers) = opened_in answers
opened_in (opened.Failed ∷ answers) = opened_in answers

-- the told answers before the open session opened the sessions that are closed
abbrev pub IsCounted : Option (List Opened) → List SessionScript → Type 0
IsCounted earlier closed = IfSome earlier (λ answers. opened_in answers ≡ length closed)

-- the answer that opened the open session
abbrev pub open_answer : Option SessionScript → List Opened
open_answer None = []
open_answer (Some session) = opened.Session ∷ []

-- the open session is closed
abbrev pub closed_up : WireScript → WireScript
closed_up s = record s {
  closed = opened_of s;
  current = None;
  earlier = option_map (λ answers. answers ++ open_answer s.current) s.earlier;
}

-- what is told, where there is room for one more answer; where there is none, nothing from then on
abbrev pub with_room : ℕ → Option (List Opened) → Option (List Opened)
with_room room None = None
with_room room (Some answers) = if nat_lt (length answers) room then Some answers else None

-- what is told with one more answer
abbrev pub with_answer : ℕ → Opened → Option (List Opened) → Option (List Opened)
with_answer room answer earlier = option_map (λ answers. answers ++ answer ∷ []) (with_room room earlier)

-- the first of the sessions to come, where there is one
abbrev pub first_session : List SessionScript → Option SessionScript
first_session [] = None
first_session (session ∷ later) = Some session

-- whether there is one
abbrev pub first_opened : List SessionScript → Opened
first_opened [] = opened.NoMore
first_opened (session ∷ later) = opened.Session

-- A request that is not to fail opens the next of the sessions to come.
abbrev pub next_answer : WireScript → Opened
next_answer s = if is_listed s.fails (next_count s.calls) then opened.Failed else first_opened s.waiting

-- the next session is open
abbrev pub begun : WireScript → WireScript
begun s = record s {
  waiting = drop 1 s.waiting;
  current = first_session s.waiting;
  earlier = with_room s.room s.earlier;
}

-- what a request leaves, where no session is open
abbrev pub next_opened : Opened → WireScript → WireScript
next_opened opened.Session s = record (begun s) { calls = next_count s.calls }
next_opened opened.NoMore s = record s {
  earlier = with_answer s.room opened.NoMore s.earlier;
  calls = next_count s.calls;
}
next_opened opened.Failed s = record s {
  earlier = with_answer s.room opened.Failed s.earlier;
  calls = next_count s.calls;
  faults = next_count s.faults;
}

-- a request closes the open session first
abbrev pub wire_opened : Opened → WireScript → WireScript
wire_opened answer s = next_opened answer (closed_up s)

-- A read that is not to fail is one of the open session, and the end where none is open.
abbrev pub wire_read_answer : WireScript → ℕ → Take
wire_read_answer s room = elim s.current [
  | None ↦ read.End
  | Some session ↦ if is_listed s.fails (next_count s.calls) then read.Failed else session_answer session room
]

-- the count of faults behind a read
abbrev pub faults_behind_read : Take → ℕ → ℕ
faults_behind_read (read.Bytes count) faults = faults
faults_behind_read read.End faults = faults
faults_behind_read read.Failed faults = next_count faults

-- what a read leaves
abbrev pub wire_read : Take → WireScript → WireScript
wire_read result s = record s {
  current = option_map (session_read result) s.current;
  calls = next_count s.calls;
  faults = faults_behind_read result s.faults;
}

-- A write fails where it is listed, where the open session has no room for it, and where none is open.
abbrev pub wire_write_answer : WireScript → ℕ → Put
wire_write_answer s count = elim s.current [
  | None ↦ write.Failed
  | Some session ↦
      if is_listed s.fails (next_count s.calls) || is_too_long session count then write.Failed else write.Done
]

-- the count of faults behind a write
abbrev pub faults_behind_write : Put → ℕ → ℕ
faults_behind_write write.Done faults = faults
faults_behind_write write.Failed faults = next_count faults

-- what a write leaves
abbrev pub wire_written : Put → List ℕ → WireScript → WireScript
wire_written result piece s = record s {
  current = option_map (session_written result piece) s.current;
  calls = next_count s.calls;
  write_faults = faults_behind_write result s.write_faults;
}
