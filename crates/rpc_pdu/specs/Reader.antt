-- What a reader of PDUs keeps, and what a call of it does.
use Rattle.std.specs.Prelude.{◌≡◌, ℕ, ◌+◌, Bool, true, false, List, [], ◌∷◌, ◌++◌, length, Option, Some, None, Result, Ok, Err, nat_lt, if◌then◌else◌}
use Rattle.base_specs.specs.Counts.{Fails}
use Rattle.base_specs.specs.Told.{LastIs}
use Rattle.byte_codec.specs.Numbers.{low_word_at}
use Rattle.edge_traits.specs.Wire.{Entry, Session, SessionIs, SessionTold, WireTook}
use Rattle.rpc_pdu.specs.declared.fault.PduFault.{PduFault}
use Rattle.rpc_pdu.specs.declared.fault.PduFault.TheVariants as fault
use Rattle.rpc_pdu.specs.declared.fault.Flaw.TheVariants.{Torn}
use Rattle.rpc_pdu.specs.declared.pdu.Pdu.{Pdu}
use Rattle.rpc_pdu.specs.Fill.{IsAtEnd, WireFailed}
use Rattle.rpc_pdu.specs.Header.{header_of}
use Rattle.rpc_pdu.specs.Pdu.{first_pdu, pdu_flaw, pdu_len}
use Rattle.rpc_pdu.specs.Stream.{FaultAt, PdusAre}

-- whether a reader can go on, where the next PDU begins, and the call identifier of the last whole header
pub record Reader : Type 0 where
  pub alive : Bool
  pub place : ℕ
  pub last_call : Option ℕ

-- what a call takes of the wire: these bytes, behind which a read failed exactly where it answers so
abbrev pub TookBy : Result (Option Pdu) PduFault → List ℕ → Option (List Entry) → Option (List Entry) → Type 0
TookBy (Ok next) taken old new = WireTook taken old new
TookBy (Err fault.ReadFault) taken old new = WireFailed taken old new
TookBy (Err (fault.BadVersion at)) taken old new = WireTook taken old new
TookBy (Err (fault.BadType at)) taken old new = WireTook taken old new
TookBy (Err (fault.BadFragment at)) taken old new = WireTook taken old new
TookBy (Err (fault.BadDrep at)) taken old new = WireTook taken old new
TookBy (Err (fault.BadLength at)) taken old new = WireTook taken old new
TookBy (Err (fault.BadAuth at)) taken old new = WireTook taken old new
TookBy (Err (fault.BadBody at)) taken old new = WireTook taken old new
TookBy (Err (fault.Torn at)) taken old new = WireTook taken old new

-- The bytes taken are those of a header, which has this fault.
pub record ShowsHeader (place : ℕ) (taken : List ℕ) (wrong : PduFault) : Type 0 where
  pub header : length taken ≡ 16
  pub shows : first_pdu place taken ≡ Err wrong

-- What the bytes taken show of the PDU that begins at this place: they are its bytes and no more, or those of its
-- header where that is at fault. Where none were taken, or the PDU is torn, nothing is left behind them. Where a read
-- failed, of an open session, they aren't a whole PDU yet, nor at fault.
abbrev pub Shows : Result (Option Pdu) PduFault → ℕ → List ℕ → Bool → Option (List Entry) → Type 0
Shows (Ok (Some pdu)) place taken is_open now = (length taken ≡ pdu_len pdu) × (first_pdu place taken ≡ Ok (Some pdu))
Shows (Ok None) place taken is_open now = (taken ≡ []) × IsAtEnd is_open now
Shows (Err (fault.BadVersion at)) place taken is_open now = ShowsHeader place taken (fault.BadVersion at)
Shows (Err (fault.BadType at)) place taken is_open now = ShowsHeader place taken (fault.BadType at)
Shows (Err (fault.BadFragment at)) place taken is_open now = ShowsHeader place taken (fault.BadFragment at)
Shows (Err (fault.BadDrep at)) place taken is_open now = ShowsHeader place taken (fault.BadDrep at)
Shows (Err (fault.BadLength at)) place taken is_open now = ShowsHeader place taken (fault.BadLength at)
Shows (Err (fault.BadAuth at)) place taken is_open now = ShowsHeader place taken (fault.BadAuth at)
Shows (Err (fault.BadBody at)) place taken is_open now =
    (length taken ≡ (header_of taken).fragment_len) × (first_pdu place taken ≡ Err (fault.BadBody at))
Shows (Err (fault.Torn at)) place taken is_open now =
    (first_pdu place taken ≡ Err (fault.Torn at)) × IsAtEnd is_open now
Shows (Err fault.ReadFault) place taken is_open now = (pdu_flaw taken ≡ Some Torn) × (is_open ≡ true)

-- What a call takes and finds, when these bytes of the PDU that begins at this place have been taken before. Where no
-- session is open nothing is taken.
pub record Takes (answer : Result (Option Pdu) PduFault) (place : ℕ) (before : List ℕ) (is_open : Bool)
    (old new : Option (List Entry)) : Type 0 where
  pub taken : List ℕ
  pub took : TookBy answer taken old new
  pub closed : is_open ≡ false → taken ≡ []
  pub shows : Shows answer place (before ++ taken) is_open new

-- the answer of a call that reads the next PDU
abbrev pub as_next : Result Pdu PduFault → Result (Option Pdu) PduFault
as_next (Ok pdu) = Ok (Some pdu)
as_next (Err wrong) = Err wrong

-- the last call identifier, when these bytes of a PDU were taken
abbrev pub called : List ℕ → Option ℕ → Option ℕ
called taken before = if nat_lt (length taken) 16 then before else Some (low_word_at 12 taken)

-- a reader behind an answer that took these bytes: it stands behind the PDU, and a fault kills it
abbrev pub reader_after : Result (Option Pdu) PduFault → List ℕ → Reader → Reader
reader_after (Ok (Some pdu)) taken old = record old { place = old.place + pdu_len pdu; last_call = Some pdu.call_id }
reader_after (Ok None) taken old = old
reader_after (Err wrong) taken old = record old { alive = false; last_call = called taken old.last_call }

-- what a call does to the reader and to the wire
pub record Nexts (answer : Result (Option Pdu) PduFault) (old new : Reader) (is_open : Bool)
    (told now : Option (List Entry)) : Type 0 where
  pub takes : Takes answer old.place [] is_open told now
  pub reader : new ≡ reader_after answer takes.taken old

-- a reader after an answer: a fault kills it
abbrev pub marked : Result (Option Pdu) PduFault → Reader → Reader
marked (Ok next) reader = reader
marked (Err wrong) reader = record reader { alive = false }

-- a read that failed raises the count, and no other answer does
abbrev pub NextCounts : Result (Option Pdu) PduFault → ℕ → ℕ → Type 0
NextCounts (Ok next) before now = now ≡ before
NextCounts (Err fault.ReadFault) before now = Fails before now
NextCounts (Err (fault.BadVersion at)) before now = now ≡ before
NextCounts (Err (fault.BadType at)) before now = now ≡ before
NextCounts (Err (fault.BadFragment at)) before now = now ≡ before
NextCounts (Err (fault.BadDrep at)) before now = now ≡ before
NextCounts (Err (fault.BadLength at)) before now = now ≡ before
NextCounts (Err (fault.BadAuth at)) before now = now ≡ before
NextCounts (Err (fault.BadBody at)) before now = now ≡ before
NextCounts (Err (fault.Torn at)) before now = now ≡ before

-- these bytes are left to be read: those left of the open session, and none where none is open
abbrev pub Leaves : Bool → Option (List Entry) → List ℕ → Type 0
Leaves true told bytes =
    (earlier : List Entry) × (session : SessionTold)
    × (told ≡ Some (earlier ++ Session session ∷ [])) × (session.left ≡ bytes)
Leaves false told bytes = bytes ≡ []

-- nothing was taken yet of the session opened last, where the wire tells it
abbrev pub IsFresh : Option (List Entry) → Type 0
IsFresh told = LastIs (SessionIs (λ session. session.taken ≡ [])) told

-- What was taken of the session opened last are these PDUs, and the reader stands behind them.
abbrev pub HasRead : List Pdu → Reader → Option (List Entry) → Type 0
HasRead pdus reader told =
    LastIs (SessionIs (λ session. PdusAre 0 pdus session.taken × (reader.place ≡ length session.taken))) told

-- What an answer says of all the bytes of a session: one PDU more was taken, or they are the PDUs read so far, or they
-- have this first fault.
abbrev pub Finds : Result (Option Pdu) PduFault → List Pdu → Reader → SessionTold → Type 0
Finds (Ok (Some pdu)) pdus reader session =
    PdusAre 0 (pdus ++ pdu ∷ []) session.taken × (reader.place ≡ length session.taken)
Finds (Ok None) pdus reader session =
    PdusAre 0 pdus session.taken × (reader.place ≡ length session.taken) × (session.left ≡ [])
Finds (Err fault.ReadFault) pdus reader session = session.read_failed ≡ true
Finds (Err (fault.BadVersion at)) pdus reader session = FaultAt (session.taken ++ session.left) (fault.BadVersion at)
Finds (Err (fault.BadType at)) pdus reader session = FaultAt (session.taken ++ session.left) (fault.BadType at)
Finds (Err (fault.BadFragment at)) pdus reader session = FaultAt (session.taken ++ session.left) (fault.BadFragment at)
Finds (Err (fault.BadDrep at)) pdus reader session = FaultAt (session.taken ++ session.left) (fault.BadDrep at)
Finds (Err (fault.BadLength at)) pdus reader session = FaultAt (session.taken ++ session.left) (fault.BadLength at)
Finds (Err (fault.BadAuth at)) pdus reader session = FaultAt (session.taken ++ session.left) (fault.BadAuth at)
Finds (Err (fault.BadBody at)) pdus reader session = FaultAt (session.taken ++ session.left) (fault.BadBody at)
Finds (Err (fault.Torn at)) pdus reader session = FaultAt (session.taken ++ session.left) (fault.Torn at)

-- a reader that has read these PDUs goes on
abbrev pub ReadsOn : Result (Option Pdu) PduFault → List Pdu → Reader → Option (List Entry) → Type 0
ReadsOn answer pdus reader told = LastIs (SessionIs (Finds answer pdus reader)) told
