-- What a wire tells and gives, and what its answers do to its counts of faults.
use Rattle.std.specs.Prelude.{◌≡◌, ◌≤◌, ◌⊎◌, ℕ, Bool, true, false, List, [], ◌∷◌, ◌++◌, length, take, flat_map, Option}
use Rattle.base_specs.specs.Counts.{Fails}
use Rattle.base_specs.specs.Told.{Grew, LastIs, LastTold}
use Rattle.edge_traits.specs.declared.sink.Put.{Put}
use Rattle.edge_traits.specs.declared.sink.Put.TheVariants as write
use Rattle.edge_traits.specs.declared.source.Take.{Take}
use Rattle.edge_traits.specs.declared.source.Take.TheVariants as read
use Rattle.edge_traits.specs.declared.wire.Opened.{Opened}
use Rattle.edge_traits.specs.declared.wire.Opened.TheVariants as opened

-- what one write added to a session, and how many bytes had been taken of it before
pub record Written : Type 0 where
  pub behind : ℕ
  pub bytes : List ℕ

-- The bytes taken of a session, those left of it, and the writes to it, the oldest first; and whether a read of it
-- failed, and whether a write of it failed.
pub record SessionTold : Type 0 where
  pub taken : List ℕ
  pub left : List ℕ
  pub writes : List Written
  pub read_failed : Bool
  pub write_failed : Bool

-- all bytes that were written to a session
abbrev pub written_to : SessionTold → List ℕ
written_to told = flat_map (λ (w : Written). w.bytes) told.writes

-- what was answered to a request for a session, and the session that it opened
pub data Entry : Type 0 where
  Session : (told : SessionTold) → Entry
  NoMore : Entry
  Failed : Entry

-- a session that was just opened, with so much to read
abbrev pub fresh : List ℕ → SessionTold
fresh left = record { taken = []; left = left; writes = []; read_failed = false; write_failed = false }

-- each answer is one more entry, and the earlier entries stay
abbrev pub Opens : Opened → Option (List Entry) → Option (List Entry) → Type 0
Opens opened.Session old new = (left : List ℕ) × Grew old new (Session (fresh left) ∷ [])
Opens opened.NoMore old new = Grew old new (NoMore ∷ [])
Opens opened.Failed old new = Grew old new (Failed ∷ [])

-- whether a session is open after this answer
abbrev pub is_session : Opened → Bool
is_session opened.Session = true
is_session opened.NoMore = false
is_session opened.Failed = false

-- a failed request raises the count, and no other does
abbrev pub OpenedCounts : Opened → ℕ → ℕ → Type 0
OpenedCounts opened.Session before now = now ≡ before
OpenedCounts opened.NoMore before now = now ≡ before
OpenedCounts opened.Failed before now = Fails before now

-- the entry is a session, and such a one
abbrev pub SessionIs : (SessionTold → Type 0) → Entry → Type 0
SessionIs such (Session told) = such told
SessionIs such NoMore = ⊥
SessionIs such Failed = ⊥

-- the entry is a session, and changed so
abbrev pub SessionChanged : (SessionTold → SessionTold → Type 0) → Entry → Entry → Type 0
SessionChanged change (Session before) now = SessionIs (change before) now
SessionChanged change NoMore now = ⊥
SessionChanged change Failed now = ⊥

-- the first of the bytes left were taken
abbrev pub TakesOf : List ℕ → SessionTold → SessionTold → Type 0
TakesOf bytes before now =
    (before.left ≡ bytes ++ now.left) × (now ≡ record before { taken = before.taken ++ bytes; left = now.left })

-- a read failed, and what was left is left still
abbrev pub FailsToTake : SessionTold → SessionTold → Type 0
FailsToTake before now = now ≡ record before { read_failed = true }

-- these bytes were written, after all that was taken so far
abbrev pub with_write : List ℕ → SessionTold → SessionTold
with_write piece told = record told { writes = told.writes ++ record { behind = length told.taken; bytes = piece } ∷ [] }

-- the session has one write more, of this piece
abbrev pub WritesTo : List ℕ → SessionTold → SessionTold → Type 0
WritesTo piece before now = now ≡ with_write piece before

-- the session has one write more, of this front of a piece, and none where the front is empty
abbrev pub with_front : List ℕ → SessionTold → SessionTold
with_front [] told = told
with_front (byte ∷ more) told = with_write (byte ∷ more) told

-- a write failed, and some front of the piece was written
abbrev pub FailsToWrite : List ℕ → SessionTold → SessionTold → Type 0
FailsToWrite piece before now =
    (n : ℕ) × (n ≤ length piece) × (now ≡ record (with_front (take n piece) before) { write_failed = true })

-- A read takes the first of the bytes left of the open session, or it is at the end, or nothing. Where no session is
-- open it is at the end. Each entry but the last stays.
abbrev pub WireReads : Take → Bool → List ℕ → Option (List Entry) → Option (List Entry) → Type 0
WireReads (read.Bytes n) is_open buf old new =
    (is_open ≡ true) × (1 ≤ n) × (n ≤ length buf) × LastTold (SessionChanged (TakesOf (take n buf))) old new
WireReads read.End is_open buf old new =
    (new ≡ old) × (is_open ≡ true → LastIs (SessionIs (λ told. told.left ≡ [])) old)
WireReads read.Failed is_open buf old new = (is_open ≡ true) × LastTold (SessionChanged FailsToTake) old new

-- A write adds the whole piece to the open session, or some front of it where the write failed. Where no session is
-- open it fails and adds nothing. Each entry but the last stays.
abbrev pub WireWrites : Put → Bool → List ℕ → Option (List Entry) → Option (List Entry) → Type 0
WireWrites write.Done is_open piece old new = (is_open ≡ true) × LastTold (SessionChanged (WritesTo piece)) old new
WireWrites write.Failed is_open piece old new =
    (is_open ≡ true → LastTold (SessionChanged (FailsToWrite piece)) old new) × (is_open ≡ false → new ≡ old)

-- In several reads these bytes were taken of the open session, and nothing else was done; where there are none, no
-- session need be open.
abbrev pub WireTook : List ℕ → Option (List Entry) → Option (List Entry) → Type 0
WireTook bytes old new = ((bytes ≡ []) × (new ≡ old)) ⊎ LastTold (SessionChanged (TakesOf bytes)) old new
