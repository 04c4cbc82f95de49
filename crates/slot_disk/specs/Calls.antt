-- What the calls of a disk do to what it tells.
use Rattle.std.specs.Prelude.{◌≡◌, ◌⊎◌, ℕ, ◌+◌, ◌-◌, ◌^◌, ◌≤◌, ◌<◌, List, length, slice_index}
use Rattle.std.specs.Prelude.{Option, Some, None, IfSome, is_some, ⊤}
use Rattle.edge_traits.specs.declared.sink.Put.{Put}
use Rattle.edge_traits.specs.declared.sink.Put.TheVariants.{Done}
use Rattle.slot_disk.specs.Told.{DiskTold}

-- the same bytes but in the n from at on
pub record SameOutside (at n : ℕ) (old new : List ℕ) : Type 0 where
  pub size : length new ≡ length old
  pub before : (k : ℕ) → k < at → slice_index new k ≡ slice_index old k
  pub after : (k : ℕ) → at + n ≤ k → slice_index new k ≡ slice_index old k

-- new is old with the piece at its place
pub record Holds (at : ℕ) (piece old new : List ℕ) : Type 0 where
  pub rest : SameOutside at (length piece) old new
  pub here : (k : ℕ) → k < length piece → slice_index new (at + k) ≡ slice_index piece k

-- the content has the piece at its place, and is else as before
abbrev pub Written : ℕ → List ℕ → Option (List ℕ) → Option (List ℕ) → Type 0
Written at piece None None = ⊤
Written at piece (Some old) None = ⊥
Written at piece None (Some new) = ⊥
Written at piece (Some old) (Some new) = Holds at piece old new

-- no image is new
pub record NoOther (old new : DiskTold) : Type 0 where
  pub was : (c : List ℕ) → new.may_leave c → old.may_leave c

-- content and images stay
pub record IsUnchanged (old new : DiskTold) : Type 0 where
  pub content : new.content ≡ old.content
  pub was : (c : List ℕ) → new.may_leave c → old.may_leave c
  pub still : (c : List ℕ) → old.may_leave c → new.may_leave c

-- each image is an image before, but for the n bytes from at on
pub record TearsAtMost (at n : ℕ) (old new : DiskTold) : Type 0 where
  pub each : (c : List ℕ) → new.may_leave c → (d : List ℕ) × old.may_leave d × SameOutside at n d c

-- a crash leaves what a read gives
pub record IsSynced (disk : DiskTold) : Type 0 where
  pub reads : (c : List ℕ) → disk.may_leave c → disk.content ≡ Some c

-- A read that is done gives the content. Done or failed, it changes nothing.
pub record Reads (put : Put) (buf : List ℕ) (old new : DiskTold) : Type 0 where
  pub bytes : put ≡ Done → IfSome old.content (λ c. buf ≡ c)
  pub stays : IsUnchanged old new

-- A write that is done puts the piece at its place. Until a sync, a crash may leave any bytes there.
pub record Writes (put : Put) (at : ℕ) (piece : List ℕ) (old new : DiskTold) : Type 0 where
  pub content : put ≡ Done → Written at piece old.content new.content
  pub tears : TearsAtMost at (length piece) old new

-- After a sync that is done a crash leaves what a read gives, which is as before. One that fails adds no image.
pub record Syncs (put : Put) (old new : DiskTold) : Type 0 where
  pub content : put ≡ Done → new.content ≡ old.content
  pub durable : put ≡ Done → IsSynced new
  pub no_other : NoOther old new

-- a count of calls goes up by one, as long as its type has room
pub record Ticks (before now : ℕ) : Type 0 where
  pub later : before ≤ now
  pub once : now ≤ before + 1
  pub counted : before < 2 ^ 64 - 1 → now ≡ before + 1

-- One call was made, and the moment after it joins those that were.
pub record Elapses (old new : DiskTold) : Type 0 where
  pub time : Ticks old.time new.time
  -- a disk that tells its content goes on telling it, and no other begins to
  pub tells : is_some new.content ≡ is_some old.content
  pub nothing_else : (t : ℕ) (c : List ℕ) → t ≤ old.time → new.left_since t c → old.left_since t c ⊎ new.may_leave c
  pub keeps : (t : ℕ) (c : List ℕ) → t ≤ old.time → old.left_since t c → new.left_since t c

-- Some calls were made, and a crash at any moment since the first leaves an image that has P.
pub record LeavesOnly (old new : DiskTold) (P : List ℕ → Type 0) : Type 0 where
  pub later : old.time ≤ new.time
  pub tells : is_some new.content ≡ is_some old.content
  pub each : (c : List ℕ) → new.left_since old.time c → P c
  -- for a run of calls that began earlier
  pub before : (t : ℕ) (c : List ℕ) → t ≤ old.time → new.left_since t c → old.left_since t c ⊎ P c

-- A crash just before the last call, or since then, leaves an image that has P. Where the count of calls has no room,
-- nothing is said.
pub record LeavesAtLast (new : DiskTold) (P : List ℕ → Type 0) : Type 0 where
  pub each : new.time < 2 ^ 64 - 1 → (c : List ℕ) → new.left_since (new.time - 1) c → P c

-- a call was made, where the count of calls has room
abbrev pub WasCalled : DiskTold → DiskTold → Type 0
WasCalled old new = new.time < 2 ^ 64 - 1 → old.time < new.time
