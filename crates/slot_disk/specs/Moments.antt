-- What a disk in memory is and was.
use Rattle.std.specs.Prelude.{◌≡◌, ◌⊎◌, ℕ, ◌+◌, ◌≤◌, ◌<◌, Bool, true, false}
use Rattle.std.specs.Prelude.{List, [], ◌∷◌, length, slice_index, slice_index_or}
use Rattle.slot_disk.specs.Calls.{SameOutside}
use Rattle.slot_disk.specs.declared.moment.Moment.{Moment}

-- a range is marked, and the rest as before
pub record Touches (at n : ℕ) (old new : List Bool) : Type 0 where
  pub size : length new ≡ length old
  pub before : (k : ℕ) → k < at → slice_index_or new k false ≡ slice_index_or old k false
  pub after : (k : ℕ) → at + n ≤ k → slice_index_or new k false ≡ slice_index_or old k false
  pub here : (k : ℕ) → at ≤ k → k < at + n → slice_index_or new k false ≡ true

-- any bytes where it was written since the last sync, and the rest as it reads
pub record IsImage (m : Moment) (image : List ℕ) : Type 0 where
  pub size : length image ≡ length m.bytes
  pub rest : (k : ℕ) → slice_index_or m.touched k false ≡ false → slice_index image k ≡ slice_index m.bytes k

-- an image of one of these moments
abbrev pub HadImage : List Moment → List ℕ → Type 0
HadImage [] image = ⊥
HadImage (m ∷ past) image = IsImage m image ⊎ HadImage past image

-- a write may tear these n bytes: each image is one before with any bytes there, and each of those is one
pub record TearsFreely (at n : ℕ) (old new : Moment) : Type 0 where
  pub most : (c : List ℕ) → IsImage new c → (d : List ℕ) × IsImage old d × SameOutside at n d c
  pub least : (d c : List ℕ) → IsImage old d → SameOutside at n d c → IsImage new c
