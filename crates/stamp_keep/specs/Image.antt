-- The mark of an image. Three slots stand at 0, 64 and 128: a gate, a version, two zeros and a mark of four
-- bytes, highest first. The other bytes are unused.
use Rattle.std.specs.Prelude.{◌≡◌, ◌≢◌, ℕ, ◌+◌, max, List, slice_index, if◌then◌else◌, ◌==◌}
use Rattle.byteorder.specs.Endian.{big_from}

-- the gate is open at A5 alone
abbrev pub HasOpenGate : List ℕ → ℕ → Type 0
HasOpenGate image at = slice_index image at ≡ 165

-- and closed at every other byte
abbrev pub HasClosedGate : List ℕ → ℕ → Type 0
HasClosedGate image at = slice_index image at ≢ 165

-- the mark that a slot holds, whether or not it is open
unfoldable pub mark_at : List ℕ → ℕ → ℕ
mark_at image at = big_from (at + 4) 4 image

-- the mark of a slot that is open, and 0 where it isn't
unfoldable pub open_mark : List ℕ → ℕ → ℕ
open_mark image at = if slice_index image at == 165 then mark_at image at else 0

-- the mark that an image stands for: the greatest of its open slots, and 0 where no slot is open
unfoldable pub mark_of_image : List ℕ → ℕ
mark_of_image image = max (open_mark image 0) (max (open_mark image 64) (open_mark image 128))
