-- Bytes of a text.
use Rattle.std.specs.Prelude.{◌≢◌, ℕ, List, length, ◌<◌, slice_index}

-- this byte does not stand in the list
abbrev pub HasNo : ℕ → List ℕ → Type 0
HasNo byte xs = (i : ℕ) → i < length xs → slice_index xs i ≢ byte
