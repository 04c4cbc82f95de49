-- What a sink holds whose file is opened when the first piece is written.
use Rattle.std.specs.Prelude.{◌≡◌, ℕ, Bool, true, List, Option, Some, None, is_some, ⊤}
use Rattle.edge_traits.specs.declared.sink.Put.{Put}
use Rattle.edge_traits.specs.declared.sink.Put.TheVariants.{Failed}
use Rattle.edge_io.specs.Held.{Held, WriterTakes}

-- whether a first write was made, the file where it could be opened then, and how many of the writes failed
pub record LateFile (File : Type 0) : Type 0 where
  pub is_begun : Bool
  pub file : Option (Held File)
  pub faults : ℕ

-- The first write opens the file or finds that it can't be opened, and the later ones leave that so. Without a file a
-- write fails.
pub record StaysOpen {File : Type 0} (old new : LateFile File) (put : Put) : Type 0 where
  pub begun : new.is_begun ≡ true
  pub same : old.is_begun ≡ true → is_some new.file ≡ is_some old.file
  pub closed : new.file ≡ None → put ≡ Failed

-- A file that was open before the write takes the piece, and so does one that the write opened, whatever stood in it then.
abbrev pub TakesPiece : {File : Type 0} → Put → List ℕ → (File → Option (List ℕ)) → Option (Held File) → Option (Held File) → Type 0
TakesPiece put piece contents (Some old) (Some new) = WriterTakes put piece (contents old.inner) (contents new.inner)
TakesPiece put piece contents (Some old) None = ⊥
TakesPiece put piece contents None (Some new) = (opened : _) × WriterTakes put piece (contents opened) (contents new.inner)
TakesPiece put piece contents None None = ⊤
