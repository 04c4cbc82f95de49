-- What sources, words and sinks over readers and writers give and take, where the bytes of these are known.
use Rattle.std.specs.Prelude.{◌≡◌, ◌≤◌, ℕ, List, [], length, take, Option, Some, None, ⊤}
use Rattle.std.specs.Int.{w32, from_le_bytes}
use Rattle.std.specs.Io.KnownBytes.{Appends, Consumes, IsAtEnd, Keeps}
use Rattle.edge_traits.specs.declared.entropy.Drawn.{Drawn}
use Rattle.edge_traits.specs.declared.entropy.Drawn.TheVariants as drawn
use Rattle.edge_traits.specs.declared.sink.Put.{Put}
use Rattle.edge_traits.specs.declared.sink.Put.TheVariants as write
use Rattle.edge_traits.specs.declared.source.Take.{Take}
use Rattle.edge_traits.specs.declared.source.Take.TheVariants as read

-- a reader or a writer, and how many of the calls failed
pub record Held (Inner : Type 0) : Type 0 where
  pub inner : Inner
  pub faults : ℕ

-- the reader loses the bytes that were given, and nothing where the end or a failure was answered; the end is its end
abbrev pub ReaderGives : Take → List ℕ → Option (List ℕ) → Option (List ℕ) → Type 0
ReaderGives (read.Bytes count) buf old new = Consumes old new (take count buf)
ReaderGives read.End buf old new = Consumes old new [] × IsAtEnd new
ReaderGives read.Failed buf old new = Keeps old new

-- four bytes are taken, and the word is the number that they are, the lowest byte first
pub record TakesFour (word : ℕ) (old new : Option (List ℕ)) : Type 0 where
  pub bytes : List ℕ
  pub four : length bytes ≡ 4
  pub taken : Consumes old new bytes
  pub is : word ≡ from_le_bytes w32 bytes

-- A word is that of the next four bytes of the reader. Without a reader there is none.
abbrev pub TakesWord : {Inner : Type 0} → Drawn → (Inner → Option (List ℕ)) → Option Inner → Option Inner → Type 0
TakesWord (drawn.Word word) remaining (Some old) (Some new) = TakesFour word (remaining old) (remaining new)
TakesWord (drawn.Word word) remaining (Some old) None = ⊥
TakesWord (drawn.Word word) remaining None now = ⊥
TakesWord drawn.Failed remaining old now = ⊤

-- the writer takes the whole piece, and some front of it where a failure was answered
abbrev pub WriterTakes : Put → List ℕ → Option (List ℕ) → Option (List ℕ) → Type 0
WriterTakes write.Done piece old new = Appends old new piece
WriterTakes write.Failed piece old new = (count : ℕ) × (count ≤ length piece) × Appends old new (take count piece)
