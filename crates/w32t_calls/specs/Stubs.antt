-- The stubs of the three calls (MS-W32T, 3.2.5; C706, 14): what is asked, and what is answered. Numbers stand with
-- their least significant byte first.
use Rattle.std.specs.Prelude.{◌≡◌, ◌≢◌, ℕ, ◌+◌, ◌-◌, ◌*◌, ◌/◌, ◌≤◌, ⊤, All, List, [], ◌∷◌, ◌++◌, length, replicate, flat_map}
use Rattle.byte_codec.specs.Numbers.{low_word_at, low_word_bytes, part_at}
use Rattle.w32t_calls.specs.declared.call.Call.{Call}
use Rattle.w32t_calls.specs.declared.call.Call.TheVariants as call
use Rattle.w32t_calls.specs.declared.call.Given.{Given}
use Rattle.w32t_calls.specs.declared.call.Given.TheVariants as given

-- the operation numbers
abbrev pub sync_number : ℕ
sync_number = 0

abbrev pub bits_number : ℕ
bits_number = 1

abbrev pub source_number : ℕ
source_number = 3

-- whether this answers that call: it is of its kind
abbrev pub AnswersCall : Given → Call → Type 0
AnswersCall (given.Synced result) (call.Sync wait flags) = ⊤
AnswersCall (given.Synced result) call.Bits = ⊥
AnswersCall (given.Synced result) call.Source = ⊥
AnswersCall (given.Bits bits) (call.Sync wait flags) = ⊥
AnswersCall (given.Bits bits) call.Bits = ⊤
AnswersCall (given.Bits bits) call.Source = ⊥
AnswersCall (given.Source name) (call.Sync wait flags) = ⊥
AnswersCall (given.Source name) call.Bits = ⊥
AnswersCall (given.Source name) call.Source = ⊤

-- a place rounded up to a multiple of four
abbrev pub rounded_to_four : ℕ → ℕ
rounded_to_four place = (place + 3) / 4 * 4

-- bytes with zero bytes up to a multiple of four
abbrev pub filled_to_four : List ℕ → List ℕ
filled_to_four bytes = bytes ++ replicate (rounded_to_four (length bytes) - length bytes) 0

-- a name in units of two bytes, with a closing zero unit
abbrev pub name_units : List ℕ → List ℕ
name_units name = flat_map (λ byte. byte ∷ 0 ∷ []) name ++ 0 ∷ 0 ∷ []

-- the stub that answers so: of a source a referent that isn't 0, the greatest count, the offset, the count of units with
-- the closing one, the units, and the status
abbrev pub answer_stub : Given → List ℕ
answer_stub (given.Synced result) = low_word_bytes result
answer_stub (given.Bits bits) = low_word_bytes bits
answer_stub (given.Source name) =
    filled_to_four (low_word_bytes 0x20000
    ++ low_word_bytes (length name + 1)
    ++ low_word_bytes 0
    ++ low_word_bytes (length name + 1)
    ++ name_units name)
    ++ low_word_bytes 0

-- A stub with which a source is answered, by this name. Padding isn't looked at, nor what stands after the status.
pub record SpellsSource (name : List ℕ) (stub : List ℕ) : Type 0 where
  pub within : 16 + rounded_to_four (2 * (length name + 1)) + 4 ≤ length stub
  pub referent : low_word_at 0 stub ≢ 0
  pub greatest : length name + 1 ≤ low_word_at 4 stub
  pub offset : low_word_at 8 stub ≡ 0
  pub count : low_word_at 12 stub ≡ length name + 1
  pub least : 1 ≤ length name
  pub most : length name ≤ 63
  pub printed : All (λ byte. (0x20 ≤ byte) × (byte ≤ 0x7E)) name
  pub units : part_at 16 (2 * (length name + 1)) stub ≡ name_units name
  pub status : low_word_at (16 + rounded_to_four (2 * (length name + 1))) stub ≡ 0
