-- What a source of words in memory will do.
use Rattle.std.specs.Prelude.{ℕ, if◌then◌else◌, List, [], ◌∷◌, ◌++◌, drop}
use Rattle.base_specs.specs.Counts.{next_count}
use Rattle.edge_traits.specs.declared.entropy.Drawn.{Drawn}
use Rattle.edge_traits.specs.declared.entropy.Drawn.TheVariants as drawn
use Rattle.edge_io.specs.Calls.{is_listed}

-- The words to come, and those given. Then the numbers of the calls that fail, the calls made, and those of them
-- that failed.
pub record EntropyScript : Type 0 where
  pub coming : List ℕ
  pub given : List ℕ
  pub fails : List ℕ
  pub calls : ℕ
  pub faults : ℕ

-- the first of the words to come, and a failure behind the last
abbrev pub first_word : List ℕ → Drawn
first_word [] = drawn.Failed
first_word (word ∷ later) = drawn.Word word

-- A draw that is not to fail gives the next of the words to come.
abbrev pub word_answer : EntropyScript → Drawn
word_answer s = if is_listed s.fails (next_count s.calls) then drawn.Failed else first_word s.coming

-- what an answer leaves
abbrev pub entropy_after : Drawn → EntropyScript → EntropyScript
entropy_after (drawn.Word word) s = record s {
  coming = drop 1 s.coming;
  given = s.given ++ word ∷ [];
  calls = next_count s.calls;
}
entropy_after drawn.Failed s = record s { calls = next_count s.calls; faults = next_count s.faults }
