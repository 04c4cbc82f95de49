use Rattle.std.proofs.Common.{◌++◌, List, ℕ, sym, ◌∙◌, ap, rules}
use Rattle.std.proofs.lemmas.Nat.{le_bytes_8}
use Rattle.byte_codec.specs.Numbers.{number_bytes, low_number_bytes}
use Rattle.byte_codec.proofs.read.read_u64_low_first.Goals as goal

pub returns-clause-bytes : goal.returns-clause-bytes
unfolding number_bytes low_number_bytes
returns-clause-bytes c =
    let same = le_bytes_8 c.read_array.result.0 c.from_le_bytes.result (search rules) (search rules) c.from_le_bytes.ensures in
    c.read_array.ensures.bytes ∙ ap (λ (l : List ℕ). l ++ c.read_array.result.1.now) (sym same)
