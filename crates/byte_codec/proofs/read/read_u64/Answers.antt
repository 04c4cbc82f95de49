use Rattle.std.proofs.Common.{◌++◌, List, ℕ, sym, ◌∙◌, ap, rules}
use Rattle.std.proofs.lemmas.Nat.{be_bytes_8}
use Rattle.byte_codec.specs.Numbers.{number_bytes}
use Rattle.byte_codec.proofs.read.read_u64.Goals as goal

pub returns-clause-bytes : goal.returns-clause-bytes
unfolding number_bytes
returns-clause-bytes c =
    let same = be_bytes_8 c.read_array.result.0 c.from_be_bytes.result (search rules) (search rules) c.from_be_bytes.ensures in
    c.read_array.ensures.bytes ∙ ap (λ (l : List ℕ). l ++ c.read_array.result.1.now) (sym same)
