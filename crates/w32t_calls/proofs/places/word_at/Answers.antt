use Rattle.std.proofs.Common.{sym, ◌∙◌, rules}
use Rattle.w32t_calls.proofs.Fields.{number_read}
use Rattle.w32t_calls.proofs.places.word_at.Goals as goal

pub returns : goal.returns
returns c =
    number_read c.args.place 4 _ _ _ (sym c.split_at.ensures.back ∙ c.read_u32_low_first-number.ensures.bytes) (search rules)
