use Rattle.std.proofs.Common.{sym, ◌∙◌, rules}
use Rattle.w32t_calls.proofs.Fields.{number_read}
use Rattle.w32t_calls.proofs.places.half_word_at.Goals as goal

pub returns : goal.returns
returns c =
    number_read c.args.place 2 _ _ _ (sym c.split_at.ensures.back ∙ c.read_u16_low_first-number.ensures.bytes) (search rules)
