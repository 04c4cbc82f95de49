use Rattle.std.proofs.Common.{sym, ◌∙◌, refl}
use Rattle.partner_pick.proofs.parse.add_line.Goals as goal

-- no entry is spelled, since it would have been read
pub returns-in_default : goal.returns-in_default
returns-in_default c = (
  refl,
  record {
    seen = sym c.starts_with.ensures.value ∙ c.if-not-starts_with.false;
    nothing = λ entry spelled. c.in_default.not-Some entry (c.read_entry.ensures.found entry spelled);
  },
)
