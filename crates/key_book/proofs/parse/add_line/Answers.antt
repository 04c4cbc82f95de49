use Rattle.std.proofs.Common.{refl, sym, ◌∙◌}
use Rattle.key_book.proofs.AccountLines.{account_fits}
use Rattle.key_book.proofs.parse.add_line.Goals as goal

-- no account is spelled, since it would have been read
pub returns-in_default : goal.returns-in_default
returns-in_default c = (
  refl,
  record {
    seen = sym c.starts_with.ensures.value ∙ c.if-not-starts_with.false;
    nothing = λ account spelled. c.in_default.not-Some account (c.read_account.ensures.found account spelled);
  },
)

pub add-requires-clause-fits : goal.add-requires-clause-fits
add-requires-clause-fits c = account_fits c.in-Some.account c.args.line.now c.in-Some.ensures.read
