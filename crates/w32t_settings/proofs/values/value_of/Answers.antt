use Rattle.w32t_settings.proofs.Amounts.{value_within}
use Rattle.w32t_settings.proofs.values.value_of.Goals as goal

pub returns-clause-within : goal.returns-clause-within
returns-clause-within c =
    let within = value_within c.args.number c.args.role c.args.settings.now c.requires in
    rw (c.unwrap_or.ensures, c.number_of.ensures, c.default_of.ensures) within
