use Rattle.std.proofs.Common.{◌≡◌, ◌∙◌, inl, sym, refl, ap, subst, Ok, is_some, true, false}
use Rattle.w32tm_text.specs.Conf.{ArePartners}
use Rattle.w32tm_text.proofs.Confs.{no_conf, none_there, one_conf, some_partner}
use Rattle.w32tm_text.proofs.conf.conf_of.Goals as goal

pub returns-then-is_none-clause-exact : goal.returns-then-is_none-clause-exact
returns-then-is_none-clause-exact c conf is =
    let lacks : is_some c.best.result ≡ false = cc (c.is_none.ensures, c.if-is_none.true) in
    absurd (no_conf c.args.settings.now conf (none_there c.best.result _ c.best.ensures.none lacks) is)

pub returns-then-is_none-clause-one : goal.returns-then-is_none-clause-one
returns-then-is_none-clause-one c conf other is also = one_conf c.args.settings.now conf other c.best.ensures.one is also

pub returns-in_default-clause-one : goal.returns-in_default-clause-one
returns-in_default-clause-one c conf other is also = one_conf c.args.settings.now conf other c.best.ensures.one is also

pub returns-clause-exact : goal.returns-clause-exact
returns-clause-exact c conf is =
    let s = c.args.settings.now in
    let partners = subst (ArePartners s) (sym c.new.ensures) c.in-Ok.ensures in
    let found : is_some c.best.result ≡ true = cc (c.is_none.ensures, c.if-is_none.false) in
    inl (ap Ok (one_conf s _ conf c.best.ensures.one (record {
      kind = refl;
      account = sym c.find.ensures.account ∙ c.unwrap.ensures;
      limits = refl;
      partners = partners;
      some = some_partner s c.best.result c.new.result found c.best.ensures.first partners;
    }) is))

pub returns-clause-one : goal.returns-clause-one
returns-clause-one c conf other is also = one_conf c.args.settings.now conf other c.best.ensures.one is also
