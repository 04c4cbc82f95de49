use Rattle.std.proofs.Common.{inr, refl, sym, ◌∙◌, ap}
use Rattle.std.specs.Prelude.{not}
use Rattle.key_book.proofs.AccountLines.{account_fits}
use Rattle.w32t_settings.specs.SettingText.{account}
use Rattle.w32t_settings.proofs.Items.{account_repeats, account_fresh, holds_account, found_any}
use Rattle.w32t_settings.proofs.draft.Draft.take_account.Goals as goal

pub returns-then-is_some : goal.returns-then-is_some
returns-then-is_some c items h =
    let any = found_any c.find.result c.args.self.now.book c.in-Some.account.rid (sym c.is_some.ensures ∙ c.if-is_some.true) c.find.ensures.found in (
      refl,
      inr record {
        seen = ap not c.requires.seen;
        value = account c.in-Some.account;
        spelled = c.in-Some.ensures.read;
        again = account_repeats c.in-Some.account items (rw h.book at any);
      },
    )

pub add-requires-clause-fits : goal.add-requires-clause-fits
add-requires-clause-fits c = account_fits c.in-Some.account c.args.line.now c.in-Some.ensures.read

pub returns-in-Ok : goal.returns-in-Ok
returns-in-Ok c items h =
    let none = c.find.ensures.missing.0 (sym c.is_some.ensures ∙ c.if-is_some.false) in
    inr record {
      item = account c.in-Some.account;
      seen = c.requires.seen;
      spelled = c.in-Some.ensures.read;
      fresh = account_fresh c.in-Some.account items (rw h.book at none);
      holds = holds_account items c.in-Some.account c.args.self.now _ h c.in-Ok.ensures.ok refl refl;
    }
