use Rattle.std.proofs.Common.{inr, refl, ap}
use Rattle.std.specs.Prelude.{not}
use Rattle.w32t_settings.specs.SettingText.{computer}
use Rattle.partner_pick.specs.Names.{HasName}
use Rattle.w32t_settings.proofs.Items.{computer_repeats, computer_fresh, holds_computer}
use Rattle.w32t_settings.proofs.draft.Draft.take_computer.Goals as goal

pub returns-in-Err-Twice : goal.returns-in-Err-Twice
returns-in-Err-Twice c items h =
    let twice = rw c.in-Err-Twice.field-0-is at c.in-Err-Twice.ensures.twice in
    let has : HasName c.args.self.now.directory c.in-Some.entry.name = twice.0 refl in (
      refl,
      inr record {
        seen = ap not c.requires.seen;
        value = computer c.in-Some.entry;
        spelled = c.in-Some.ensures.read;
        again = computer_repeats c.in-Some.entry items (rw h.directory at has);
      },
    )

pub returns-in-Ok : goal.returns-in-Ok
returns-in-Ok c items h =
    let none : HasName c.args.self.now.directory c.in-Some.entry.name → ⊥ = λ has. let wrong = c.in-Ok.ensures.twice.1 has in absurd (cc wrong) in
    inr record {
      item = computer c.in-Some.entry;
      seen = c.requires.seen;
      spelled = c.in-Some.ensures.read;
      fresh = computer_fresh c.in-Some.entry items (λ has. none (rw h.directory has));
      holds = holds_computer items c.in-Some.entry c.args.self.now _ h refl c.in-Ok.ensures.ok refl;
    }
