use Rattle.std.proofs.Common.{◌≡◌, List, inr, refl, sym, ◌∙◌, ap, subst}
use Rattle.std.specs.Prelude.{not}
use Rattle.std.specs.List.{Any}
use Rattle.w32t_settings.specs.declared.setting.Setting.{Setting}
use Rattle.w32t_settings.specs.SettingText.{setting, label}
use Rattle.w32t_settings.proofs.Items.{setting_repeats, setting_fresh, holds_setting}
use Rattle.w32t_settings.proofs.draft.Draft.take_setting.Goals as goal

pub returns-then-is_set : goal.returns-then-is_set
returns-then-is_set c items h =
    let any = c.if-is_set.ensures.0 refl in
    let P : List Setting → Type 0 = λ l. Any (λ s. label s ≡ label c.in-Some.setting) l in (
      refl,
      inr record {
        seen = ap not c.requires.seen;
        value = setting c.in-Some.setting;
        spelled = c.in-Some.ensures.read;
        again = setting_repeats c.in-Some.setting items (subst P (c.deref.ensures.value ∙ h.settings) any);
      },
    )

pub returns-in-Ok : goal.returns-in-Ok
returns-in-Ok c items h =
    let P : List Setting → Type 0 = λ l. Any (λ s. label s ≡ label c.in-Some.setting) l in
    inr record {
      item = setting c.in-Some.setting;
      seen = c.requires.seen;
      spelled = c.in-Some.ensures.read;
      fresh = setting_fresh c.in-Some.setting items
          (λ any. let wrong = c.if-is_set.ensures.1 (subst P (sym (c.deref.ensures.value ∙ h.settings)) any) in absurd (cc wrong));
      holds = holds_setting items c.in-Some.setting c.args.self.now _ h refl refl c.in-Ok.ensures.items;
    }
