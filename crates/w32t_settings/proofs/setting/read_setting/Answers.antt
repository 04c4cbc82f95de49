use Rattle.std.proofs.lemmas.Slice.Eq.{slice_eq-Decides}
use Rattle.std.proofs.lemmas.Bool.Decides.{Decides-eqb}
use Rattle.w32t_settings.specs.SettingText.{label}
use Rattle.w32t_settings.proofs.Labels.{label_no_equals, none_of_them}
use Rattle.w32t_settings.proofs.setting.read_setting.Goals as goal

-- another label would have been read
pub returns-in_err-number-clause-found : goal.returns-in_err-number-clause-found
returns-in_err-number-clause-found c setting spells =
    let parts = c.in_ok-label.ensures.found (label setting) spells.value (label_no_equals setting) spells.written in
    absurd (none_of_them setting _ parts.0
    (λ is. let yes = (slice_eq-Decides Decides-eqb _ _ _ c.eq.ensures).1 is in absurd (cc (yes, c.if-eq.false)))
    (λ is. let yes = (slice_eq-Decides Decides-eqb _ _ _ c.eq-else-eq.ensures).1 is in absurd (cc (yes, c.if-eq-2.false)))
    (λ is. let yes = (slice_eq-Decides Decides-eqb _ _ _ c.eq-else-eq-2.ensures).1 is in absurd (cc (yes, c.if-eq-3.false)))
    (λ is. let yes = (slice_eq-Decides Decides-eqb _ _ _ c.eq-else-eq-3.ensures).1 is in absurd (cc (yes, c.if-eq-4.false)))
    (λ number is. let wrong = c.in_err-number.ensures.found number is in absurd (cc wrong)))
