use Rattle.std.proofs.Common.{◌≡◌, List, Some, sym, ◌∙◌, ap}
use Rattle.std.specs.Prelude.{Option, not, unwrap_or}
use Rattle.ms_auth.specs.declared.packet.Kind.{Kind}
use Rattle.ms_auth.specs.declared.packet.Kind.TheVariants.{Short}
use Rattle.w32t_settings.specs.declared.setting.Setting.{Setting}
use Rattle.w32t_settings.specs.Values.{given, kind_in, rid_in, settings_of}
use Rattle.w32t_settings.proofs.Whole.{no_account, no_message}
use Rattle.w32t_settings.proofs.draft.Draft.finish.Goals.{then-is_none-via-then-is_none, then-is_none-via-else-is_none+then-not-can_name}
use Rattle.w32t_settings.proofs.draft.Draft.finish.Goals as goal

pub returns-then-is_none-clause-none : goal.returns-then-is_none-clause-none
returns-then-is_none-clause-none c items h is_none =
    let rid = c.in_ok-rid.rid in
    let all = c.deref-3.ensures.value ∙ h.settings in
    let set : given rid_in (settings_of items) ≡ Some rid = ap (λ (l : List Setting). given rid_in l) (sym all) ∙ sym c.in_ok-rid.ensures in
    let kind = c.unwrap_or-kind.ensures
    ∙ ap (λ (o : Option Kind). unwrap_or o Short) (c.kind_of.ensures ∙ ap (λ (l : List Setting). given kind_in l) (c.deref-4.ensures.value ∙ h.settings)) in
    elim c.then-is_none.branch [
      | then-is_none-via-then-is_none w ↦ no_account items rid set (rw h.book at c.find.ensures.missing.0 (c.is_none.ensures ∙ ap not w.if-is_none.true))
      | then-is_none-via-else-is_none+then-not-can_name w ↦ no_message items rid _ w.can_name.result set kind w.can_name.ensures w.if-not-can_name.true
    ]

pub returns-clause-settings : goal.returns-clause-settings
returns-clause-settings c items h =
    let all = c.deref.ensures.value ∙ h.settings in
    record {
      name = rw (sym all) (sym c.in_ok-name.ensures);
      role = rw (sym (c.deref-2.ensures.value ∙ h.settings)) (sym c.in_ok-role.ensures);
      rid = rw (sym (c.deref-3.ensures.value ∙ h.settings)) (sym c.in_ok-rid.ensures);
      kind = c.unwrap_or-kind.ensures
          ∙ ap (λ (o : Option Kind). unwrap_or o Short) (c.kind_of.ensures ∙ ap (λ (l : List Setting). given kind_in l) (c.deref-4.ensures.value ∙ h.settings));
      max_pos = rw (sym (c.deref-5.ensures.value ∙ h.settings)) c.in_ok-limits.ensures.max_pos;
      max_neg = rw (sym (c.deref-5.ensures.value ∙ h.settings)) c.in_ok-limits.ensures.max_neg;
      max_allowed = rw (sym (c.deref-5.ensures.value ∙ h.settings)) c.in_ok-limits.ensures.max_allowed;
      min_poll = rw (sym (c.deref-5.ensures.value ∙ h.settings)) c.in_ok-limits.ensures.min_poll;
      max_poll = rw (sym (c.deref-5.ensures.value ∙ h.settings)) c.in_ok-limits.ensures.max_poll;
      announce = rw (sym (c.deref-6.ensures.value ∙ h.settings)) c.value_of-announce.ensures.value;
      book = h.book;
      directory = h.directory;
    }
