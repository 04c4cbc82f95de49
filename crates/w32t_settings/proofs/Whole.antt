-- The lines of a text say one settings at most, and none where the text as a whole is bad.
use Rattle.std.proofs.Common.{◌≡◌, ◌<◌, ◌≤◌, ◌^◌, ◌⊎◌, ℕ, Bool, false, inl, inr, List, Option, Some, None, refl, sym, subst, ◌∙◌, arith}
use Rattle.std.specs.Prelude.{IsSome, IsNone, IsTrue, ◌↔◌}
use Rattle.std.specs.Coded.{le_prop}
use Rattle.std.proofs.lemmas.Bool.{cases_lt}
use mathlib.Core.HLevel.{is_prop→PathP, →_prop}
use mathlib.Core.Bool.{Bool-set}
use Rattle.phase_rule.specs.declared.limits.Limits.{Limits}
use Rattle.ms_auth.specs.declared.packet.Kind.{Kind}
use Rattle.ms_auth.specs.declared.packet.Kind.TheVariants.{Short, Extended}
use Rattle.key_book.specs.declared.account.Account.{Account}
use Rattle.key_book.specs.AccountBook.{account_of, NoneHas}
use Rattle.key_book.proofs.Finding.{missing}
use Rattle.partner_pick.specs.declared.entry.Role.{Role}
use Rattle.w32t_settings.specs.declared.setting.Number.TheVariants.{MaxPosPhaseCorrection, MaxNegPhaseCorrection, MaxAllowedPhaseOffset, MinPollInterval, MaxPollInterval, AnnounceFlags}
use Rattle.w32t_settings.specs.declared.settings.Settings.{Settings}
use Rattle.w32t_settings.specs.SettingText.{Item}
use Rattle.w32t_settings.specs.Values.{AllFit, AreSettings, IsBadWhole, accounts_of, auth_of, computers_of, given, name_in, rid_in, role_in, settings_of, value_of}
use Rattle.w32t_settings.proofs.Amounts.{value_within}

same_limits : (a b : Limits) → a.max_pos ≡ b.max_pos → a.max_neg ≡ b.max_neg → a.max_allowed ≡ b.max_allowed → a.min_poll ≡ b.min_poll
    → a.max_poll ≡ b.max_poll → a ≡ b
same_limits a b pos neg allowed low high =
    λ i. record {
      max_pos = pos i;
      max_neg = neg i;
      max_allowed = allowed i;
      min_poll = low i;
      max_poll = high i;
      ordered = is_prop→PathP (λ j. low j ≤ high j) (λ j. le_prop) a.ordered b.ordered i;
      bounded = is_prop→PathP (λ j. high j ≤ 17) (λ j. le_prop) a.bounded b.bounded i;
    }

some_is : {X : Type 0} (x y : X) → Some x ≡ Some y → x ≡ y
some_is x y same = cc

-- lines say one settings
pub one_settings : (items : List Item) (a b : Settings) → AreSettings items a → AreSettings items b → a ≡ b
one_settings items a b p q =
    let name = some_is a.name b.name (sym p.name ∙ q.name) in
    let role = some_is a.role b.role (sym p.role ∙ q.role) in
    let rid = some_is a.rid b.rid (sym p.rid ∙ q.rid) in
    let kind : a.kind ≡ b.kind = p.kind ∙ sym q.kind in
    let limits = same_limits a.limits b.limits (rw role at p.max_pos ∙ sym q.max_pos) (rw role at p.max_neg ∙ sym q.max_neg)
    (p.max_allowed ∙ sym q.max_allowed) (rw role at p.min_poll ∙ sym q.min_poll) (rw role at p.max_poll ∙ sym q.max_poll) in
    let announce : a.announce ≡ b.announce = p.announce ∙ sym q.announce in
    let book : a.book ≡ b.book = p.book ∙ sym q.book in
    let directory : a.directory ≡ b.directory = p.directory ∙ sym q.directory in
    λ i. record {
      name = name i;
      role = role i;
      rid = rid i;
      kind = kind i;
      limits = limits i;
      announce = announce i;
      book = book i;
      directory = directory i;
      has_account = is_prop→PathP (λ j. IsSome (account_of (book j) (rid j))) (λ j. Bool-set _ _) a.has_account b.has_account i;
      short_rid = is_prop→PathP (λ j. kind j ≡ Short → rid j < 2 ^ 31) (λ j. →_prop le_prop) a.short_rid b.short_rid i;
    }

not_some : {X : Type 0} (o : Option X) (x : X) → o ≡ None → o ≡ Some x → ⊥
not_some o x none some = absurd (cc (none, some))

-- a text that as a whole is bad says none
pub whole_or_settings : (items : List Item) (s : Settings) → AreSettings items s → IsBadWhole items → ⊥
whole_or_settings items s p (inl none) = not_some _ s.name none p.name
whole_or_settings items s p (inr (inl none)) = not_some _ s.role none p.role
whole_or_settings items s p (inr (inr (inl none))) = not_some _ s.rid none p.rid
whole_or_settings items s p (inr (inr (inr (inl account)))) =
    let rid = some_is account.rid s.rid (sym account.set ∙ p.rid) in
    let none : NoneHas s.book s.rid = rw (p.book, ← rid) account.none in
    let lacks = (missing s.book s.rid).1 none in
    absurd (cc (lacks, s.has_account))
whole_or_settings items s p (inr (inr (inr (inr (inl polls))))) =
    let role = some_is polls.role s.role (sym polls.set ∙ p.role) in
    let cross = rw role at polls.cross in
    omega (arith, cross, p.min_poll, p.max_poll, s.limits.ordered)
whole_or_settings items s p (inr (inr (inr (inr (inr long))))) =
    let rid = some_is long.rid s.rid (sym long.set ∙ p.rid) in
    let small = s.short_rid (p.kind ∙ long.short) in
    omega (arith, long.long, rid, small)

-- Rid is set, and no account has it
pub no_account : (items : List Item) (rid : ℕ) → given rid_in (settings_of items) ≡ Some rid → NoneHas (accounts_of items) rid → IsBadWhole items
no_account items rid set none = inr (inr (inr (inl record { rid = rid; set = set; none = none })))

-- Rid is set, and no message of the kind can name it
pub no_message : (items : List Item) (rid : ℕ) (kind : Kind) (can : Bool) → given rid_in (settings_of items) ≡ Some rid → kind ≡ auth_of (settings_of items)
    → (IsTrue can ↔ (kind ≡ Short → rid < 2 ^ 31)) → can ≡ false → IsBadWhole items
no_message items rid Short can set is says cannot =
    elim (cases_lt rid (2 ^ 31)) [
      | inl small ↦ absurd (cc (says.1 (λ short. small), cannot))
      | inr long ↦ inr (inr (inr (inr (inr record { rid = rid; set = set; short = sym is; long = long }))))
    ]
no_message items rid Extended can set is says cannot = absurd (cc (says.1 (λ short. absurd (cc short)), cannot))

-- good lines say settings, or the text as a whole is bad
pub settings_or_whole : (items : List Item) → AllFit (settings_of items) → ((s : Settings) × AreSettings items s) ⊎ IsBadWhole items
settings_or_whole items fit = by_name (given name_in (settings_of items)) refl
  where
    Ends : Type 0
    Ends = ((s : Settings) × AreSettings items s) ⊎ IsBadWhole items

    low : Role → ℕ
    low role = value_of MinPollInterval role (settings_of items)

    high : Role → ℕ
    high role = value_of MaxPollInterval role (settings_of items)

    are : (name : List ℕ) (role : Role) (rid : ℕ) → given name_in (settings_of items) ≡ Some name → given role_in (settings_of items) ≡ Some role
        → given rid_in (settings_of items) ≡ Some rid → IsSome (account_of (accounts_of items) rid) → low role ≤ high role
        → (auth_of (settings_of items) ≡ Short → rid < 2 ^ 31) → Ends
    are name role rid is_name is_role is_rid has ordered short =
        let settings : Settings = record {
          name = name;
          role = role;
          rid = rid;
          kind = auth_of (settings_of items);
          limits = record {
            max_pos = value_of MaxPosPhaseCorrection role (settings_of items);
            max_neg = value_of MaxNegPhaseCorrection role (settings_of items);
            max_allowed = value_of MaxAllowedPhaseOffset role (settings_of items);
            min_poll = low role;
            max_poll = high role;
            ordered = ordered;
            bounded = value_within MaxPollInterval role (settings_of items) fit;
          };
          announce = value_of AnnounceFlags role (settings_of items);
          book = accounts_of items;
          directory = computers_of items;
          has_account = has;
          short_rid = short;
        } in
        inl (
          settings,
          record {
            name = is_name;
            role = is_role;
            rid = is_rid;
            kind = refl;
            max_pos = refl;
            max_neg = refl;
            max_allowed = refl;
            min_poll = refl;
            max_poll = refl;
            announce = refl;
            book = refl;
            directory = refl;
          },
        )

    by_kind : (name : List ℕ) (role : Role) (rid : ℕ) → given name_in (settings_of items) ≡ Some name → given role_in (settings_of items) ≡ Some role
        → given rid_in (settings_of items) ≡ Some rid → IsSome (account_of (accounts_of items) rid) → low role ≤ high role
        → (kind : Kind) → auth_of (settings_of items) ≡ kind → Ends
    by_kind name role rid is_name is_role is_rid has ordered Short is =
        elim (cases_lt rid (2 ^ 31)) [
          | inl small ↦ are name role rid is_name is_role is_rid has ordered (λ short. small)
          | inr long ↦ inr (inr (inr (inr (inr (inr record { rid = rid; set = is_rid; short = is; long = omega (arith, long) })))))
        ]
    by_kind name role rid is_name is_role is_rid has ordered Extended is =
        are name role rid is_name is_role is_rid has ordered (λ short. absurd (cc (is, short)))

    by_polls : (name : List ℕ) (role : Role) (rid : ℕ) → given name_in (settings_of items) ≡ Some name → given role_in (settings_of items) ≡ Some role
        → given rid_in (settings_of items) ≡ Some rid → IsSome (account_of (accounts_of items) rid) → Ends
    by_polls name role rid is_name is_role is_rid has =
        elim (cases_lt (high role) (low role)) [
          | inl cross ↦ inr (inr (inr (inr (inr (inl record { role = role; set = is_role; cross = cross })))))
          | inr ordered ↦ by_kind name role rid is_name is_role is_rid has (omega (arith, ordered)) (auth_of (settings_of items)) refl
        ]

    by_account : (name : List ℕ) (role : Role) (rid : ℕ) → given name_in (settings_of items) ≡ Some name → given role_in (settings_of items) ≡ Some role
        → given rid_in (settings_of items) ≡ Some rid → (found : Option Account) → account_of (accounts_of items) rid ≡ found → Ends
    by_account name role rid is_name is_role is_rid None is =
        inr (inr (inr (inr (inl record { rid = rid; set = is_rid; none = (missing (accounts_of items) rid).0 (subst IsNone (sym is) refl) }))))
    by_account name role rid is_name is_role is_rid (Some account) is = by_polls name role rid is_name is_role is_rid (subst IsSome (sym is) refl)

    by_rid : (name : List ℕ) (role : Role) → given name_in (settings_of items) ≡ Some name → given role_in (settings_of items) ≡ Some role
        → (rid : Option ℕ) → given rid_in (settings_of items) ≡ rid → Ends
    by_rid name role is_name is_role None is = inr (inr (inr (inl is)))
    by_rid name role is_name is_role (Some rid) is = by_account name role rid is_name is_role is (account_of (accounts_of items) rid) refl

    by_role : (name : List ℕ) → given name_in (settings_of items) ≡ Some name → (role : Option Role) → given role_in (settings_of items) ≡ role → Ends
    by_role name is_name None is = inr (inr (inl is))
    by_role name is_name (Some role) is = by_rid name role is_name is (given rid_in (settings_of items)) refl

    by_name : (name : Option (List ℕ)) → given name_in (settings_of items) ≡ name → Ends
    by_name None is = inr (inl is)
    by_name (Some name) is = by_role name is (given role_in (settings_of items)) refl
