-- A name in a list of entries, and the test that finds it.
use Rattle.std.proofs.Common.{◌≡◌, ◌≢◌, ℕ, Bool, true, false, List, [], ◌∷◌, ◌++◌, Result, Ok, Err, get_or, refl, sym, ap, subst, ◌∙◌, true≢false}
use Rattle.std.specs.Prelude.{IfOk, OnErr, if◌then◌else◌, nat_eq, not}
use Rattle.std.specs.List.{list_any}
use Rattle.std.specs.Cmp.Lexicographic.{pointwise, bytes_decides}
use Rattle.std.proofs.lemmas.List.Folds.{Any-from_list_any, list_any-from_Any, list_any_at}
use Rattle.std.proofs.lemmas.List.Quantifiers.{all_pairs_push}
use Rattle.indexmap.specs.IndexSet.{insert_key}
use Rattle.partner_pick.specs.declared.entry.Entry.{Entry}
use Rattle.partner_pick.specs.Names.{AreDistinct, HasName}

-- whether an entry has the name
abbrev pub has : List ℕ → Entry → Bool
has name e = pointwise nat_eq name e.name

pub found : (entries : List Entry) (name : List ℕ) → list_any (has name) entries ≡ true → HasName entries name
found entries name h =
    let any = Any-from_list_any (has name) entries h in
    (any.0, any.1, any.2, any.3, sym ((bytes_decides name any.1.name).0 any.4))

pub finds : (entries : List Entry) (name : List ℕ) → HasName entries name → list_any (has name) entries ≡ true
finds entries name any =
    list_any-from_Any (has name) entries (any.0, any.1, any.2, any.3, (bytes_decides name any.1.name).1 (sym any.4))

-- an entry with a new name leaves the names distinct
pub distinct_more : (entries : List Entry) (e : Entry) → AreDistinct entries → list_any (has e.name) entries ≡ false
    → AreDistinct (entries ++ e ∷ [])
distinct_more entries e distinct none =
    all_pairs_push (λ (a b : Entry). a.name ≢ b.name) entries e distinct
    (λ k d within same.
    let at = list_any_at (has e.name) entries k d within ((bytes_decides e.name (get_or entries k d).name).1 (sym same)) in
    true≢false (sym at ∙ none))

-- whether two entries have one name
abbrev pub is_same : Entry → Entry → Bool
is_same a b = pointwise nat_eq a.name b.name

inserted : (entries : List Entry) (e : Entry) (is : Bool) → list_any (is_same e) entries ≡ is → AreDistinct entries
    → AreDistinct (if is then entries else entries ++ e ∷ [])
inserted entries e true is distinct = distinct
inserted entries e false is distinct = distinct_more entries e distinct is

-- after an entry is put into a set of distinct names, they are distinct still
pub distinct_after : {E : Type 0} (r : Result Bool E) (old new : List Entry) (e : Entry) → AreDistinct old
    → IfOk r (λ is_new. new ≡ insert_key is_same old e) → OnErr r (new ≡ old) → AreDistinct new
distinct_after (Ok is_new) old new e distinct keys same =
    subst AreDistinct (sym keys) (inserted old e (list_any (is_same e) old) refl distinct)
distinct_after (Err fault) old new e distinct keys same = subst AreDistinct (sym same) distinct

-- an entry is new where no entry has its name
pub none_has : (entries now : List Entry) (e entry : Entry) (is_new : Bool) → entries ≡ now → e ≡ entry → is_new ≡ true
    → is_new ≡ not (list_any (is_same e) entries) → HasName now entry.name → ⊥
none_has entries now e entry is_new same_entries same is says has =
    let there : HasName entries e.name = rw (same_entries, same) has in
    true≢false (sym is ∙ says ∙ ap not (finds entries e.name there))

not_not : (b : Bool) → not (not b) ≡ b
not_not true = refl
not_not false = refl

-- and else one has it
pub one_has : (entries now : List Entry) (e entry : Entry) (is_new : Bool) → entries ≡ now → e ≡ entry → is_new ≡ false
    → is_new ≡ not (list_any (is_same e) entries) → HasName now entry.name
one_has entries now e entry is_new same_entries same is says =
    let any : list_any (is_same e) entries ≡ true = sym (not_not (list_any (is_same e) entries)) ∙ ap not (sym says ∙ is) in
    rw (sym same_entries, sym same) (found entries e.name any)
