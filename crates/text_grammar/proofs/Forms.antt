-- A text says one thing, or has one first bad line.
use Rattle.std.proofs.Common.{◌≡◌, ◌+◌, ℕ, true, Bool, List, [], ◌∷◌, ◌++◌, length, get_or, refl, sym, ◌∙◌, ap, arith, ◌⊎◌, inl, inr, subst, cond, length-append}
use Rattle.std.proofs.lemmas.List.{get_or_append_left}
use Rattle.std.proofs.Math.Seq.{get_or-append_seam}
use Rattle.std.specs.List.{AllZip, AllPairs, Any, filter}
use Rattle.std.proofs.lemmas.List.Elements.{filter-append}
use Rattle.text_grammar.specs.Lines.{TextForm, Say, SpellsNothing, SaysAgain, IsFirstBad}

-- each line of a form says one thing at most
pub record SaysOne {A : Type 0} (form : TextForm A) : Type 0 where
  pub one : (x y : A) (line : List ℕ) → form.Spells x line → form.Spells y line → x ≡ y

-- lists that are spelled by the same lines are the same
same_spelled : {A : Type 0} (Spells : A → List ℕ → Type 0) → ((x y : A) (line : List ℕ) → Spells x line → Spells y line → x ≡ y)
    → (xs ys : List A) (lines : List (List ℕ)) → AllZip Spells xs lines → AllZip Spells ys lines → xs ≡ ys
same_spelled Spells one [] [] [] p q = refl
same_spelled Spells one [] [] (l ∷ ls) p q = absurd p
same_spelled Spells one [] (y ∷ ys) [] p q = absurd q
same_spelled Spells one [] (y ∷ ys) (l ∷ ls) p q = absurd p
same_spelled Spells one (x ∷ xs) [] [] p q = absurd p
same_spelled Spells one (x ∷ xs) [] (l ∷ ls) p q = absurd q
same_spelled Spells one (x ∷ xs) (y ∷ ys) [] p q = absurd p
same_spelled Spells one (x ∷ xs) (y ∷ ys) (l ∷ ls) p q =
    let first = one x y l p.0 q.0 in
    let rest = same_spelled Spells one xs ys ls p.1 q.1 in
    cc

-- what spells lines is cut as they are
pub record Cut {A : Type 0} (Spells : A → List ℕ → Type 0) (xs : List A) (p : List (List ℕ)) (line : List ℕ) (q : List (List ℕ)) : Type 0 where
  pub front : List A
  pub value : A
  pub back : List A
  pub parts : xs ≡ front ++ value ∷ back
  pub spelled : AllZip Spells front p
  pub value_spelled : Spells value line
  pub back_spelled : AllZip Spells back q

cut_at : {A : Type 0} (Spells : A → List ℕ → Type 0) (xs : List A) (p : List (List ℕ)) (line : List ℕ) (q : List (List ℕ))
    → AllZip Spells xs (p ++ line ∷ q) → Cut Spells xs p line q
cut_at Spells [] [] line q h = absurd h
cut_at Spells [] (l ∷ p) line q h = absurd h
cut_at Spells (x ∷ xs) [] line q h = record { front = []; value = x; back = xs; parts = refl; spelled = tt; value_spelled = h.0; back_spelled = h.1 }
cut_at Spells (x ∷ xs) (l ∷ p) line q h =
    let c = cut_at Spells xs p line q h.1 in
    record {
      front = x ∷ c.front;
      value = c.value;
      back = c.back;
      parts = ap (λ l. x ∷ l) c.parts;
      spelled = (h.0, c.spelled);
      value_spelled = c.value_spelled;
      back_spelled = c.back_spelled;
    }

-- lists without two that are the same have fronts without them
front_distinct : {A : Type 0} (R : A → A → Type 0) (front back : List A) → AllPairs R (front ++ back) → AllPairs R front
front_distinct R front back distinct i j d below within =
    let left : get_or (front ++ back) i d ≡ get_or front i d = get_or_append_left front back d i (omega arith) in
    let right : get_or (front ++ back) j d ≡ get_or front j d = get_or_append_left front back d j (omega arith) in
    let both = distinct i j d below (omega (arith, length-append front back)) in
    rw (left, right) at both

-- where no two are the same, none before a value is the same
none_before : {A : Type 0} (AreSame : A → A → Type 0) (front : List A) (x : A) (back : List A)
    → AllPairs (λ a b. AreSame a b → ⊥) (front ++ x ∷ back) → Any (λ y. AreSame y x) front → ⊥
none_before AreSame front x back distinct again =
    let k = again.0 in
    let y = again.1 in
    let left : get_or (front ++ x ∷ back) k y ≡ y = get_or_append_left front (x ∷ back) y k (omega arith) ∙ again.3 in
    let right : get_or (front ++ x ∷ back) (length front) y ≡ x = get_or-append_seam front x back y in
    let both = distinct k (length front) y (omega arith) (omega (arith, length-append front (x ∷ back))) in
    let apart = rw (left, right) at both in
    apart again.4

-- what lines say up to one that is looked at: what those before it say, and what it says
pub record SaidUpTo {A : Type 0} (form : TextForm A) (before : List (List ℕ)) (line : List ℕ) (values : List A) : Type 0 where
  pub front : List A
  pub value : A
  pub back : List A
  pub parts : values ≡ front ++ value ∷ back
  pub said : Say form before front
  pub spelled : form.Spells value line
  pub fresh : Any (λ x. form.AreSame x value) front → ⊥

-- a line that is looked at stays among those that are
seen_filter : {X : Type 0} (p : X → Bool) (before : List X) (x : X) (after : List X) → p x ≡ true
    → filter p (before ++ x ∷ after) ≡ filter p before ++ x ∷ filter p after
seen_filter p before x after seen = filter-append p before (x ∷ after) ∙ ap (λ b. filter p before ++ cond b (x ∷ filter p after) (filter p after)) seen

pub said_up_to : {A : Type 0} (form : TextForm A) (before : List (List ℕ)) (line : List ℕ) (after : List (List ℕ)) (values : List A)
    → form.is_seen line ≡ true → Say form (before ++ line ∷ after) values → SaidUpTo form before line values
said_up_to form before line after values seen say =
    let spelled = rw (seen_filter form.is_seen before line after seen) at say.spelled in
    let c = cut_at form.Spells values (filter form.is_seen before) line (filter form.is_seen after) spelled in
    let distinct = rw c.parts at say.distinct in
    record {
      front = c.front;
      value = c.value;
      back = c.back;
      parts = c.parts;
      said = record { spelled = c.spelled; distinct = front_distinct (λ x y. form.AreSame x y → ⊥) c.front (c.value ∷ c.back) distinct };
      spelled = c.value_spelled;
      fresh = none_before form.AreSame c.front c.value c.back distinct;
    }

-- No saying of a line has its place beside what earlier lines say.
pub record IsRefused {A : Type 0} (form : TextForm A) (earlier : List A) (line : List ℕ) : Type 0 where
  pub seen : form.is_seen line ≡ true
  pub refused : (x : A) → form.Spells x line → (Any (λ y. form.AreSame y x) earlier → ⊥) → ⊥

-- a line that spells nothing is refused, and one that says something again
pub nothing_refused : {A : Type 0} (form : TextForm A) (earlier : List A) (line : List ℕ) → SpellsNothing form earlier line → IsRefused form earlier line
nothing_refused form earlier line bad = record { seen = bad.seen; refused = λ x spelled fresh. bad.nothing x spelled }

pub again_refused : {A : Type 0} (form : TextForm A) → SaysOne form → (earlier : List A) (line : List ℕ) → SaysAgain form earlier line → IsRefused form earlier line
again_refused {A} form says earlier line bad = record {
  seen = bad.seen;
  refused = λ x spelled fresh.
      let same : bad.value ≡ x = says.one bad.value x line bad.spelled spelled in
      let P : A → Type 0 = λ v. Any (λ y. form.AreSame y v) earlier in
      fresh (subst P same bad.again);
}

-- a first bad line, in a way that is known of its line
pub first_bad_as : {A : Type 0} (form : TextForm A) (P Q : List A → List ℕ → Type 0) (lines : List (List ℕ)) (n : ℕ)
    → ((earlier : List A) (line : List ℕ) → P earlier line → Q earlier line) → IsFirstBad form P lines n → IsFirstBad form Q lines n
first_bad_as form P Q lines n leads bad = record {
  before = bad.before;
  line = bad.line;
  after = bad.after;
  earlier = bad.earlier;
  parts = bad.parts;
  number = bad.number;
  said = bad.said;
  bad = leads bad.earlier bad.line bad.bad;
}

-- a text with a bad line says nothing
pub bad_says_nothing : {A : Type 0} (form : TextForm A) → SaysOne form → (lines : List (List ℕ)) (n : ℕ) (values : List A)
    → IsFirstBad form (IsRefused form) lines n → Say form lines values → ⊥
bad_says_nothing {A} form says lines n values bad say =
    let s = said_up_to form bad.before bad.line bad.after values bad.bad.seen (rw bad.parts at say) in
    let same : s.front ≡ bad.earlier = same_spelled form.Spells says.one s.front bad.earlier _ s.said.spelled bad.said.spelled in
    let P : List A → Type 0 = λ l. Any (λ y. form.AreSame y s.value) l → ⊥ in
    bad.bad.refused s.value s.spelled (subst P same s.fresh)

-- two cuts of one list are the same, or one of them is the earlier
two_cuts : {X : Type 0} (p : List X) (x : X) (a : List X) (q : List X) (y : X) (b : List X) → p ++ x ∷ a ≡ q ++ y ∷ b
    → ((p ≡ q) × (x ≡ y)) ⊎ (((more : List X) × (q ≡ p ++ x ∷ more)) ⊎ ((more : List X) × (p ≡ q ++ y ∷ more)))
two_cuts [] x a [] y b same = inl (refl, cc)
two_cuts [] x a (z ∷ q) y b same = let head : z ≡ x = cc in inr (inl (q, cc head))
two_cuts (z ∷ p) x a [] y b same = let head : z ≡ y = cc in inr (inr (p, cc head))
two_cuts (z ∷ p) x a (w ∷ q) y b same =
    let head : z ≡ w = cc in
    let rest : p ++ x ∷ a ≡ q ++ y ∷ b = cc in
    elim (two_cuts p x a q y b rest) [
      | inl at_one ↦ inl (cc (head, at_one.0), at_one.1)
      | inr apart ↦ elim apart [
        | inl first ↦ inr (inl (first.0, cc (head, first.1)))
        | inr second ↦ inr (inr (second.0, cc (head, second.1)))
      ]
    ]

-- two first bad lines are one, beside the same sayings
pub record AreOne {A : Type 0} (P Q : List A → List ℕ → Type 0) (n m : ℕ) : Type 0 where
  pub number : n ≡ m
  pub earlier : List A
  pub line : List ℕ
  pub first : P earlier line
  pub second : Q earlier line

pub one_first_bad : {A : Type 0} (form : TextForm A) → SaysOne form → (P Q : List A → List ℕ → Type 0)
    → ((earlier : List A) (line : List ℕ) → P earlier line → IsRefused form earlier line)
    → ((earlier : List A) (line : List ℕ) → Q earlier line → IsRefused form earlier line)
    → (lines : List (List ℕ)) (n m : ℕ) → IsFirstBad form P lines n → IsFirstBad form Q lines m → AreOne P Q n m
one_first_bad {A} form says P Q p_refused q_refused lines n m first second =
    elim (two_cuts first.before first.line first.after second.before second.line second.after (sym first.parts ∙ second.parts)) [
      | inl at_one ↦
          let p_said : Say form second.before first.earlier = rw at_one.0 at first.said in
          let same : first.earlier ≡ second.earlier = same_spelled form.Spells says.one first.earlier second.earlier _ p_said.spelled second.said.spelled in
          record {
            number = first.number ∙ ap (λ l. length l + 1) at_one.0 ∙ sym second.number;
            earlier = second.earlier;
            line = second.line;
            first = rw (same, at_one.1) at first.bad;
            second = second.bad;
          }
      | inr apart ↦ elim apart [
        | inl p_before ↦
            let bad : IsFirstBad form P second.before n = record {
              before = first.before;
              line = first.line;
              after = p_before.0;
              earlier = first.earlier;
              parts = p_before.1;
              number = first.number;
              said = first.said;
              bad = first.bad;
            } in
            absurd (bad_says_nothing form says second.before n second.earlier (first_bad_as form P (IsRefused form) second.before n p_refused bad) second.said)
        | inr q_before ↦
            let bad : IsFirstBad form Q first.before m = record {
              before = second.before;
              line = second.line;
              after = q_before.0;
              earlier = second.earlier;
              parts = q_before.1;
              number = second.number;
              said = second.said;
              bad = second.bad;
            } in
            absurd (bad_says_nothing form says first.before m first.earlier (first_bad_as form Q (IsRefused form) first.before m q_refused bad) first.said)
      ]
    ]

-- what is found of a text
pub data Verdict (A : Type 0) : Type 0 where
  good : List A → Verdict A
  bad_line : ℕ → Verdict A
  again : ℕ → Verdict A

abbrev pub Judges : {A : Type 0} → TextForm A → List (List ℕ) → Verdict A → Type 0
Judges form lines (good values) = Say form lines values
Judges form lines (bad_line n) = IsFirstBad form (SpellsNothing form) lines n
Judges form lines (again n) = IsFirstBad form (SaysAgain form) lines n

-- one verdict is true of a text
pub one_verdict : {A : Type 0} (form : TextForm A) → SaysOne form → (lines : List (List ℕ)) (v w : Verdict A)
    → Judges form lines v → Judges form lines w → v ≡ w
one_verdict form says lines (good xs) (good ys) p q = ap good (same_spelled form.Spells says.one xs ys _ p.spelled q.spelled)
one_verdict form says lines (good xs) (bad_line m) p q =
    absurd (bad_says_nothing form says lines m xs (first_bad_as form _ (IsRefused form) lines m (nothing_refused form) q) p)
one_verdict form says lines (good xs) (again m) p q =
    absurd (bad_says_nothing form says lines m xs (first_bad_as form _ (IsRefused form) lines m (again_refused form says) q) p)
one_verdict form says lines (bad_line n) (good ys) p q =
    absurd (bad_says_nothing form says lines n ys (first_bad_as form _ (IsRefused form) lines n (nothing_refused form) p) q)
one_verdict form says lines (bad_line n) (bad_line m) p q =
    ap bad_line (one_first_bad form says _ _ (nothing_refused form) (nothing_refused form) lines n m p q).number
one_verdict form says lines (bad_line n) (again m) p q =
    let one = one_first_bad form says _ _ (nothing_refused form) (again_refused form says) lines n m p q in
    absurd (one.first.nothing one.second.value one.second.spelled)
one_verdict form says lines (again n) (good ys) p q =
    absurd (bad_says_nothing form says lines n ys (first_bad_as form _ (IsRefused form) lines n (again_refused form says) p) q)
one_verdict form says lines (again n) (bad_line m) p q =
    let one = one_first_bad form says _ _ (again_refused form says) (nothing_refused form) lines n m p q in
    absurd (one.second.nothing one.first.value one.first.spelled)
one_verdict form says lines (again n) (again m) p q =
    ap again (one_first_bad form says _ _ (again_refused form says) (again_refused form says) lines n m p q).number
