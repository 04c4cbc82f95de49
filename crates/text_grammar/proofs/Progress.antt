-- How far the reading of a text has come.
use Rattle.std.proofs.Common.{◌≡◌, ◌+◌, ℕ, Bool, true, false, List, [], ◌∷◌, ◌++◌, length, get_or, refl, sym, ◌∙◌, ap, arith, cond, length-append, append_assoc, append-nil}
use Rattle.std.specs.List.{AllZip, Any, filter}
use Rattle.std.proofs.lemmas.List.{get_or_default}
use Rattle.std.proofs.lemmas.List.Elements.{filter-append}
use Rattle.std.proofs.lemmas.List.Quantifiers.{all_pairs_push}
use Rattle.text_grammar.specs.Lines.{TextForm, Say, SpellsNothing, SaysAgain, IsFirstBad}
use Rattle.text_grammar.proofs.Forms.{Verdict, good, bad_line, again, Judges}

-- The first n lines say these values, and these lines are left.
pub record HasRead {A : Type 0} (form : TextForm A) (lines : List (List ℕ)) (n : ℕ) (values : List A) (left : List (List ℕ)) : Type 0 where
  pub done : List (List ℕ)
  pub parts : lines ≡ done ++ left
  pub number : n ≡ length done
  pub said : Say form done values

-- at the beginning
pub read_none : {A : Type 0} (form : TextForm A) (lines : List (List ℕ)) → HasRead form lines 0 [] lines
read_none form lines = record {
  done = [];
  parts = refl;
  number = refl;
  said = record { spelled = tt; distinct = λ i j d below within. absurd (omega arith) };
}

-- lines, and one more
one_more : (done : List (List ℕ)) (line : List ℕ) (left : List (List ℕ)) → done ++ line ∷ left ≡ (done ++ line ∷ []) ++ left
one_more done line left = sym (append_assoc done (line ∷ []) left)

-- a line that is not looked at
pub read_other : {A : Type 0} (form : TextForm A) (lines : List (List ℕ)) (n : ℕ) (values : List A) (line : List ℕ) (left : List (List ℕ))
    → HasRead form lines n values (line ∷ left) → form.is_seen line ≡ false → HasRead form lines (n + 1) values left
read_other form lines n values line left read other =
    let passed : filter form.is_seen (read.done ++ line ∷ []) ≡ filter form.is_seen read.done =
    filter-append form.is_seen read.done (line ∷ []) ∙ ap (λ b. filter form.is_seen read.done ++ cond b (line ∷ []) []) other ∙ append-nil (filter form.is_seen read.done) in
    record {
      done = read.done ++ line ∷ [];
      parts = read.parts ∙ one_more read.done line left;
      number = omega (arith, read.number, length-append read.done (line ∷ []));
      said = record { spelled = rw passed read.said.spelled; distinct = read.said.distinct };
    }

-- what spells lines, and what spells one more
spelled_more : {A : Type 0} (Spells : A → List ℕ → Type 0) (xs : List A) (lines : List (List ℕ)) (x : A) (line : List ℕ)
    → AllZip Spells xs lines → Spells x line → AllZip Spells (xs ++ x ∷ []) (lines ++ line ∷ [])
spelled_more Spells [] [] x line all more = (more, tt)
spelled_more Spells [] (l ∷ ls) x line all more = absurd all
spelled_more Spells (y ∷ ys) [] x line all more = absurd all
spelled_more Spells (y ∷ ys) (l ∷ ls) x line all more = (all.0, spelled_more Spells ys ls x line all.1 more)

-- a line that says a value which is not the same as one before it
pub read_next : {A : Type 0} (form : TextForm A) (lines : List (List ℕ)) (n : ℕ) (values : List A) (line : List ℕ) (left : List (List ℕ)) (x : A)
    → HasRead form lines n values (line ∷ left) → form.is_seen line ≡ true → form.Spells x line
    → (Any (λ y. form.AreSame y x) values → ⊥) → HasRead form lines (n + 1) (values ++ x ∷ []) left
read_next form lines n values line left x read seen spelled fresh =
    let taken : filter form.is_seen (read.done ++ line ∷ []) ≡ filter form.is_seen read.done ++ line ∷ [] =
    filter-append form.is_seen read.done (line ∷ []) ∙ ap (λ b. filter form.is_seen read.done ++ cond b (line ∷ []) []) seen in
    record {
      done = read.done ++ line ∷ [];
      parts = read.parts ∙ one_more read.done line left;
      number = omega (arith, read.number, length-append read.done (line ∷ []));
      said = record {
        spelled = rw taken (spelled_more form.Spells values (filter form.is_seen read.done) x line read.said.spelled spelled);
        distinct = all_pairs_push (λ a b. form.AreSame a b → ⊥) values x read.said.distinct (λ k d within same. fresh (k, get_or values k d, within, get_or_default values k (get_or values k d) d within, same));
      };
    }

-- a line that is bad beside what the lines before it say
pub read_bad : {A : Type 0} (form : TextForm A) (IsBad : List A → List ℕ → Type 0) (lines : List (List ℕ)) (n : ℕ) (values : List A) (line : List ℕ) (left : List (List ℕ))
    → HasRead form lines n values (line ∷ left) → IsBad values line → IsFirstBad form IsBad lines (n + 1)
read_bad form IsBad lines n values line left read bad = record {
  before = read.done;
  line = line;
  after = left;
  earlier = values;
  parts = read.parts;
  number = ap (λ k. k + 1) read.number;
  said = read.said;
  bad = bad;
}

-- at the end
pub read_all : {A : Type 0} (form : TextForm A) (lines : List (List ℕ)) (n : ℕ) (values : List A) → HasRead form lines n values [] → Say form lines values
read_all form lines n values read = rw (read.parts ∙ append-nil read.done) read.said

-- beside what was read, the lines that are left have a verdict
judged_from : {A : Type 0} (form : TextForm A) (lines : List (List ℕ)) (n : ℕ) (values : List A) (left : List (List ℕ))
    → HasRead form lines n values left → ((v : Verdict A) → Judges form lines v → ⊥) → ⊥
judged_from form lines n values [] read none = none (good values) (read_all form lines n values read)
judged_from {A} form lines n values (line ∷ left) read none =
    by_look (λ more further. judged_from form lines (n + 1) more left further none) (form.is_seen line) refl
  where
    by_look : ((more : List A) → HasRead form lines (n + 1) more left → ⊥) → (seen : Bool) → form.is_seen line ≡ seen → ⊥
    by_look on false other = on values (read_other form lines n values line left read other)
    by_look on true seen =
        let twice : (x : A) → form.Spells x line → Any (λ y. form.AreSame y x) values → ⊥ =
        λ x spelled same. none (again (n + 1))
        (read_bad form (SaysAgain form) lines n values line left read record { seen = seen; value = x; spelled = spelled; again = same }) in
        let nothing : (x : A) → form.Spells x line → ⊥ =
        λ x spelled. on (values ++ x ∷ []) (read_next form lines n values line left x read seen spelled (twice x spelled)) in
        none (bad_line (n + 1)) (read_bad form (SpellsNothing form) lines n values line left read record { seen = seen; nothing = nothing })

-- no text is without a verdict
pub some_verdict : {A : Type 0} (form : TextForm A) (lines : List (List ℕ)) → ((v : Verdict A) → Judges form lines v → ⊥) → ⊥
some_verdict form lines none = judged_from form lines 0 [] lines (read_none form lines) none
