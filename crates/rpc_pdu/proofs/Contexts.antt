-- Contexts and transfer syntaxes, one behind the other.
use Rattle.std.proofs.Common.{◌≡◌, ℕ, zero, suc, ◌+◌, ◌-◌, ◌*◌, ◌<◌, ◌≤◌, min, List, [], ◌∷◌, ◌++◌, length, take, drop, Some, refl, sym, ◌∙◌, ap, arith, length-append, length-drop, subst}
use Rattle.std.specs.Prelude.{slice_get}
use Rattle.std.proofs.lemmas.List.{drop-drop, drop_at, take_at}
use Rattle.std.proofs.lemmas.Option.{none-some, same_Some}
use Rattle.byte_codec.specs.Numbers.{part_at}
use Rattle.rpc_pdu.specs.declared.bind.Context.{Context}
use Rattle.rpc_pdu.specs.Bind.{AreContexts, IsContext, context_at, context_len}

pub at_none : (bytes : List ℕ) → context_at 0 bytes ≡ 0
unfolding context_at
at_none bytes = refl

pub at_more : (n : ℕ) (bytes : List ℕ) → context_at (n + 1) bytes ≡ context_at n bytes + context_len (drop (context_at n bytes) bytes)
unfolding context_at
at_more n bytes = let same : n + 1 ≡ suc n = omega arith in ap (λ (k : ℕ). context_at k bytes) same

-- more contexts end later
pub at_later : (n k : ℕ) (bytes : List ℕ) → context_at n bytes ≤ context_at (n + k) bytes
at_later n zero bytes = let same : n + 0 ≡ n = omega arith in omega (arith, ap (λ (k : ℕ). context_at k bytes) same)
at_later n (suc k) bytes =
    let same : n + suc k ≡ (n + k) + 1 = omega arith in
    omega (arith, ap (λ (j : ℕ). context_at j bytes) same, at_more (n + k) bytes, at_later n k bytes)

-- one context more was passed
pub rest_more : (n : ℕ) (bytes rest behind : List ℕ) → rest ≡ drop (context_at n bytes) bytes → behind ≡ drop (context_len rest) rest
    → behind ≡ drop (context_at (n + 1) bytes) bytes
rest_more n bytes rest behind before now =
    now ∙ ap (λ (l : List ℕ). drop (context_len l) l) before
    ∙ drop-drop (context_len (drop (context_at n bytes) bytes)) (context_at n bytes) bytes
    ∙ ap (λ (k : ℕ). drop k bytes) (sym (at_more n bytes))

-- whether one context more is whole
pub end_more : (n : ℕ) (bytes rest : List ℕ) → rest ≡ drop (context_at n bytes) bytes → context_at n bytes ≤ length bytes
    → context_at (n + 1) bytes + length rest ≡ length bytes + context_len rest
end_more n bytes rest is within =
    let size : length rest ≡ length bytes - context_at n bytes = ap length is ∙ length-drop (context_at n bytes) bytes in
    let more : context_at (n + 1) bytes ≡ context_at n bytes + context_len rest =
    at_more n bytes ∙ ap (λ (l : List ℕ). context_at n bytes + context_len l) (sym is) in
    omega (arith, size, more, within)

-- one transfer syntax more was read
pub syntax_len : (rest syntax behind : List ℕ) → rest ≡ syntax ++ behind → length behind + 20 ≡ length rest → length syntax ≡ 20
syntax_len rest syntax behind cut size = omega (arith, size, ap length cut, length-append syntax behind)

pub syntax_is : (n : ℕ) (syntaxes rest syntax behind : List ℕ) → rest ≡ drop (20 * n) syntaxes → rest ≡ syntax ++ behind → length syntax ≡ 20
    → part_at (20 * n) 20 syntaxes ≡ syntax
syntax_is n syntaxes rest syntax behind before cut size =
    ap (λ (l : List ℕ). take 20 l) (sym before ∙ cut) ∙ take_at syntax behind 20 size

pub syntaxes_more : (n : ℕ) (syntaxes rest syntax behind : List ℕ) → rest ≡ drop (20 * n) syntaxes → rest ≡ syntax ++ behind → length syntax ≡ 20
    → behind ≡ drop (20 * (n + 1)) syntaxes
syntaxes_more n syntaxes rest syntax behind before cut size =
    let next : 20 * n + 20 ≡ 20 * (n + 1) = omega arith in
    sym (drop_at syntax behind 20 size) ∙ ap (λ (l : List ℕ). drop 20 l) (sym cut ∙ before) ∙ drop-drop 20 (20 * n) syntaxes ∙ ap (λ (k : ℕ). drop k syntaxes) next

-- a context that ends where no more than all do lies within the bytes
pub whole_context : (n offered : ℕ) (bytes rest : List ℕ) → n < offered → context_at offered bytes ≤ length bytes → rest ≡ drop (context_at n bytes) bytes
    → context_len rest ≤ length rest
whole_context n offered bytes rest below fits is =
    let after : (n + 1) + (offered - (n + 1)) ≡ offered = omega (arith, below) in
    let later = at_later (n + 1) (offered - (n + 1)) bytes in
    let same = ap (λ (k : ℕ). context_at k bytes) after in
    let within : context_at n bytes ≤ length bytes = omega (arith, later, same, fits, at_more n bytes) in
    let more = end_more n bytes rest is within in
    omega (arith, more, later, same, fits)

-- what holds of each item, and of one more
get_more : {X : Type 0} (P : ℕ → X → Type 0) (xs : List X) (x : X) → ((k : ℕ) (y : X) → slice_get xs k ≡ Some y → P k y) → P (length xs) x
    → (k : ℕ) (y : X) → slice_get (xs ++ x ∷ []) k ≡ Some y → P k y
get_more P [] x each here zero y is = subst (λ (z : _). P 0 z) (same_Some x y is) here
get_more P [] x each here (suc k) y is = absurd (none-some y is)
get_more P (z ∷ xs) x each here zero y is = each 0 y is
get_more P (z ∷ xs) x each here (suc k) y is = get_more (λ n w. P (suc n) w) xs x (λ n w. each (suc n) w) here k y is

pub contexts_more : (n : ℕ) (contexts : List Context) (context : Context) (bytes rest : List ℕ) → n < 8 → AreContexts n contexts bytes → rest ≡ drop (context_at n bytes) bytes
    → IsContext context rest → AreContexts (n + 1) (contexts ++ context ∷ []) bytes
contexts_more n contexts context bytes rest below are is here =
    let size : length contexts ≡ n = omega (arith, are.count, below) in
    record {
      count = omega (arith, size, below, length-append contexts (context ∷ []));
      each = get_more (λ k c. IsContext c (drop (context_at k bytes) bytes)) contexts context are.each
          (subst (λ (l : List ℕ). IsContext context l) (is ∙ ap (λ (k : ℕ). drop (context_at k bytes) bytes) (sym size)) here);
    }

pub no_contexts : (bytes : List ℕ) → AreContexts 0 [] bytes
no_contexts bytes = record { count = refl; each = λ k context is. absurd (none-some context is) }

-- the contexts that are kept are those of all that are offered
pub contexts_of_all : (n offered : ℕ) (contexts : List Context) (bytes : List ℕ) → n ≡ min offered 8 → AreContexts n contexts bytes → AreContexts offered contexts bytes
contexts_of_all n offered contexts bytes is are = record { count = omega (arith, are.count, is); each = are.each }
