-- Lists that are read and written part by part.
use Rattle.std.proofs.Common.{◌≡◌, ℕ, ◌+◌, ◌≤◌, List, ◌++◌, length, take, drop, sym, ◌∙◌, ap, arith, append_assoc, length-append, length-drop}
use Rattle.std.proofs.lemmas.List.{take_at, drop_at, take_all, take-append-drop, take-append-le, drop-append-le}
use Rattle.byte_codec.specs.Numbers.{part_at}

-- one part more was read behind a front
pub read_more : (bytes front rest part after : List ℕ) → bytes ≡ front ++ rest → rest ≡ part ++ after → bytes ≡ (front ++ part) ++ after
read_more bytes front rest part after before now =
    before ∙ ap (λ (l : List ℕ). front ++ l) now ∙ sym (append_assoc front part after)

-- one part more was written behind a front
pub written_more : (new old front part : List ℕ) → old ≡ front → new ≡ old ++ part → new ≡ front ++ part
written_more new old front part before now = now ∙ ap (λ (l : List ℕ). l ++ part) before

-- a list that is read in two parts is both of them
pub two_parts : (n : ℕ) (bytes front back : List ℕ) → take n bytes ≡ front → drop n bytes ≡ back → bytes ≡ front ++ back
two_parts n bytes front back e f =
    sym (take-append-drop n bytes) ∙ ap (λ (l : List ℕ). l ++ drop n bytes) e ∙ ap (λ (l : List ℕ). front ++ l) f

-- two equal lists have equal fronts of one length, and are equal behind them
pub same_parts : (n : ℕ) (a b s t : List ℕ) → length a ≡ n → length b ≡ n → a ++ s ≡ b ++ t → (a ≡ b) × (s ≡ t)
same_parts n a b s t long also same = (
  sym (take_at a s n long) ∙ ap (λ (l : List ℕ). take n l) same ∙ take_at b t n also,
  sym (drop_at a s n long) ∙ ap (λ (l : List ℕ). drop n l) same ∙ drop_at b t n also,
)

-- a part of a list is that part of a longer one
pub part_before : (place count : ℕ) (front after : List ℕ) → place + count ≤ length front → part_at place count (front ++ after) ≡ part_at place count front
part_before place count front after within =
    let here : place ≤ length front = omega arith in
    let enough : count ≤ length (drop place front) = omega (arith, length-drop place front) in
    ap (λ (l : List ℕ). take count l) (drop-append-le place front after here) ∙ take-append-le count (drop place front) after enough

-- the part behind a front
pub part_behind : (place count : ℕ) (front part : List ℕ) → length front ≡ place → length part ≡ count → part_at place count (front ++ part) ≡ part
part_behind place count front part long size =
    let whole : length part ≤ count = omega arith in
    ap (λ (l : List ℕ). take count l) (drop_at front part place long) ∙ take_all count part whole

-- a list of two parts is as long as both
pub longer : (m n : ℕ) (front part : List ℕ) → length front ≡ m → length part ≡ n → length (front ++ part) ≡ m + n
longer m n front part long size = omega (arith, length-append front part, long, size)
