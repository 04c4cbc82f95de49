-- What the draws of a seed make, case by case.
use Rattle.std.proofs.Common.{◌≡◌, ℕ, ◌+◌, ◌*◌, ◌%◌, ◌<◌, ◌≤◌, ◌≢◌, zero, suc, List, [], ◌∷◌, ◌++◌, length, take, refl, ap, ◌∙◌, append_assoc, append-nil, arith}
use Rattle.std.proofs.lemmas.List.{take_all}
use Rattle.std.proofs.lemmas.Bool.Decides.{nat_tests}
use Rattle.sntp_world.specs.declared.op.Op.{Op}
use Rattle.sntp_world.specs.declared.op.Op.TheVariants.{Pass, Poll, Deliver, Ask, Craft}
use Rattle.sntp_world.specs.Draws.{bytes_drawn, draw, draws_at, draws_of_restart_or_ask, op_at, ops_from, restart_or_ask_at, small}

-- ---- The first draw decides

pub op_at-pass : (seed n : ℕ) → draw seed n % 16 < 6
    → op_at seed n ≡ Pass (10000 * (1 + draw seed (n + 1))) (small (draw seed (n + 2))) (small (draw seed (n + 3)))
unfolding op_at
op_at-pass seed n h = grind (arith, nat_tests)

pub draws_at-pass : (seed n : ℕ) → draw seed n % 16 < 6 → draws_at seed n ≡ 4
unfolding draws_at
draws_at-pass seed n h = grind (arith, nat_tests)

pub op_at-poll : (seed n : ℕ) → 6 ≤ draw seed n % 16 → draw seed n % 16 < 9
    → op_at seed n ≡ Poll (draw seed (n + 1) * 65536 + draw seed (n + 2))
unfolding op_at
op_at-poll seed n low high = grind (arith, nat_tests)

pub draws_at-poll : (seed n : ℕ) → 6 ≤ draw seed n % 16 → draw seed n % 16 < 9 → draws_at seed n ≡ 3
unfolding draws_at
draws_at-poll seed n low high = grind (arith, nat_tests)

pub op_at-deliver : (seed n : ℕ) → 9 ≤ draw seed n % 16 → draw seed n % 16 < 14
    → op_at seed n ≡ Deliver (draw seed (n + 1) % 8)
unfolding op_at
op_at-deliver seed n low high = grind (arith, nat_tests)

pub draws_at-deliver : (seed n : ℕ) → 9 ≤ draw seed n % 16 → draw seed n % 16 < 14 → draws_at seed n ≡ 2
unfolding draws_at
draws_at-deliver seed n low high = grind (arith, nat_tests)

pub op_at-craft : (seed n : ℕ) → draw seed n % 16 ≡ 14 → op_at seed n ≡ Craft (bytes_drawn seed (n + 1) 68)
unfolding op_at
op_at-craft seed n is = grind (arith, nat_tests)

pub draws_at-craft : (seed n : ℕ) → draw seed n % 16 ≡ 14 → draws_at seed n ≡ 69
unfolding draws_at
draws_at-craft seed n is = grind (arith, nat_tests)

pub op_at-rest : (seed n : ℕ) → 14 < draw seed n % 16 → op_at seed n ≡ restart_or_ask_at seed (n + 1)
unfolding op_at
op_at-rest seed n low = grind (arith, nat_tests)

pub draws_at-rest : (seed n : ℕ) → 14 < draw seed n % 16
    → draws_at seed n ≡ 1 + draws_of_restart_or_ask seed (n + 1)
unfolding draws_at
draws_at-rest seed n low = grind (arith, nat_tests)

-- ---- Lists of draws

-- no bytes are no draws
pub bytes_drawn_none : (seed n : ℕ) → bytes_drawn seed n 0 ≡ []
unfolding bytes_drawn
bytes_drawn_none seed n = refl

-- one byte more is the next draw's
bytes_drawn-more : (seed n count at : ℕ) → at ≡ n + count
    → bytes_drawn seed n (suc count) ≡ bytes_drawn seed n count ++ (draw seed at % 256 ∷ [])
unfolding bytes_drawn
bytes_drawn-more seed n zero at is = let e : at ≡ n = omega arith in rw e refl
bytes_drawn-more seed n (suc count) at is =
    ap (λ (bytes : List ℕ). draw seed n % 256 ∷ bytes) (bytes_drawn-more seed (n + 1) count at (omega arith))

pub bytes_drawn-push : (seed n count at : ℕ) → at ≡ n + count
    → bytes_drawn seed n (count + 1) ≡ bytes_drawn seed n count ++ (draw seed at % 256 ∷ [])
bytes_drawn-push seed n count at is =
    let e : count + 1 ≡ suc count = omega arith in rw e (bytes_drawn-more seed n count at is)

pub length-bytes_drawn : (seed n count : ℕ) → length (bytes_drawn seed n count) ≡ count
unfolding bytes_drawn
length-bytes_drawn seed n zero = refl
length-bytes_drawn seed n (suc count) = ap suc (length-bytes_drawn seed (n + 1) count)

-- so few bytes are a whole datagram
pub datagram_of_drawn : (seed n count : ℕ) → count ≤ 256
    → take 256 (bytes_drawn seed n count) ≡ bytes_drawn seed n count
datagram_of_drawn seed n count few =
    let len = length-bytes_drawn seed n count in take_all 256 _ (omega arith)

-- ---- A stranger's request

pub restart_or_ask_at-ask : (seed n : ℕ) → draw seed n % 8 ≢ 0
    → restart_or_ask_at seed n ≡ Ask (0x1B ∷ bytes_drawn seed (n + 1) 67)
restart_or_ask_at-ask seed n asks = grind (arith, nat_tests)

-- the bytes behind the first are a whole datagram with it
pub asked : (seed n : ℕ) (filled : List ℕ) → filled ≡ bytes_drawn seed n 67
    → 0x1B ∷ take 255 (filled ++ []) ≡ 0x1B ∷ bytes_drawn seed n 67
asked seed n filled is =
    let len = length-bytes_drawn seed n 67 in
    ap (λ (bytes : List ℕ). 0x1B ∷ bytes)
    (ap (take 255) (append-nil filled ∙ is) ∙ take_all 255 (bytes_drawn seed n 67) (omega arith))

-- ---- Lists of operations

-- the operations from a draw on begin with its own
pub ops_from-next : (seed n left rest next : ℕ) → left ≡ rest + 1 → next ≡ n + draws_at seed n
    → ops_from seed n left ≡ op_at seed n ∷ ops_from seed next rest
ops_from-next seed n left rest next is at =
    let e : left ≡ suc rest = omega arith in
    rw e (rw at refl)

-- one operation more is taken off the front of those that are left
pub script-more : (done : List Op) (op : Op) (seed drawn left rest : ℕ) (whole : List Op)
    → done ++ ops_from seed (drawn + 1) left ≡ whole → op ≡ op_at seed (drawn + 1) → left ≡ rest + 1
    → (done ++ op ∷ []) ++ ops_from seed ((drawn + draws_at seed (drawn + 1)) + 1) rest ≡ whole
script-more done op seed drawn left rest whole so_far is more =
    let next = ops_from-next seed (drawn + 1) left rest ((drawn + draws_at seed (drawn + 1)) + 1) more (omega arith) in
    rw append_assoc (rw (is, ← next) so_far)
