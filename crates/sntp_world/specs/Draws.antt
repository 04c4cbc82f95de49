-- The script: the operations that a seed and their number determine.
use Rattle.std.specs.Prelude.{ℕ, zero, suc, ◌+◌, ◌*◌, ◌/◌, ◌%◌, ◌^◌, List, [], ◌∷◌, ℤ, pos, ◌-ℤ◌, nat_lt, ◌==◌, if◌then◌else◌}
use Rattle.sntp_world.specs.declared.op.Op.{Op}
use Rattle.sntp_world.specs.declared.op.Op.TheVariants.{Pass, Poll, Deliver, Ask, Craft, Restart}

-- the generator's number after so many draws from a seed
abbrev pub state_at : ℕ → ℕ → ℕ
state_at seed zero = seed
state_at seed (suc n) = (state_at seed n * 1664525 + 1013904223) % 2 ^ 32

-- the draw with this number, the first being number 1
abbrev pub draw : ℕ → ℕ → ℕ
draw seed n = state_at seed n / 65536

-- so many draws from this one on, each modulo 256
unfoldable pub bytes_drawn : ℕ → ℕ → ℕ → List ℕ
bytes_drawn seed n zero = []
bytes_drawn seed n (suc count) = draw seed n % 256 ∷ bytes_drawn seed (n + 1) count

-- a small amount, from -1,000 to 1,000
abbrev pub small : ℕ → ℤ
small drawn = pos (drawn % 2001) -ℤ pos 1000

-- a restart or a stranger's request, of which this draw tells
abbrev pub restart_or_ask_at : ℕ → ℕ → Op
restart_or_ask_at seed n =
    if draw seed n % 8 == 0 then Restart else Ask (0x1B ∷ bytes_drawn seed (n + 1) 67)

-- how many draws it makes
abbrev pub draws_of_restart_or_ask : ℕ → ℕ → ℕ
draws_of_restart_or_ask seed n = if draw seed n % 8 == 0 then 1 else 68

-- the operation whose first draw has this number
unfoldable pub op_at : ℕ → ℕ → Op
op_at seed n =
    if nat_lt (draw seed n % 16) 6
    then Pass (10000 * (1 + draw seed (n + 1))) (small (draw seed (n + 2))) (small (draw seed (n + 3)))
    else (if nat_lt (draw seed n % 16) 9 then Poll (draw seed (n + 1) * 65536 + draw seed (n + 2))
    else (if nat_lt (draw seed n % 16) 14 then Deliver (draw seed (n + 1) % 8)
    else (if draw seed n % 16 == 14 then Craft (bytes_drawn seed (n + 1) 68)
    else restart_or_ask_at seed (n + 1))))

-- how many draws it makes
unfoldable pub draws_at : ℕ → ℕ → ℕ
draws_at seed n =
    if nat_lt (draw seed n % 16) 6 then 4
    else (if nat_lt (draw seed n % 16) 9 then 3
    else (if nat_lt (draw seed n % 16) 14 then 2
    else (if draw seed n % 16 == 14 then 69
    else 1 + draws_of_restart_or_ask seed (n + 1))))

-- so many operations, of which the first begins with this draw
abbrev pub ops_from : ℕ → ℕ → ℕ → List Op
ops_from seed n zero = []
ops_from seed n (suc count) = op_at seed n ∷ ops_from seed (n + draws_at seed n) count

-- the script of a seed, so many operations long
abbrev pub script_of : ℕ → ℕ → List Op
script_of seed count = ops_from seed 1 count
