-- Which correction is allowed, and how the poll exponent moves. An offset is a number of ticks of 100 ns.
use Rattle.std.specs.Prelude.{◌≢◌, ℕ, ◌+◌, ◌*◌, ◌<◌, min, Bool, not, ◌&&◌, ◌==◌, nat_lt, nat_le, ℤ, pos, negsuc, unsigned_abs, if◌then◌else◌}
use Rattle.phase_rule.specs.declared.rule.Judged.{Judged}
use Rattle.phase_rule.specs.declared.rule.Judged.TheVariants.{Slew, Step, TooBig}
use Rattle.phase_rule.specs.declared.limits.Limits.{Limits}

-- so many seconds, in ticks
abbrev pub ticks_of_seconds : ℕ → ℕ
ticks_of_seconds seconds = seconds * 10000000

-- An amount is past a limit in seconds. The greatest setting means that there is no limit.
abbrev pub IsPast : ℕ → ℕ → Type 0
IsPast limit amount = (limit ≢ 4294967295) × (ticks_of_seconds limit < amount)

-- the limit of an offset's direction
abbrev pub limit_of : Limits → ℤ → ℕ
limit_of limits (pos n) = limits.max_pos
limit_of limits (negsuc n) = limits.max_neg

-- whether an amount is past a limit
abbrev pub is_past : ℕ → ℕ → Bool
is_past limit amount = not (limit == 4294967295) && nat_lt (ticks_of_seconds limit) amount

-- An offset past the limit of its direction is too big. Another is worked off slowly, up to the greatest
-- amount for which that is allowed, and set at once above it.
abbrev pub judged : Limits → ℤ → Judged
judged limits offset =
    if is_past (limit_of limits offset) (unsigned_abs offset) then TooBig
    else (if nat_le (unsigned_abs offset) (ticks_of_seconds limits.max_allowed) then Slew else Step)

-- After an offset of at most 100 ms the exponent rises by one, up to its greatest value. After a greater
-- one it is the least.
abbrev pub next_poll : Limits → ℕ → ℤ → ℕ
next_poll limits poll offset =
    if nat_le (unsigned_abs offset) 1000000 then min (poll + 1) limits.max_poll else limits.min_poll
