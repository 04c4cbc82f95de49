-- How a computer announces itself, by its flags and its role.
use Rattle.std.specs.Prelude.{ℕ, ◌+◌, Bool, true, false, ◌&&◌, ◌||◌, not, bit_and, ◌==◌, if◌then◌else◌}
use Rattle.partner_pick.specs.declared.entry.Role.{Role}
use Rattle.partner_pick.specs.declared.entry.Role.TheVariants.{Member, Controller, Pdc}

-- whether the flags have this one
abbrev pub has_flag : ℕ → ℕ → Bool
has_flag flag flags = not (bit_and flags flag == 0)

-- whether a computer of this role is a controller, and whether it is the one with the domain's clock
abbrev pub is_controller : Role → Bool
is_controller Member = false
is_controller Controller = true
is_controller Pdc = true

abbrev pub is_pdc : Role → Bool
is_pdc Member = false
is_pdc Controller = false
is_pdc Pdc = true

-- Whether the computer gives the time: always by flag 1, as a controller by flag 2.
abbrev pub gives_time : ℕ → Role → Bool
gives_time flags role = has_flag 1 flags || (has_flag 2 flags && is_controller role)

-- Whether its time is reliable: always by flag 4, as the domain's clock by flag 8.
abbrev pub is_reliable : ℕ → Role → Bool
is_reliable flags role = has_flag 4 flags || (has_flag 8 flags && is_pdc role)

-- the bits that it answers: 40 where it gives the time, and 200 where its time is reliable
unfoldable pub bits_of : ℕ → Role → ℕ
bits_of flags role =
    (if gives_time flags role then 0x40 else 0) + (if is_reliable flags role then 0x200 else 0)
