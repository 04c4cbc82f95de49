-- What a service tells of itself.
use Rattle.std.specs.Prelude.{ℕ, List, Option, Some, None, codes, map, option_map, slice_get, unwrap_or}
use Rattle.partner_pick.specs.declared.entry.Entry.{Entry}
use Rattle.time_machine.specs.declared.conf.Conf.{Conf}
use Rattle.time_machine.specs.Events.{History}
use Rattle.time_machine.specs.Machine.{source_of}
use Rattle.w32t_calls.specs.Bits.{bits_of}
use Rattle.w32t_settings.specs.declared.settings.Settings.{Settings}

-- the bits that it answers, and the names of its partners in the order of their rank
pub record Profile : Type 0 where
  pub bits : ℕ
  pub names : List (List ℕ)

-- the name of the clock that no partner corrected
abbrev pub local_clock : List ℕ
local_clock = codes "Local CMOS Clock"

-- the name of the partner at this place, or of the clock that no partner corrected
abbrev pub name_of_source : List (List ℕ) → Option ℕ → List ℕ
name_of_source names None = local_clock
name_of_source names (Some place) = unwrap_or (slice_get names place) local_clock

-- the source of the time after a history: the partner whose reply was accepted last in this life
abbrev pub source_name : Conf → Profile → History → List ℕ
source_name conf profile history = name_of_source profile.names (source_of conf history)

-- the name of the computer at a place of a directory
abbrev pub name_at : List Entry → ℕ → List ℕ
name_at directory place = unwrap_or (option_map (λ (e : Entry). e.name) (slice_get directory place)) local_clock

-- what a service tells with these settings, of whose directory these are the places of the partners, in rank
abbrev pub profile_of : Settings → (ranked : List ℕ) → Profile
profile_of settings ranked =
    record { bits = bits_of settings.announce settings.role; names = map (name_at settings.directory) ranked }
