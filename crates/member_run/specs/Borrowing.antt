-- The devices that a run has borrowed.
use Rattle.std.specs.Prelude.{◌≡◌}
use Rattle.member_run.specs.declared.devices.Devices.{Devices}

-- the same devices are borrowed still
abbrev pub SameBorrows : {L C D E O : Type 0} → Devices L C D E O → Devices L C D E O → Type 0
SameBorrows old new =
    (new.link.ghost_name ≡ old.link.ghost_name) × (new.clock.ghost_name ≡ old.clock.ghost_name)
    × (new.disk.ghost_name ≡ old.disk.ghost_name) × (new.entropy.ghost_name ≡ old.entropy.ghost_name)
    × (new.out.ghost_name ≡ old.out.ghost_name) × (new.capture.ghost_name ≡ old.capture.ghost_name)
