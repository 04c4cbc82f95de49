-- Devices that stay borrowed.
use Rattle.std.proofs.Common.{◌∙◌}
use Rattle.member_run.specs.Borrowing.{SameBorrows}
use Rattle.member_run.specs.declared.devices.Devices.{Devices}

-- the same devices are borrowed after two parts, where they are after each
pub borrows_then : {L C D E O : Type 0} (old mid new : Devices L C D E O) → SameBorrows old mid → SameBorrows mid new → SameBorrows old new
borrows_then old mid new first next =
    (next.0 ∙ first.0, next.1 ∙ first.1, next.2 ∙ first.2, next.3 ∙ first.3, next.4 ∙ first.4, next.5 ∙ first.5)
