-- What a survey of an image finds.
use Rattle.std.specs.Prelude.{◌≡◌, ◌⊎◌, ℕ, ◌<◌, ◌≤◌, List, Bool, true, false}
use Rattle.stamp_keep.specs.Image.{HasClosedGate, HasOpenGate, mark_at}
use Rattle.stamp_keep.specs.Slots.{place}
use Rattle.stamp_keep.specs.declared.keeper.Keeper.{Keeper}
use Rattle.stamp_keep.specs.declared.slot.Slot.{Slot}
use Rattle.stamp_keep.specs.declared.survey.Held.{Held}

-- it holds what the image has at its slot
pub record Shows (image : List ℕ) (held : Held) : Type 0 where
  pub is_open : held.is_open ≡ true → HasOpenGate image (place held.slot)
  pub is_shut : held.is_open ≡ false → HasClosedGate image (place held.slot)
  pub mark : held.mark ≡ mark_at image (place held.slot)

-- it is open, and has no less a mark than the other, if that is open
pub record Beats (a b : Held) : Type 0 where
  pub is_open : a.is_open ≡ true
  pub no_less : b.is_open ≡ true → b.mark ≤ a.mark

-- Of two slots this is the target, and that the third one: the lower closed one, or else the one with the lesser
-- mark, of equals the higher.
abbrev pub ChoosesTarget : Held → Held → Slot → Slot → Bool → Type 0
ChoosesTarget lower higher target third third_open =
    ((lower.is_open ≡ false) × (target ≡ lower.slot) × (third ≡ higher.slot) × (third_open ≡ higher.is_open))
    ⊎ ((lower.is_open ≡ true) × ((higher.is_open ≡ false) ⊎ (higher.mark ≤ lower.mark))
    × (target ≡ higher.slot) × (third ≡ lower.slot) × (third_open ≡ true))
    ⊎ ((lower.is_open ≡ true) × (higher.is_open ≡ true) × (lower.mark < higher.mark)
    × (target ≡ lower.slot) × (third ≡ higher.slot) × (third_open ≡ true))

-- the keeper has the newest slot's mark, and of the other two it chose the target
pub record Arranged (best lower higher : Held) (k : Keeper) : Type 0 where
  pub newest : k.newest ≡ best.slot
  pub newest_open : k.newest_open ≡ best.is_open
  pub mark : best.is_open ≡ true → k.mark ≡ best.mark
  pub no_mark : best.is_open ≡ false → k.mark ≡ 0
  pub chooses : ChoosesTarget lower higher k.target k.third k.third_open
