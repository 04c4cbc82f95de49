-- What a keeper remembers of an image stays where the gate of its open target is torn.
use Rattle.std.proofs.Common.{◌≡◌, ◌≢◌, inl, inr, ⊎_elim, ℕ, ◌+◌, ◌<◌, ◌≤◌, List, slice_index, sym, ◌∙◌, arith}
use Rattle.std.proofs.lemmas.Bool.{cases_eq}
use Rattle.slot_disk.specs.Calls.{SameOutside}
use Rattle.stamp_keep.specs.Image.{HasOpenGate, mark_at}
use Rattle.stamp_keep.specs.Slots.{place, IsOurs, Remembers}
use Rattle.stamp_keep.specs.declared.slot.Slot.{Slot}
use Rattle.stamp_keep.specs.declared.keeper.Keeper.{Keeper}
use Rattle.stamp_keep.proofs.Slots.{OpensFewer, far, remembers_on, same_mark}
use Rattle.stamp_keep.proofs.Gates.{but_one}

-- the gates of the newest and the third, and all marks, stay where the target's gate is torn
module _ (k : Keeper) (old new : List ℕ) (was : Remembers k old) (same : SameOutside (place k.target) 1 old new) where
  kept : (s : Slot) → place s ≢ place k.target → (j : ℕ) → place s ≤ j → j < place s + 8 → slice_index new j ≡ slice_index old j
  kept s ne j low high = but_one (place k.target) old new same j (λ e. elim (far s k.target ne) [ inl le ↦ absurd (omega arith) | inr le ↦ absurd (omega arith) ])

  gate_kept : (s : Slot) → place s ≢ place k.target → slice_index new (place s) ≡ slice_index old (place s)
  gate_kept s ne = kept s ne (place s) (omega arith) (omega arith)

  mark_kept : (s : Slot) → mark_at new (place s) ≡ mark_at old (place s)
  mark_kept s = same_mark old new (place s) (λ j low high. but_one (place k.target) old new same j (apart_from s j low high))
    where
      apart_from : (s : Slot) (j : ℕ) → place s + 1 ≤ j → j < place s + 8 → j ≢ place k.target
      apart_from s j low high e = ⊎_elim (λ at. absurd (omega (arith, at))) (λ ne. elim (far s k.target ne) [ inl le ↦ absurd (omega arith) | inr le ↦ absurd (omega arith) ]) (cases_eq (place s) (place k.target))

  fewer : HasOpenGate old (place k.target) → OpensFewer old new
  fewer is_open = record { each = λ t e. (⊎_elim (λ at. rw at is_open) (λ ne. sym (gate_kept t ne) ∙ e) (cases_eq (place t) (place k.target)), mark_kept t) }

  pub torn_remembers : HasOpenGate old (place k.target) → Remembers k new
  torn_remembers is_open = remembers_on k old new was (fewer is_open) (gate_kept k.newest was.apart.first) (gate_kept k.third (λ e. was.apart.third (sym e)))

  pub torn_ours : IsOurs k old → IsOurs k new
  torn_ours ours is = kept k.newest was.apart.first (place k.newest + 1) (omega arith) (omega arith) ∙ ours is
