-- One more moment joins those that a disk in memory has had.
use Rattle.std.proofs.Common.{◌≡◌, ◌⊎◌, inl, inr, ⊎_elim, ℕ, zero, suc, ◌≤◌, List, [], ◌∷◌, ◌++◌, length, drop, sym, subst, refl, arith, length-append}
use Rattle.slot_disk.specs.declared.moment.Moment.{Moment}
use Rattle.slot_disk.specs.declared.memory.MemoryDisk.{MemoryDisk}
use Rattle.slot_disk.specs.Calls.{Elapses}
use Rattle.slot_disk.specs.Moments.{IsImage, HadImage}
use Rattle.slot_disk.specs.Memory.{tells_of, memory_tells}

keeps : (past : List Moment) (m : Moment) (c : List ℕ) → HadImage past c → HadImage (past ++ m ∷ []) c
keeps [] m c had = absurd had
keeps (p ∷ past) m c (inl here) = inl here
keeps (p ∷ past) m c (inr there) = inr (keeps past m c there)

adds : (past : List Moment) (m : Moment) (c : List ℕ) → HadImage (past ++ m ∷ []) c → HadImage past c ⊎ IsImage m c
adds [] m c (inl here) = inr here
adds [] m c (inr none) = absurd none
adds (p ∷ past) m c (inl here) = inl (inl here)
adds (p ∷ past) m c (inr there) = ⊎_elim (λ had. inl (inr had)) (λ new. inr new) (adds past m c there)

newest : (past : List Moment) (m : Moment) (c : List ℕ) → IsImage m c → HadImage (past ++ m ∷ []) c
newest [] m c is = inl is
newest (p ∷ past) m c is = inr (newest past m c is)

drop_push : (t : ℕ) (past : List Moment) (m : Moment) → t ≤ length past → drop t (past ++ m ∷ []) ≡ drop t past ++ m ∷ []
drop_push zero past m le = refl
drop_push (suc t) [] m le = absurd (omega arith)
drop_push (suc t) (p ∷ past) m le = drop_push t past m (omega arith)

swapped : {A B : Type 0} → A ⊎ B → B ⊎ A
swapped (inl a) = inr a
swapped (inr b) = inl b

elapses_kept : (past later : List Moment) (old new : Moment) → later ≡ past ++ old ∷ [] → Elapses (tells_of old past 0) (tells_of new later 0)
elapses_kept past later old new is = rw is (record {
  time = record { later = omega (arith, length-append past (old ∷ [])); once = omega (arith, length-append past (old ∷ [])); counted = λ room. omega (arith, length-append past (old ∷ [])) };
  tells = refl;
  nothing_else = λ t c le left. ⊎_elim (λ now. inr now) (λ had. inl (swapped (adds (drop t past) old c (subst (λ (l : List Moment). HadImage l c) (drop_push t past old (omega arith)) had)))) left;
  keeps = λ t c le left. inr (subst (λ (l : List Moment). HadImage l c) (sym (drop_push t past old (omega arith))) (⊎_elim (λ now. newest (drop t past) old c now) (keeps (drop t past) old c) left));
})

-- within the room, whatever became of the disk then
pub elapses_within : (old began : MemoryDisk) (m : Moment) → (old.beyond ≡ 0) × (began.beyond ≡ 0) × (began.past.items ≡ old.past.items ++ old.state ∷ []) → Elapses (memory_tells old) (tells_of m began.past.items began.beyond)
elapses_within old began m is = rw (is.0, is.1) (elapses_kept old.past.items began.past.items old.state m is.2)
