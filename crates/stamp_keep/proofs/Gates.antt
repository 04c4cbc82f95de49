-- What is left where one gate is opened and another closed.
use Rattle.std.proofs.Common.{◌≡◌, ◌≢◌, inl, inr, ℕ, ◌+◌, List, [], ◌∷◌, slice_index, Option, Some, None, OnOk, Result, Ok, Err, sym, ◌∙◌, ap, refl, arith}
use Rattle.std.proofs.lemmas.Bool.{cases_lt}
use Rattle.edge_traits.specs.declared.sink.Put.{Put}
use Rattle.edge_traits.specs.declared.sink.Put.TheVariants.{Done}
use Rattle.slot_disk.specs.Told.{DiskTold, IsDisk}
use Rattle.slot_disk.specs.Calls.{Elapses, SameOutside, Holds, LeavesOnly, Syncs, TearsAtMost, Writes, Written}
use Rattle.stamp_keep.specs.Steps.{SameBut, HasTurned, TurnedContent}
use Rattle.stamp_keep.proofs.Moments.{goes_on, started}

-- one byte is left out
pub but_one : (at : ℕ) (old new : List ℕ) → SameOutside at 1 old new → (k : ℕ) → k ≢ at → slice_index new k ≡ slice_index old k
but_one at old new same k ne = elim (cases_lt k at) [ inl lt ↦ same.before k lt | inr le ↦ same.after k (omega arith) ]

one_same : (gate : ℕ) (other : Option ℕ) (old new : List ℕ) → SameOutside gate 1 old new → SameBut gate other old new
one_same gate other old new same = record { size = same.size; rest = λ k ne no. but_one gate old new same k ne }

both_same : (gate at : ℕ) (other : Option ℕ) (old mid new : List ℕ) → other ≡ Some at → SameOutside gate 1 old mid → SameOutside at 1 mid new → SameBut gate other old new
both_same gate at other old mid new is first second = record {
  size = second.size ∙ first.size;
  rest = λ k ne no. but_one at mid new second k (λ e. no (is ∙ ap Some (sym e))) ∙ but_one gate old mid first k ne;
}

pub one_turned : (gate : ℕ) (other : Option ℕ) (old new : DiskTold) → TearsAtMost gate 1 old new → (c : List ℕ) → new.may_leave c → HasTurned old gate other c
one_turned gate other old new tears c left =
    let from = tears.each c left in
    record { from = from.0; was = from.1; same = one_same gate other from.0 c from.2 }

pub both_turned : (gate at : ℕ) (other : Option ℕ) (old mid new : DiskTold) → other ≡ Some at → TearsAtMost gate 1 old mid → TearsAtMost at 1 mid new → (c : List ℕ) → new.may_leave c → HasTurned old gate other c
both_turned gate at other old mid new is first second c left =
    let half = second.each c left in
    let from = first.each half.0 half.1 in
    record { from = from.0; was = from.1; same = both_same gate at other from.0 half.0 c is from.2 half.2 }

pub first_byte : (at x : ℕ) (old new : List ℕ) → Holds at (x ∷ []) old new → slice_index new at ≡ x
first_byte at x old new holds = let e : at + 0 ≡ at = omega arith in rw e at (holds.here 0 (omega arith))

pub one_content : (gate : ℕ) (other : Option ℕ) (old new : Option (List ℕ)) → other ≡ None → Written gate (165 ∷ []) old new → TurnedContent gate other old new
one_content gate other (Some old) (Some new) none holds = record {
  same = one_same gate other old new holds.rest;
  opened = λ apart. first_byte gate 165 old new holds;
  shut = λ k is. absurd (let no : Some k ≡ None = sym is ∙ none in cc);
}
one_content gate other None None none holds = tt
one_content gate other (Some old) None none holds = holds
one_content gate other None (Some new) none holds = holds

pub both_content : (gate at : ℕ) (other : Option ℕ) (old mid new : Option (List ℕ)) → other ≡ Some at → Written gate (165 ∷ []) old mid → Written at (0 ∷ []) mid new → TurnedContent gate other old new
both_content gate at other (Some old) (Some mid) (Some new) is first second = record {
  same = both_same gate at other old mid new is first.rest second.rest;
  opened = λ apart. but_one at mid new second.rest gate (λ e. apart (is ∙ ap Some (sym e))) ∙ first_byte gate 165 old mid first;
  shut = λ k was. let same : Some at ≡ Some k = sym is ∙ was in let e : at ≡ k = cc in rw e at (first_byte at 0 mid new second);
}
both_content gate at other None None None is first second = tt
both_content gate at other (Some old) None new is first second = absurd first
both_content gate at other None (Some mid) new is first second = absurd first
both_content gate at other (Some old) (Some mid) None is first second = absurd second
both_content gate at other None None (Some new) is first second = absurd second

-- what was there before is turned too
pub unturned : (gate : ℕ) (other : Option ℕ) (disk : DiskTold) (c : List ℕ) → disk.may_leave c → HasTurned disk gate other c
unturned gate other disk c left = record { from = c; was = left; same = record { size = refl; rest = λ k ne no. refl } }

-- both gates are written
pub half_moments : (gate at : ℕ) (other : Option ℕ) (a b : Put) (old mid new : DiskTold) → IsDisk old → other ≡ Some at
    → Writes a gate (165 ∷ []) old mid → Elapses old mid → Writes b at (0 ∷ []) mid new → Elapses mid new
    → LeavesOnly old new (HasTurned old gate other)
half_moments gate at other a b old mid new disk is first went second goes =
    let start = started old (HasTurned old gate other) disk (unturned gate other old) in
    goes_on (goes_on start went (one_turned gate other old mid first.tears)) goes (both_turned gate at other old mid new is first.tears second.tears)

-- .. and synced
pub both_moments : (gate at : ℕ) (other : Option ℕ) (a b c : Put) (old mid new end : DiskTold) → IsDisk old → other ≡ Some at
    → Writes a gate (165 ∷ []) old mid → Elapses old mid → Writes b at (0 ∷ []) mid new → Elapses mid new → Syncs c new end → Elapses new end
    → LeavesOnly old end (HasTurned old gate other)
both_moments gate at other a b c old mid new end disk is first went second goes sync ends =
    goes_on (half_moments gate at other a b old mid new disk is first went second goes) ends
    (λ image left. both_turned gate at other old mid new is first.tears second.tears image (sync.no_other.was image left))

-- a crash while one gate is written and synced
pub one_moments : (gate : ℕ) (other : Option ℕ) (a b : Put) (old mid new : DiskTold) → IsDisk old
    → Writes a gate (165 ∷ []) old mid → Elapses old mid → Syncs b mid new → Elapses mid new → LeavesOnly old new (HasTurned old gate other)
one_moments gate other a b old mid new disk first went sync ends =
    let start = started old (HasTurned old gate other) disk (unturned gate other old) in
    let turned = one_turned gate other old mid first.tears in
    goes_on (goes_on start went turned) ends (λ image left. turned image (sync.no_other.was image left))

-- one gate is written and synced
pub one_turns : {T E : Type 0} (r : Result T E) (gate : ℕ) (other : Option ℕ) (a b : Put) (old mid new : DiskTold) → other ≡ None
    → a ≡ Done → Writes a gate (165 ∷ []) old mid → OnOk r (b ≡ Done) → Syncs b mid new → OnOk r (TurnedContent gate other old.content new.content)
one_turns (Ok x) gate other a b old mid new none wrote first done sync = rw (sync.content done) (one_content gate other old.content mid.content none (first.content wrote))
one_turns (Err e) gate other a b old mid new none wrote first done sync = tt

-- both are
pub both_turn : {T E : Type 0} (r : Result T E) (gate at : ℕ) (other : Option ℕ) (a b c : Put) (old mid new end : DiskTold) → other ≡ Some at
    → a ≡ Done → Writes a gate (165 ∷ []) old mid → b ≡ Done → Writes b at (0 ∷ []) mid new → OnOk r (c ≡ Done) → Syncs c new end
    → OnOk r (TurnedContent gate other old.content end.content)
both_turn (Ok x) gate at other a b c old mid new end is wrote first closed second done sync = rw (sync.content done) (both_content gate at other old.content mid.content new.content is (first.content wrote) (second.content closed))
both_turn (Err e) gate at other a b c old mid new end is wrote first closed second done sync = tt
