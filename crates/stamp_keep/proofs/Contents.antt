-- What a load and a reserve make of the content.
use Rattle.std.proofs.Common.{◌≡◌, ◌≢◌, inl, inr, ⊎_elim, ℕ, ◌+◌, ◌<◌, List, [], ◌∷◌, Bool, true, false, Option, Some, None, IfSome, sym, ◌∙◌, subst, refl, arith}
use Rattle.slot_disk.specs.Told.{DiskTold, IsDisk}
use Rattle.slot_disk.specs.Calls.{Holds, Written}
use Rattle.stamp_keep.specs.Image.{HasClosedGate, HasOpenGate}
use Rattle.stamp_keep.specs.Keep.{Fits}
use Rattle.stamp_keep.specs.Slots.{Apart, IsTarget, place}
use Rattle.stamp_keep.specs.Steps.{HasRead, IsOnlyImage, Turns, TurnedContent, body, closing}
use Rattle.stamp_keep.specs.Written.{IsReserved, LoadedContent, LoadedIn, MadeCalls, ReservedContent, ShutContent, ShutIn, gate_calls, reserve_calls}
use Rattle.stamp_keep.specs.declared.keeper.Keeper.{Keeper}
use Rattle.stamp_keep.specs.declared.slot.Slot.{Slot}
use Rattle.stamp_keep.proofs.Slots.{closes_no_other, closes_none, closes_third, far}

-- ---- A reserve

-- the bytes behind the target's gate are no other gate
behind_apart : (k : Keeper) (i : ℕ) → Apart k.newest k.target k.third → i < 7 → closing k ≢ Some (place k.target + 1 + i)
behind_apart k i apart lt = closes_no_other k (place k.target + 1 + i) (λ e. elim (far k.target k.third apart.third) [ inl le ↦ absurd (omega arith) | inr le ↦ absurd (omega arith) ])

not_closing : (k : Keeper) (at : ℕ) → (k.third_open ≡ true → at ≢ place k.third) → closing k ≢ Some at
unfolding closing
not_closing k at ne e = by_gate k.third_open refl
  where
    by_gate : (b : Bool) → k.third_open ≡ b → ⊥
    by_gate true is = let same : Some (place k.third) ≡ Some at = sym (closes_third k is) ∙ e in ne is (let there : place k.third ≡ at = cc in sym there)
    by_gate false is = let none : None ≡ Some at = rw is at e in cc

reserved : (k : Keeper) (mark : ℕ) (old mid new : List ℕ) → Apart k.newest k.target k.third → Holds (place k.target + 1) (body mark) old mid → Turns (place k.target) (closing k) mid new → IsReserved k mark old new
reserved k mark old mid new apart holds turns = record {
  size = turns.same.size ∙ holds.rest.size;
  gate = turns.opened (closes_no_other k (place k.target) apart.third);
  behind = λ i lt. turns.same.rest (place k.target + 1 + i) (λ e. absurd (omega arith)) (behind_apart k i apart lt) ∙ holds.here i lt;
  shut = λ is. turns.shut (place k.third) (closes_third k is);
  rest = λ at out ne. turns.same.rest at (λ e. ⊎_elim (λ lt. absurd (omega arith)) (λ le. absurd (omega arith)) out) (not_closing k at ne) ∙ ⊎_elim (λ lt. holds.rest.before at (omega arith)) (λ le. holds.rest.after at (omega arith)) out;
}

-- the slots of a keeper that fits are three
pub fits_apart : (k : Keeper) (disk : DiskTold) → IsDisk disk → Fits disk k → (c : List ℕ) → disk.content ≡ Some c → Apart k.newest k.target k.third
fits_apart k disk is fits c at = (fits.settled c (is.reads_as c at)).remembers.apart

pub reserved_content : (k : Keeper) (mark : ℕ) (old mid new : Option (List ℕ)) → ((c : List ℕ) → old ≡ Some c → Apart k.newest k.target k.third) → Written (place k.target + 1) (body mark) old mid → TurnedContent (place k.target) (closing k) mid new → ReservedContent k mark old new
reserved_content k mark (Some old) (Some mid) (Some new) apart holds turns = reserved k mark old mid new (apart old refl) holds turns
reserved_content k mark None None None apart holds turns = tt
reserved_content k mark (Some old) None new apart holds turns = absurd holds
reserved_content k mark None (Some mid) new apart holds turns = absurd holds
reserved_content k mark (Some old) (Some mid) None apart holds turns = absurd turns
reserved_content k mark None None (Some new) apart holds turns = absurd turns

-- ---- A load

pub shut_content : (s : Slot) (image : List ℕ) (old new : Option (List ℕ)) → ((c : List ℕ) → old ≡ Some c → c ≡ image) → HasOpenGate image (place s) → Written (place s) (0 ∷ []) old new → ShutContent s old new
shut_content s image (Some old) (Some new) same is_open holds = record {
  closed = λ e. holds;
  left = λ shut. absurd (shut (subst (λ d. HasOpenGate d (place s)) (sym (same old refl)) is_open));
}
shut_content s image None None same is_open holds = tt
shut_content s image (Some old) None same is_open holds = absurd holds
shut_content s image None (Some new) same is_open holds = absurd holds

pub left_content : (s : Slot) (image : List ℕ) (old : Option (List ℕ)) → ((c : List ℕ) → old ≡ Some c → c ≡ image) → HasClosedGate image (place s) → ShutContent s old old
left_content s image (Some old) same shut = record {
  closed = λ e. absurd (shut (subst (λ d. HasOpenGate d (place s)) (same old refl) e));
  left = λ e. refl;
}
left_content s image None same shut = tt

loaded : (k : Keeper) (image : List ℕ) (old new : Option (List ℕ)) → IfSome old (λ c. image ≡ c) → IsTarget image k.target → ShutContent k.target old new → LoadedContent k old new
loaded k image (Some old) (Some new) same target shut = record { target = subst (λ d. IsTarget d k.target) same target; shut = shut }
loaded k image None None same target shut = tt
loaded k image (Some old) None same target shut = absurd shut
loaded k image None (Some new) same target shut = absurd shut

pub loaded_content : (k : Keeper) (image : List ℕ) (old mid new : Option (List ℕ)) → mid ≡ old → IfSome old (λ c. image ≡ c) → IsTarget image k.target → ShutContent k.target mid new → LoadedContent k old new
loaded_content k image old mid new is same target shut = loaded k image old new same target (subst (λ c. ShutContent k.target c new) is shut)

-- what the disk reads as is its one image
pub reads_image : (image : List ℕ) (disk : DiskTold) → IsDisk disk → IsOnlyImage image disk → (c : List ℕ) → disk.content ≡ Some c → c ≡ image
reads_image image disk is only c at = only.only c (is.reads_as c at)

-- ---- Calls

closing_calls : (k : Keeper) → 2 + gate_calls (closing k) ≡ reserve_calls k
closing_calls k = by_gate k.third_open refl
  where
    by_gate : (b : Bool) → k.third_open ≡ b → 2 + gate_calls (closing k) ≡ reserve_calls k
    by_gate true is = rw (closes_third k is, is) refl
    by_gate false is = rw (closes_none k is, is) refl

pub reserve_made : (k : Keeper) (old mid new : DiskTold) → MadeCalls 2 old mid → MadeCalls (gate_calls (closing k)) mid new → MadeCalls (reserve_calls k) old new
reserve_made k old mid new first second room =
    let calls = closing_calls k in
    let one = first (omega (arith, room, calls)) in
    omega (arith, one, calls, second (omega (arith, room, one, calls)))

by_content : (P : List ℕ → Type 0) (content : Option (List ℕ)) (image : List ℕ) → IfSome content (λ c. image ≡ c) → P image → IfSome content P
by_content P (Some c) image same p = subst P same p
by_content P None image same p = tt

pub load_made : (k : Keeper) (image : List ℕ) (old mid new : DiskTold) → HasRead image old mid → ShutIn k.target image mid new → LoadedIn k old new
load_made k image old mid new read shut = record {
  left = by_content (λ c. HasClosedGate c (place k.target) → MadeCalls 2 old new) old.content image read.bytes left;
  closed = by_content (λ c. HasOpenGate c (place k.target) → MadeCalls 4 old new) old.content image read.bytes closed;
}
  where
    left : HasClosedGate image (place k.target) → MadeCalls 2 old new
    left is room = let two = read.calls (omega (arith, room)) in omega (arith, two, shut.left is (omega (arith, two, room)))

    closed : HasOpenGate image (place k.target) → MadeCalls 4 old new
    closed is room = let two = read.calls (omega (arith, room)) in omega (arith, two, shut.closed is (omega (arith, two, room)))
