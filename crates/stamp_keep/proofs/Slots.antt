-- What the three slots stand for, and what a torn write leaves of that.
use Rattle.std.proofs.Common.{◌≡◌, ◌≢◌, ◌⊎◌, inl, inr, ⊎_elim, ℕ, suc, ◌+◌, ◌^◌, ◌<◌, ◌≤◌, max, List, slice_index, Bool, true, false, Some, None, sym, ◌∙◌, subst, refl, arith}
use Rattle.std.proofs.lemmas.Bool.{cases_eq, cases_lt}
use Rattle.std.proofs.lemmas.Bool.Decides.{nat_tests}
use Rattle.byteorder.specs.Endian.{big_bytes}
use Rattle.slot_disk.specs.Calls.{SameOutside}
use Rattle.stamp_keep.specs.Image.{HasOpenGate, HasClosedGate, mark_at, open_mark, mark_of_image}
use Rattle.stamp_keep.specs.Slots.{place, Apart, EachSlot, IsNewest, IsOurs, IsUnused, NoneOpen, Remembers, SameUnused, Settles}
use Rattle.stamp_keep.specs.Steps.{SameBut, Turns, body, closing, next}
use Rattle.stamp_keep.specs.Keep.{IsLoadable, StandsForEither}
use Rattle.stamp_keep.specs.declared.slot.Slot.{Slot}
use Rattle.stamp_keep.specs.declared.slot.Slot.TheVariants.{Lowest, Middle, Highest}
use Rattle.stamp_keep.specs.declared.keeper.Keeper.{Keeper}
use Rattle.stamp_keep.proofs.Numbers.{big_from-same, big_from-written}

-- two slots have room between them
pub far : (a b : Slot) → place a ≢ place b → (place a + 64 ≤ place b) ⊎ (place b + 64 ≤ place a)
far Lowest Lowest ne = absurd (ne refl)
far Lowest Middle ne = inl (omega arith)
far Lowest Highest ne = inl (omega arith)
far Middle Lowest ne = inr (omega arith)
far Middle Middle ne = absurd (ne refl)
far Middle Highest ne = inl (omega arith)
far Highest Lowest ne = inr (omega arith)
far Highest Middle ne = inr (omega arith)
far Highest Highest ne = absurd (ne refl)

pub place_max : (a : Slot) → place a ≤ 128
place_max Lowest = omega arith
place_max Middle = omega arith
place_max Highest = omega arith

-- in whatever order the three are named
pub greatest : (image : List ℕ) (a b c : Slot) → Apart a b c → mark_of_image image ≡ max (open_mark image (place a)) (max (open_mark image (place b)) (open_mark image (place c)))
unfolding mark_of_image
greatest image Lowest Middle Highest apart = refl
greatest image Lowest Highest Middle apart = omega arith
greatest image Middle Lowest Highest apart = omega arith
greatest image Middle Highest Lowest apart = omega arith
greatest image Highest Lowest Middle apart = omega arith
greatest image Highest Middle Lowest apart = omega arith
greatest image Lowest Lowest c apart = absurd (apart.first refl)
greatest image Middle Middle c apart = absurd (apart.first refl)
greatest image Highest Highest c apart = absurd (apart.first refl)
greatest image Lowest b Lowest apart = absurd (apart.second refl)
greatest image Middle b Middle apart = absurd (apart.second refl)
greatest image Highest b Highest apart = absurd (apart.second refl)
greatest image a Lowest Lowest apart = absurd (apart.third refl)
greatest image a Middle Middle apart = absurd (apart.third refl)
greatest image a Highest Highest apart = absurd (apart.third refl)

pub open_counts : (image : List ℕ) (at : ℕ) → HasOpenGate image at → open_mark image at ≡ mark_at image at
unfolding open_mark
open_counts image at is = rw is refl

pub closed_counts : (image : List ℕ) (at : ℕ) → HasClosedGate image at → open_mark image at ≡ 0
unfolding open_mark
closed_counts image at shut = grind (arith, nat_tests)

-- whatever its gate, a slot counts no more than the mark it holds
pub counts_most : (image : List ℕ) (at : ℕ) → (open_mark image at ≡ 0) ⊎ (open_mark image at ≡ mark_at image at)
counts_most image at = ⊎_elim (λ is. inr (open_counts image at is)) (λ shut. inl (closed_counts image at shut)) (cases_eq (slice_index image at) 165)

-- the mark is the four bytes
pub same_mark : (old new : List ℕ) (at : ℕ) → ((k : ℕ) → at + 1 ≤ k → k < at + 8 → slice_index new k ≡ slice_index old k) → mark_at new at ≡ mark_at old at
unfolding mark_at
same_mark old new at same = big_from-same (at + 4) (at + 4) 4 new old (λ k lt. same (at + 4 + k) (omega arith) (omega arith))

pub each_slot : (P : Slot → Type 0) → ((t : Slot) → P t) → EachSlot P
each_slot P all = (all Lowest, all Middle, all Highest)

pub at_slot : (P : Slot → Type 0) → EachSlot P → (t : Slot) → P t
at_slot P all Lowest = all.0
at_slot P all Middle = all.1
at_slot P all Highest = all.2

-- three slots, none twice, are all
pub each_apart : (P : Slot → Type 0) (a b c : Slot) → Apart a b c → P a → P b → P c → EachSlot P
each_apart P Lowest Middle Highest apart x y z = (x, y, z)
each_apart P Lowest Highest Middle apart x y z = (x, z, y)
each_apart P Middle Lowest Highest apart x y z = (y, x, z)
each_apart P Middle Highest Lowest apart x y z = (z, x, y)
each_apart P Highest Lowest Middle apart x y z = (y, z, x)
each_apart P Highest Middle Lowest apart x y z = (z, y, x)
each_apart P Lowest Lowest c apart x y z = absurd (apart.first refl)
each_apart P Middle Middle c apart x y z = absurd (apart.first refl)
each_apart P Highest Highest c apart x y z = absurd (apart.first refl)
each_apart P Lowest b Lowest apart x y z = absurd (apart.second refl)
each_apart P Middle b Middle apart x y z = absurd (apart.second refl)
each_apart P Highest b Highest apart x y z = absurd (apart.second refl)
each_apart P a Lowest Lowest apart x y z = absurd (apart.third refl)
each_apart P a Middle Middle apart x y z = absurd (apart.third refl)
each_apart P a Highest Highest apart x y z = absurd (apart.third refl)

which : (a b c : Slot) → Apart a b c → (t : Slot) → (t ≡ a) ⊎ (t ≡ b) ⊎ (t ≡ c)
which a b c apart t = at_slot (λ t. (t ≡ a) ⊎ (t ≡ b) ⊎ (t ≡ c)) (each_apart (λ t. (t ≡ a) ⊎ (t ≡ b) ⊎ (t ≡ c)) a b c apart (inl refl) (inr (inl refl)) (inr (inr refl))) t

most_at : (image : List ℕ) (s : Slot) → IsNewest image s → (t : Slot) → HasOpenGate image (place t) → mark_at image (place t) ≤ mark_at image (place s)
most_at image s is t = at_slot (λ t. HasOpenGate image (place t) → mark_at image (place t) ≤ mark_at image (place s)) is.most t

lowest_at : (image : List ℕ) (s : Slot) → IsNewest image s → (t : Slot) → place t < place s → HasOpenGate image (place t) → mark_at image (place t) < mark_at image (place s)
lowest_at image s is t = at_slot (λ t. place t < place s → HasOpenGate image (place t) → mark_at image (place t) < mark_at image (place s)) is.lowest t

closed_at : (image : List ℕ) → NoneOpen image → (t : Slot) → HasClosedGate image (place t)
closed_at image none t = at_slot (λ t. HasClosedGate image (place t)) none t

-- each slot that is open was open, with the same mark
pub record OpensFewer (old new : List ℕ) : Type 0 where
  pub each : (t : Slot) → HasOpenGate new (place t) → HasOpenGate old (place t) × (mark_at new (place t) ≡ mark_at old (place t))

newest_on : (old new : List ℕ) (s : Slot) → IsNewest old s → OpensFewer old new → HasOpenGate new (place s) → IsNewest new s
newest_on old new s is fewer still = record {
  is_open = still;
  most = each_slot (λ t. HasOpenGate new (place t) → mark_at new (place t) ≤ mark_at new (place s)) (λ t e. omega (arith, (fewer.each t e).1, (fewer.each s still).1, most_at old s is t (fewer.each t e).0));
  lowest = each_slot (λ t. place t < place s → HasOpenGate new (place t) → mark_at new (place t) < mark_at new (place s)) (λ t lt e. omega (arith, (fewer.each t e).1, (fewer.each s still).1, lowest_at old s is t lt (fewer.each t e).0));
}

-- what a keeper remembers of an image it remembers of one where no other slot is open
pub remembers_on : (k : Keeper) (old new : List ℕ) → Remembers k old → OpensFewer old new
    → slice_index new (place k.newest) ≡ slice_index old (place k.newest) → slice_index new (place k.third) ≡ slice_index old (place k.third)
    → Remembers k new
remembers_on k old new was fewer gate_n gate_h = record {
  apart = was.apart;
  newest = λ is. newest_on old new k.newest (was.newest is) fewer (gate_n ∙ (was.newest is).is_open);
  mark = λ is. (fewer.each k.newest (gate_n ∙ (was.newest is).is_open)).1 ∙ was.mark is;
  none = λ is. each_slot (λ t. HasClosedGate new (place t)) (λ t e. closed_at old (was.none is) t (fewer.each t e).0);
  no_mark = was.no_mark;
  third = λ is. gate_h ∙ was.third is;
  third_shut = λ is e. was.third_shut is (sym gate_h ∙ e);
}

-- no slot counts more than the keeper's mark
pub no_more : (k : Keeper) (image : List ℕ) → Remembers k image → (t : Slot) → open_mark image (place t) ≤ k.mark
no_more k image is t = by_gate k.newest_open refl
  where
    by_gate : (b : Bool) → k.newest_open ≡ b → open_mark image (place t) ≤ k.mark
    by_gate true e = ⊎_elim (λ at. omega (arith, open_counts image _ at, most_at image k.newest (is.newest e) t at, is.mark e)) (λ shut. omega (arith, closed_counts image _ shut)) (cases_eq (slice_index image (place t)) 165)
    by_gate false e = omega (arith, closed_counts image _ (closed_at image (is.none e) t))

-- what the keeper remembers stands for its mark
pub remembers_stands : (k : Keeper) (image : List ℕ) → Remembers k image → mark_of_image image ≡ k.mark
remembers_stands k image is = omega (arith, greatest image k.newest k.target k.third is.apart, newest_is k.newest_open refl, no_more k image is k.target, no_more k image is k.third)
  where
    newest_is : (b : Bool) → k.newest_open ≡ b → open_mark image (place k.newest) ≡ k.mark
    newest_is true e = open_counts image _ (is.newest e).is_open ∙ is.mark e
    newest_is false e = closed_counts image _ (closed_at image (is.none e) k.newest) ∙ sym (is.no_mark e)

same_newest : (image : List ℕ) (a b : Slot) → IsNewest image a → IsNewest image b → place a ≡ place b
same_newest image a b is_a is_b = elim (cases_lt (place a) (place b)) [
  | inl lt ↦ absurd (omega (arith, lowest_at image b is_b a lt is_a.is_open, most_at image a is_a b is_b.is_open))
  | inr le ↦ elim (cases_lt (place b) (place a)) [
    | inl lt ↦ absurd (omega (arith, lowest_at image a is_a b lt is_b.is_open, most_at image b is_b a is_a.is_open))
    | inr ge ↦ omega arith
  ]
]

-- an image whose newest slot has version 1 can be loaded
pub ours_loads : (k : Keeper) (image : List ℕ) → Remembers k image → IsOurs k image → IsLoadable image
ours_loads k image is ours other = by_gate k.newest_open refl
  where
    by_gate : (b : Bool) → k.newest_open ≡ b → ⊥
    by_gate true e = other.2 (rw (same_newest image other.0 k.newest other.1 (is.newest e)) (ours e))
    by_gate false e = closed_at image (is.none e) other.0 other.1.is_open

-- what is written behind one slot's gate leaves the other slots
kept_behind : (a b : Slot) (old new : List ℕ) → place a ≢ place b → SameOutside (place b + 1) 7 old new → (k : ℕ) → place a ≤ k → k < place a + 8 → slice_index new k ≡ slice_index old k
kept_behind a b old new ne same k low high = elim (far a b ne) [ inl le ↦ same.before k (omega arith) | inr le ↦ same.after k (omega arith) ]

-- a torn write behind the target's gate leaves what the keeper knows
pub staged : (k : Keeper) (old new : List ℕ) → Settles k old → SameOutside (place k.target + 1) 7 old new → Settles k new
staged k old new was same = record {
  remembers = remembers_on k old new was.remembers fewer (kept k.newest other_n (place k.newest) (omega arith) (omega arith)) (kept k.third other_h (place k.third) (omega arith) (omega arith));
  version = λ is. kept k.newest other_n (place k.newest + 1) (omega arith) (omega arith) ∙ was.version is;
  target = λ e. was.target (sym gate_t ∙ e);
}
  where
    other_n : place k.newest ≢ place k.target
    other_n = was.remembers.apart.first

    other_h : place k.third ≢ place k.target
    other_h e = was.remembers.apart.third (sym e)

    kept : (t : Slot) → place t ≢ place k.target → (j : ℕ) → place t ≤ j → j < place t + 8 → slice_index new j ≡ slice_index old j
    kept t ne = kept_behind t k.target old new ne same

    gate_t : slice_index new (place k.target) ≡ slice_index old (place k.target)
    gate_t = same.before (place k.target) (omega arith)

    fewer : OpensFewer old new
    fewer = record {
      each = λ t e. ⊎_elim
          (λ at. absurd (was.target (sym gate_t ∙ (rw at at e))))
          (λ ne. (sym (kept t ne (place t) (omega arith) (omega arith)) ∙ e, same_mark old new (place t) (λ j low high. kept t ne j (omega arith) high)))
          (cases_eq (place t) (place k.target));
    }

-- the seven bytes hold the mark
pub body_holds : (mark at : ℕ) (new : List ℕ) → mark < 2 ^ 32 → ((j : ℕ) → j < 7 → slice_index new (at + 1 + j) ≡ slice_index (body mark) j) → mark_at new at ≡ mark
unfolding mark_at
body_holds mark at new fits here = big_from-written (at + 4) mark new fits after
  where
    after : (k : ℕ) → k < 4 → slice_index new (at + 4 + k) ≡ slice_index (big_bytes 4 mark) k
    after k lt = let e : at + 1 + suc (suc (suc k)) ≡ at + 4 + k = omega arith in rw e at (here (suc (suc (suc k))) (omega arith))

outside_slot : (at : ℕ) (s : Slot) → IsUnused at → at ≢ place s
outside_slot at s free e = ⊎_elim (λ lt. absurd (omega arith)) (λ le. absurd (omega arith)) (at_slot (λ s. (at < place s) ⊎ (place s + 8 ≤ at)) free s)

-- a byte of no slot stays where a slot is written behind its gate
pub behind_unused : (s : Slot) (old new : List ℕ) → SameOutside (place s + 1) 7 old new → SameUnused old new
behind_unused s old new same = record { same = λ at free. ⊎_elim (λ lt. same.before at (omega arith)) (λ le. same.after at (omega arith)) (at_slot (λ s. (at < place s) ⊎ (place s + 8 ≤ at)) free s) }

-- .. or at its gate
pub gate_unused : (s : Slot) (old new : List ℕ) → SameOutside (place s) 1 old new → SameUnused old new
gate_unused s old new same = record { same = λ at free. ⊎_elim (λ lt. same.before at lt) (λ le. same.after at (omega arith)) (at_slot (λ s. (at < place s) ⊎ (place s + 8 ≤ at)) free s) }

pub closes_third : (k : Keeper) → k.third_open ≡ true → closing k ≡ Some (place k.third)
unfolding closing
closes_third k is = rw is refl

pub closes_none : (k : Keeper) → k.third_open ≡ false → closing k ≡ None
unfolding closing
closes_none k is = rw is refl

pub closes_no_other : (k : Keeper) (j : ℕ) → j ≢ place k.third → closing k ≢ Some j
closes_no_other k j ne = by_gate k.third_open refl
  where
    by_gate : (b : Bool) → k.third_open ≡ b → closing k ≢ Some j
    by_gate true is e = let same : Some (place k.third) ≡ Some j = sym (closes_third k is) ∙ e in ne (let at : place k.third ≡ j = cc in sym at)
    by_gate false is e = let none : None ≡ Some j = sym (closes_none k is) ∙ e in cc

-- the gates at the target and, if it is open, the third are all that has changed
module _ (k : Keeper) (old new : List ℕ) (was : Settles k old) (same : SameBut (place k.target) (closing k) old new) where
  newest_kept : (j : ℕ) → place k.newest ≤ j → j < place k.newest + 8 → slice_index new j ≡ slice_index old j
  newest_kept j low high =
      let apart_t : j ≢ place k.target = λ e. elim (far k.newest k.target was.remembers.apart.first) [ inl le ↦ absurd (omega arith) | inr le ↦ absurd (omega arith) ] in
      let apart_h : j ≢ place k.third = λ e. elim (far k.newest k.third was.remembers.apart.second) [ inl le ↦ absurd (omega arith) | inr le ↦ absurd (omega arith) ] in
      same.rest j apart_t (closes_no_other k j apart_h)

  target_mark : mark_at new (place k.target) ≡ mark_at old (place k.target)
  target_mark = same_mark old new (place k.target) (λ j low high.
      let apart_t : j ≢ place k.target = λ e. absurd (omega arith) in
      let apart_h : j ≢ place k.third = λ e. elim (far k.target k.third was.remembers.apart.third) [ inl le ↦ absurd (omega arith) | inr le ↦ absurd (omega arith) ] in
      same.rest j apart_t (closes_no_other k j apart_h))

  target_version : slice_index new (place k.target + 1) ≡ slice_index old (place k.target + 1)
  target_version = same.rest (place k.target + 1) (λ e. absurd (omega arith)) (closes_no_other k (place k.target + 1) (λ e. elim (far k.target k.third was.remembers.apart.third) [ inl le ↦ absurd (omega arith) | inr le ↦ absurd (omega arith) ]))

  third_same_mark : mark_at new (place k.third) ≡ mark_at old (place k.third)
  third_same_mark = same_mark old new (place k.third) (λ j low high.
      let apart_t : j ≢ place k.target = λ e. elim (far k.target k.third was.remembers.apart.third) [ inl le ↦ absurd (omega arith) | inr le ↦ absurd (omega arith) ] in
      let apart_h : j ≢ place k.third = λ e. absurd (omega arith) in
      same.rest j apart_t (closes_no_other k j apart_h))

  third_shut_kept : k.third_open ≡ false → slice_index new (place k.third) ≡ slice_index old (place k.third)
  third_shut_kept is = same.rest (place k.third) (λ e. was.remembers.apart.third (sym e)) (λ e. let none : None ≡ Some (place k.third) = sym (closes_none k is) ∙ e in cc)

  newest_same_mark : mark_at new (place k.newest) ≡ mark_at old (place k.newest)
  newest_same_mark = same_mark old new (place k.newest) (λ j low high. newest_kept j (omega arith) high)

  newest_gate : slice_index new (place k.newest) ≡ slice_index old (place k.newest)
  newest_gate = newest_kept (place k.newest) (omega arith) (omega arith)

  newest_still : open_mark new (place k.newest) ≡ k.mark
  newest_still = by_gate k.newest_open refl
    where
      by_gate : (b : Bool) → k.newest_open ≡ b → open_mark new (place k.newest) ≡ k.mark
      by_gate true open_now = open_counts new _ (newest_gate ∙ (was.remembers.newest open_now).is_open) ∙ newest_same_mark ∙ was.remembers.mark open_now
      by_gate false shut_now = closed_counts new _ (λ e. closed_at old (was.remembers.none shut_now) k.newest (sym newest_gate ∙ e)) ∙ sym (was.remembers.no_mark shut_now)

  third_no_more : open_mark new (place k.third) ≤ k.mark
  third_no_more = by_gate k.third_open refl
    where
      by_gate : (b : Bool) → k.third_open ≡ b → open_mark new (place k.third) ≤ k.mark
      by_gate true open_now = ⊎_elim (λ e. omega (arith, e)) (λ e. omega (arith, e, third_same_mark, open_counts old _ (was.remembers.third open_now), no_more k old was.remembers k.third)) (counts_most new (place k.third))
      by_gate false shut_now = omega (arith, closed_counts new (place k.third) (λ e. was.remembers.third_shut shut_now (sym (third_shut_kept shut_now) ∙ e)))

  -- torn, they leave the old mark or the new one
  pub either : (mark : ℕ) → k.mark < mark → mark_at old (place k.target) ≡ mark → StandsForEither k.mark mark new
  either mark le holds =
      let third = third_no_more in
      let newest = newest_still in
      let is = greatest new k.newest k.target k.third was.remembers.apart in
      ⊎_elim
      (λ shut. inl (omega (arith, is, newest, shut, third)))
      (λ is_open. inr (omega (arith, is, newest, is_open, target_mark, holds, third, le)))
      (counts_most new (place k.target))

  -- .. and an image that can be loaded
  pub torn_loads : slice_index old (place k.target + 1) ≡ 1 → IsLoadable new
  torn_loads version other = ⊎_elim of_newest (λ rest. ⊎_elim of_target of_third rest) (which k.newest k.target k.third was.remembers.apart other.0)
    where
      of_newest : other.0 ≡ k.newest → ⊥
      of_newest is = by_gate k.newest_open refl
        where
          by_gate : (b : Bool) → k.newest_open ≡ b → ⊥
          by_gate true e = other.2 (rw is (newest_kept (place k.newest + 1) (omega arith) (omega arith) ∙ was.version e))
          by_gate false e = closed_at old (was.remembers.none e) k.newest (sym newest_gate ∙ (subst (λ s. HasOpenGate new (place s)) is other.1.is_open))

      of_target : other.0 ≡ k.target → ⊥
      of_target is = other.2 (rw is (target_version ∙ version))

      of_third : other.0 ≡ k.third → ⊥
      of_third is = by_gate k.third_open refl k.newest_open refl
        where
          newest : IsNewest new k.third
          newest = subst (λ s. IsNewest new s) is other.1

          by_gate : (b : Bool) → k.third_open ≡ b → (n : Bool) → k.newest_open ≡ n → ⊥
          by_gate false shut n e = was.remembers.third_shut shut (sym (third_shut_kept shut) ∙ newest.is_open)
          by_gate true open_now false e = closed_at old (was.remembers.none e) k.third (was.remembers.third open_now)
          by_gate true open_now true e =
              let is_newest = was.remembers.newest e in
              let still = newest_gate ∙ is_newest.is_open in
              elim (cases_lt (place k.newest) (place k.third)) [
                | inl lt ↦ absurd (omega (arith, lowest_at new k.third newest k.newest lt still, most_at old k.newest is_newest k.third (was.remembers.third open_now), newest_same_mark, third_same_mark))
                | inr le ↦ elim (cases_lt (place k.third) (place k.newest)) [
                  | inl lt ↦ absurd (omega (arith, most_at new k.third newest k.newest still, lowest_at old k.newest is_newest k.third lt (was.remembers.third open_now), newest_same_mark, third_same_mark))
                  | inr ge ↦ was.remembers.apart.second (omega arith)
                ]
              ]

  -- .. with the unused bytes of the old one
  pub turned_unused : SameUnused old new
  turned_unused = record { same = λ at free. same.rest at (outside_slot at k.target free) (closes_no_other k at (outside_slot at k.third free)) }

  -- done, they are as the next keeper remembers them
  pub settled_next : (mark : ℕ) → k.mark < mark → slice_index old (place k.target + 1) ≡ 1 → mark_at old (place k.target) ≡ mark → Turns (place k.target) (closing k) old new → Settles (next k mark) new
  settled_next mark lt version holds turns = record {
    remembers = record {
      apart = record { first = was.remembers.apart.third; second = λ e. was.remembers.apart.first (sym e); third = λ e. was.remembers.apart.second (sym e) };
      newest = λ is. record {
        is_open = target_open;
        most = each_apart (λ t. HasOpenGate new (place t) → mark_at new (place t) ≤ mark_at new (place k.target)) _ _ _ was.remembers.apart (λ e. omega (arith, less e)) (λ e. omega arith) (λ e. absurd (shut k.third_open refl e));
        lowest = each_apart (λ t. place t < place k.target → HasOpenGate new (place t) → mark_at new (place t) < mark_at new (place k.target)) _ _ _ was.remembers.apart (λ low e. less e) (λ low e. absurd (omega arith)) (λ low e. absurd (shut k.third_open refl e));
      };
      mark = λ is. target_mark ∙ holds;
      none = λ is. absurd (cc);
      no_mark = λ is. absurd (cc);
      third = λ is. newest_gate ∙ (was.remembers.newest is).is_open;
      third_shut = λ is e. closed_at old (was.remembers.none is) k.newest (sym newest_gate ∙ e);
    };
    version = λ is. target_version ∙ version;
    target = shut k.third_open refl;
  }
    where
      target_open : HasOpenGate new (place k.target)
      target_open = turns.opened (closes_no_other k (place k.target) was.remembers.apart.third)

      less : HasOpenGate new (place k.newest) → mark_at new (place k.newest) < mark_at new (place k.target)
      less e = omega (arith, open_counts new (place k.newest) e, newest_still, target_mark, holds, lt)

      shut : (b : Bool) → k.third_open ≡ b → HasClosedGate new (place k.third)
      shut true open_now e = absurd (omega (arith, turns.shut (place k.third) (closes_third k open_now), e))
      shut false shut_now e = was.remembers.third_shut shut_now (sym (third_shut_kept shut_now) ∙ e)
