-- What a torn write may leave, and what a sync leaves.
use Rattle.std.specs.Prelude.{slice_index_or, slice_index}
use Rattle.std.proofs.Common.{◌≡◌, ◌⊎◌, inl, inr, ⊎_elim, ℕ, zero, suc, ◌+◌, ◌≤◌, ◌<◌, List, [], ◌∷◌, length, false, true≢false, Some, sym, ◌∙◌, ap, refl, arith}
use Rattle.std.proofs.Math.ListN.{replicate, length-replicate}
use Rattle.std.proofs.lemmas.List.{get_or-replicate, get_or_past}
use Rattle.std.proofs.lemmas.Bool.{cases_lt}
use Rattle.std.proofs.lemmas.Grind.{same_number_lists}
use Rattle.edge_traits.specs.declared.sink.Put.TheVariants.{Done}
use Rattle.slot_disk.specs.declared.moment.Moment.{Moment}
use Rattle.slot_disk.specs.Calls.{IsSynced, SameOutside, Syncs}
use Rattle.slot_disk.specs.Moments.{IsImage, TearsFreely, Touches}
use Rattle.slot_disk.specs.Memory.{tells_of}

-- ys in the range, and xs elsewhere
over : ℕ → ℕ → List ℕ → List ℕ → List ℕ
over at n [] ys = []
over at n (x ∷ xs) [] = x ∷ xs
over zero zero (x ∷ xs) (y ∷ ys) = x ∷ xs
over zero (suc n) (x ∷ xs) (y ∷ ys) = y ∷ over zero n xs ys
over (suc at) n (x ∷ xs) (y ∷ ys) = x ∷ over at n xs ys

length-over : (at n : ℕ) (xs ys : List ℕ) → length (over at n xs ys) ≡ length xs
unfolding over
length-over at n [] ys = refl
length-over at n (x ∷ xs) [] = refl
length-over zero zero (x ∷ xs) (y ∷ ys) = refl
length-over zero (suc n) (x ∷ xs) (y ∷ ys) = omega (arith, length-over zero n xs ys)
length-over (suc at) n (x ∷ xs) (y ∷ ys) = omega (arith, length-over at n xs ys)

over-outside : (at n : ℕ) (xs ys : List ℕ) (k : ℕ) → (k < at) ⊎ (at + n ≤ k) → slice_index (over at n xs ys) k ≡ slice_index xs k
unfolding over
over-outside at n [] ys k out = refl
over-outside at n (x ∷ xs) [] k out = refl
over-outside zero zero (x ∷ xs) (y ∷ ys) k out = refl
over-outside zero (suc n) (x ∷ xs) (y ∷ ys) zero out = absurd (⊎_elim (λ lt. omega arith) (λ le. omega arith) out)
over-outside zero (suc n) (x ∷ xs) (y ∷ ys) (suc k) out = over-outside zero n xs ys k (⊎_elim (λ lt. absurd (omega arith)) (λ le. inr (omega arith)) out)
over-outside (suc at) n (x ∷ xs) (y ∷ ys) zero out = refl
over-outside (suc at) n (x ∷ xs) (y ∷ ys) (suc k) out = over-outside at n xs ys k (⊎_elim (λ lt. inl (omega arith)) (λ le. inr (omega arith)) out)

over-inside : (at n : ℕ) (xs ys : List ℕ) (k : ℕ) → length xs ≡ length ys → at ≤ k → k < at + n → slice_index (over at n xs ys) k ≡ slice_index ys k
unfolding over
over-inside at n [] [] k same low high = refl
over-inside at n [] (y ∷ ys) k same low high = absurd (omega arith)
over-inside at n (x ∷ xs) [] k same low high = absurd (omega arith)
over-inside zero zero (x ∷ xs) (y ∷ ys) k same low high = absurd (omega arith)
over-inside zero (suc n) (x ∷ xs) (y ∷ ys) zero same low high = refl
over-inside zero (suc n) (x ∷ xs) (y ∷ ys) (suc k) same low high = over-inside zero n xs ys k (omega arith) (omega arith) (omega arith)
over-inside (suc at) n (x ∷ xs) (y ∷ ys) zero same low high = absurd (omega arith)
over-inside (suc at) n (x ∷ xs) (y ∷ ys) (suc k) same low high = over-inside at n xs ys k (omega arith) (omega arith) (omega arith)

-- what a torn write may leave was torn from an image
image_from : (at n : ℕ) (old new : Moment) → SameOutside at n old.bytes new.bytes → Touches at n old.touched new.touched → (c : List ℕ) → IsImage new c → (d : List ℕ) × IsImage old d × SameOutside at n d c
image_from at n old new same touches c is = (
  over at n c old.bytes,
  record { size = length-over at n c old.bytes ∙ size; rest = rest },
  record {
    size = sym (length-over at n c old.bytes);
    before = λ k lt. sym (over-outside at n c old.bytes k (inl lt));
    after = λ k le. sym (over-outside at n c old.bytes k (inr le));
  },
)
  where
    size : length c ≡ length old.bytes
    size = is.size ∙ same.size

    rest : (k : ℕ) → slice_index_or old.touched k false ≡ false → slice_index (over at n c old.bytes) k ≡ slice_index old.bytes k
    rest k free = elim (cases_lt k at) [
      | inl lt ↦ over-outside at n c old.bytes k (inl lt) ∙ is.rest k (touches.before k lt ∙ free) ∙ same.before k lt
      | inr low ↦ elim (cases_lt k (at + n)) [
        | inl high ↦ over-inside at n c old.bytes k size low high
        | inr le ↦ over-outside at n c old.bytes k (inr le) ∙ is.rest k (touches.after k le ∙ free) ∙ same.after k le
      ]
    ]

-- each torn image is one that a crash may leave
torn_image : (at n : ℕ) (old new : Moment) → SameOutside at n old.bytes new.bytes → Touches at n old.touched new.touched → (d c : List ℕ) → IsImage old d → SameOutside at n d c → IsImage new c
torn_image at n old new same touches d c is torn = record { size = torn.size ∙ is.size ∙ sym same.size; rest = rest }
  where
    rest : (k : ℕ) → slice_index_or new.touched k false ≡ false → slice_index c k ≡ slice_index new.bytes k
    rest k free = elim (cases_lt k at) [
      | inl lt ↦ torn.before k lt ∙ is.rest k (sym (touches.before k lt) ∙ free) ∙ sym (same.before k lt)
      | inr low ↦ elim (cases_lt k (at + n)) [
        | inl high ↦ absurd (true≢false (sym (touches.here k low high) ∙ free))
        | inr le ↦ torn.after k le ∙ is.rest k (sym (touches.after k le) ∙ free) ∙ sym (same.after k le)
      ]
    ]

pub tears_freely : (at n : ℕ) (old new : Moment) → SameOutside at n old.bytes new.bytes → Touches at n old.touched new.touched → TearsFreely at n old new
tears_freely at n old new same touches = record { most = image_from at n old new same touches; least = torn_image at n old new same touches }

pub same_bytes : (at n : ℕ) (bytes : List ℕ) → SameOutside at n bytes bytes
same_bytes at n bytes = record { size = refl; before = λ k lt. refl; after = λ k le. refl }

-- with nothing marked there is one image
one_image : (m : Moment) → ((k : ℕ) → slice_index_or m.touched k false ≡ false) → (c : List ℕ) → IsImage m c → m.bytes ≡ c
one_image m free c is = sym (same_number_lists c m.bytes is.size (λ k lt. is.rest k (free k)))

pub none_touched : (n k : ℕ) → slice_index_or (replicate n false) k false ≡ false
none_touched n k = elim (cases_lt k n) [ inl lt ↦ get_or-replicate n k false false lt | inr le ↦ get_or_past (replicate n false) k false (omega (arith, length-replicate n false)) ]

pub synced : (m : Moment) (past : List Moment) (beyond : ℕ) → ((k : ℕ) → slice_index_or m.touched k false ≡ false) → IsSynced (tells_of m past beyond)
synced m past beyond free = record { reads = λ c left. ap Some (one_image m free c left) }

pub syncs_done : (old new : Moment) (past past' : List Moment) (beyond beyond' : ℕ) → new.bytes ≡ old.bytes → ((k : ℕ) → slice_index_or new.touched k false ≡ false) → Syncs Done (tells_of old past beyond) (tells_of new past' beyond')
syncs_done old new past past' beyond beyond' same free = record {
  content = λ is. ap Some same;
  durable = λ is. synced new past' beyond' free;
  no_other = record { was = λ c left. record { size = left.size ∙ ap length same; rest = λ k none. left.rest k (free k) ∙ ap (λ (l : List ℕ). slice_index l k) same } };
}
