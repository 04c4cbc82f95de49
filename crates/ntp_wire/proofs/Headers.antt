-- How the parts of a header make the whole.
use Rattle.std.proofs.Common.{◌≡◌, ℕ, ◌+◌, ◌*◌, ◌/◌, ◌%◌, List, [], ◌∷◌, ◌++◌, length, take, get_or, refl, ◌∙◌, ap, arith}
use Rattle.std.proofs.lemmas.List.{take_at}
use Rattle.std.specs.Int.{w8, w32, cast_unsigned}
use Rattle.byte_codec.specs.Numbers.{word_bytes}
use Rattle.byte_codec.proofs.Numbers.{length-number_bytes}
use Rattle.byte_codec.proofs.Parts.{read_more, written_more, longer}
use Rattle.ntp_wire.specs.declared.header.Header.{Header}
use Rattle.ntp_wire.specs.declared.stamp.Stamp.{Stamp}
use Rattle.ntp_wire.specs.Header.{header_bytes, head_bytes}
use Rattle.ntp_wire.specs.Stamp.{stamp_bytes}

pub length-head_bytes : (h : Header) → length (head_bytes h) ≡ 4
unfolding head_bytes
length-head_bytes h = refl

pub length-stamp_bytes : (s : Stamp) → length (stamp_bytes s) ≡ 8
length-stamp_bytes s = longer 4 4 (word_bytes s.seconds) (word_bytes s.fraction) (length-number_bytes 4 s.seconds) (length-number_bytes 4 s.fraction)

-- ---- The fronts of a header's bytes, each with one part more

abbrev pub front_4 : Header → List ℕ
front_4 h = head_bytes h

abbrev pub front_8 : Header → List ℕ
front_8 h = front_4 h ++ word_bytes (cast_unsigned w32 h.root_delay)

abbrev pub front_12 : Header → List ℕ
front_12 h = front_8 h ++ word_bytes h.root_dispersion

abbrev pub front_16 : Header → List ℕ
front_16 h = front_12 h ++ h.reference_id

abbrev pub front_24 : Header → List ℕ
front_24 h = front_16 h ++ stamp_bytes h.reference

abbrev pub front_32 : Header → List ℕ
front_32 h = front_24 h ++ stamp_bytes h.originate

abbrev pub front_40 : Header → List ℕ
front_40 h = front_32 h ++ stamp_bytes h.receive

pub length-front_8 : (h : Header) → length (front_8 h) ≡ 8
length-front_8 h = longer 4 4 (front_4 h) (word_bytes (cast_unsigned w32 h.root_delay)) (length-head_bytes h) (length-number_bytes 4 (cast_unsigned w32 h.root_delay))

pub length-front_12 : (h : Header) → length (front_12 h) ≡ 12
length-front_12 h = longer 8 4 (front_8 h) (word_bytes h.root_dispersion) (length-front_8 h) (length-number_bytes 4 h.root_dispersion)

pub length-front_16 : (h : Header) → length h.reference_id ≡ 4 → length (front_16 h) ≡ 16
length-front_16 h four = longer 12 4 (front_12 h) h.reference_id (length-front_12 h) four

pub length-front_24 : (h : Header) → length h.reference_id ≡ 4 → length (front_24 h) ≡ 24
length-front_24 h four = longer 16 8 (front_16 h) (stamp_bytes h.reference) (length-front_16 h four) (length-stamp_bytes h.reference)

pub length-front_32 : (h : Header) → length h.reference_id ≡ 4 → length (front_32 h) ≡ 32
length-front_32 h four = longer 24 8 (front_24 h) (stamp_bytes h.originate) (length-front_24 h four) (length-stamp_bytes h.originate)

pub length-front_40 : (h : Header) → length h.reference_id ≡ 4 → length (front_40 h) ≡ 40
length-front_40 h four = longer 32 8 (front_32 h) (stamp_bytes h.receive) (length-front_32 h four) (length-stamp_bytes h.receive)

pub length-header_bytes : (h : Header) → length h.reference_id ≡ 4 → length (header_bytes h) ≡ 48
unfolding header_bytes
length-header_bytes h four = longer 40 8 (front_40 h) (stamp_bytes h.transmit) (length-front_40 h four) (length-stamp_bytes h.transmit)

-- ---- Reading

-- a list of four is its four elements
four_cells : (xs : List ℕ) → length xs ≡ 4 → xs ≡ get_or xs 0 0 ∷ get_or xs 1 0 ∷ get_or xs 2 0 ∷ get_or xs 3 0 ∷ []
four_cells [] four = absurd (omega arith)
four_cells (a ∷ []) four = absurd (omega arith)
four_cells (a ∷ b ∷ []) four = absurd (omega arith)
four_cells (a ∷ b ∷ c ∷ []) four = absurd (omega arith)
four_cells (a ∷ b ∷ c ∷ d ∷ []) four = refl
four_cells (a ∷ b ∷ c ∷ d ∷ e ∷ xs) four = absurd (omega arith)

-- the head of a header whose fields are parts of four bytes
pub head_is : (h : Header) (xs : List ℕ) → length xs ≡ 4
    → h.leap ≡ get_or xs 0 0 / 64 → h.version ≡ get_or xs 0 0 / 8 % 8 → h.mode ≡ get_or xs 0 0 % 8
    → h.stratum ≡ get_or xs 1 0 → cast_unsigned w8 h.poll ≡ get_or xs 2 0 → cast_unsigned w8 h.precision ≡ get_or xs 3 0
    → xs ≡ head_bytes h
unfolding head_bytes
head_is h xs four leap version mode stratum poll precision =
    let first : get_or xs 0 0 ≡ 64 * h.leap + 8 * h.version + h.mode = omega arith in
    four_cells xs four ∙ cc

-- a header that was read part by part
pub read : (h : Header) (bytes r1 r2 r3 r4 r5 r6 r7 r8 : List ℕ) → length h.reference_id ≡ 4
    → bytes ≡ head_bytes h ++ r1
    → r1 ≡ word_bytes (cast_unsigned w32 h.root_delay) ++ r2
    → r2 ≡ word_bytes h.root_dispersion ++ r3
    → r3 ≡ h.reference_id ++ r4
    → r4 ≡ stamp_bytes h.reference ++ r5
    → r5 ≡ stamp_bytes h.originate ++ r6
    → r6 ≡ stamp_bytes h.receive ++ r7
    → r7 ≡ stamp_bytes h.transmit ++ r8
    → take 48 bytes ≡ header_bytes h
unfolding header_bytes
read h bytes r1 r2 r3 r4 r5 r6 r7 r8 four e1 e2 e3 e4 e5 e6 e7 e8 =
    let front : bytes ≡ header_bytes h ++ r8 =
    read_more _ _ _ _ _ (read_more _ _ _ _ _ (read_more _ _ _ _ _ (read_more _ _ _ _ _ (read_more _ _ _ _ _ (read_more _ _ _ _ _ (read_more _ _ _ _ _ e1 e2) e3) e4) e5) e6) e7) e8 in
    ap (λ (l : List ℕ). take 48 l) front ∙ take_at (header_bytes h) r8 48 (length-header_bytes h four)

-- ---- Writing

-- a header that was written part by part
pub written : (h : Header) (o1 o2 o3 o4 o5 o6 o7 o8 : List ℕ)
    → o1 ≡ head_bytes h
    → o2 ≡ o1 ++ word_bytes (cast_unsigned w32 h.root_delay)
    → o3 ≡ o2 ++ word_bytes h.root_dispersion
    → o4 ≡ o3 ++ h.reference_id
    → o5 ≡ o4 ++ stamp_bytes h.reference
    → o6 ≡ o5 ++ stamp_bytes h.originate
    → o7 ≡ o6 ++ stamp_bytes h.receive
    → o8 ≡ o7 ++ stamp_bytes h.transmit
    → o8 ≡ header_bytes h
unfolding header_bytes
written h o1 o2 o3 o4 o5 o6 o7 o8 e1 e2 e3 e4 e5 e6 e7 e8 =
    written_more _ _ _ _ (written_more _ _ _ _ (written_more _ _ _ _ (written_more _ _ _ _ (written_more _ _ _ _ (written_more _ _ _ _ (written_more _ _ _ _ e1 e2) e3) e4) e5) e6) e7) e8
