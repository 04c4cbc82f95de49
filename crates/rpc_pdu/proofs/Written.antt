-- A PDU that was written is read again.
use Rattle.std.proofs.Common.{◌≡◌, ℕ, ◌+◌, ◌-◌, ◌<◌, ◌≤◌, ◌^◌, List, [], ◌∷◌, ◌++◌, length, take, drop, None, refl, sym, ◌∙◌, ap, arith, lit<, length-append, append_assoc, subst}
use Rattle.std.proofs.Common.{eq-eqb}
use Rattle.std.proofs.lemmas.Bool.{cond-true}
use Rattle.std.proofs.lemmas.List.{take_at, drop_at}
use Rattle.byte_codec.specs.Numbers.{low_half_word_bytes, low_word_bytes}
use Rattle.byte_codec.proofs.Numbers.{length-low_number_bytes}
use Rattle.byte_codec.proofs.Parts.{longer}
use Rattle.rpc_pdu.specs.declared.header.Header.{Header}
use Rattle.rpc_pdu.specs.declared.pdu.Pdu.{Pdu}
use Rattle.rpc_pdu.specs.Header.{bind_kind, header_of, header_flaw}
use Rattle.rpc_pdu.specs.Bind.{bind_need}
use Rattle.rpc_pdu.specs.Pdu.{PduFits, body_of, header_with, need, pdu_bytes, pdu_len}
use Rattle.rpc_pdu.proofs.Flaws.{IsWhole, header_bounds, header_flags, header_kind}
use Rattle.rpc_pdu.proofs.Places.{header_parts}

-- the first bytes of a header, which say the same in each but for type and flags
fixed : Pdu → List ℕ
fixed pdu = 5 ∷ 0 ∷ pdu.kind ∷ pdu.flags ∷ 0x10 ∷ 0 ∷ 0 ∷ 0 ∷ []

-- the header of a PDU
head : Pdu → List ℕ
head pdu = ((fixed pdu ++ low_half_word_bytes (pdu_len pdu)) ++ low_half_word_bytes 0) ++ low_word_bytes pdu.call_id

length-head : (pdu : Pdu) → length (head pdu) ≡ 16
unfolding head fixed
length-head pdu =
    longer 12 4 ((fixed pdu ++ low_half_word_bytes (pdu_len pdu)) ++ low_half_word_bytes 0) (low_word_bytes pdu.call_id)
    (longer 10 2 (fixed pdu ++ low_half_word_bytes (pdu_len pdu)) (low_half_word_bytes 0)
    (longer 8 2 (fixed pdu) (low_half_word_bytes (pdu_len pdu)) refl (length-low_number_bytes 2 (pdu_len pdu)))
    (length-low_number_bytes 2 0)) (length-low_number_bytes 4 pdu.call_id)

-- the header, and then the body
head_and_body : (pdu : Pdu) → pdu_bytes pdu ≡ head pdu ++ pdu.body
unfolding pdu_bytes head fixed
head_and_body pdu = refl

pub length-pdu_bytes : (pdu : Pdu) → length (pdu_bytes pdu) ≡ pdu_len pdu
length-pdu_bytes pdu = omega (arith, ap length (head_and_body pdu), length-append (head pdu) pdu.body, length-head pdu)

header_written : (pdu : Pdu) (rest : List ℕ) → PduFits pdu → header_of (pdu_bytes pdu ++ rest) ≡ header_with pdu
unfolding pdu_bytes fixed
header_written pdu rest fits =
    let a = fixed pdu in
    let b = low_half_word_bytes (pdu_len pdu) in
    let d = low_half_word_bytes 0 in
    let e = low_word_bytes pdu.call_id in
    let tail = pdu.body ++ rest in
    let bytes = pdu_bytes pdu ++ rest in
    let first : bytes ≡ a ++ (b ++ (d ++ (e ++ tail))) =
    append_assoc (((a ++ b) ++ d) ++ e) pdu.body rest ∙ append_assoc ((a ++ b) ++ d) e tail ∙ append_assoc (a ++ b) d (e ++ tail) ∙ append_assoc a b (d ++ (e ++ tail)) in
    let parts = header_parts bytes a (b ++ (d ++ (e ++ tail))) (d ++ (e ++ tail)) (e ++ tail) tail (pdu_len pdu) 0 pdu.call_id
    first refl refl refl
    refl (omega (arith, fits.within)) (lit< tt) fits.call_id in
    let fragment = parts.fragment_is in
    let auth = parts.auth_is in
    let call = parts.call_is in
    λ i. record {
      version = 5;
      minor = 0;
      kind = pdu.kind;
      flags = pdu.flags;
      representation = 0x10;
      fragment_len = fragment i;
      auth_len = auth i;
      call_id = call i;
    }

header_sound : (pdu : Pdu) → PduFits pdu → header_flaw (header_with pdu) ≡ None
unfolding header_flaw
header_sound pdu fits = grind (arith, fits.kind, fits.flags, fits.within)

pub whole_written : (pdu : Pdu) (rest : List ℕ) → PduFits pdu → IsWhole (pdu_bytes pdu ++ rest) pdu
whole_written pdu rest fits =
    let bytes = pdu_bytes pdu ++ rest in
    let header = header_written pdu rest fits in
    let size = length-append (pdu_bytes pdu) rest in
    let len = length-pdu_bytes pdu in
    let cut : bytes ≡ head pdu ++ (pdu.body ++ rest) = ap (λ (l : List ℕ). l ++ rest) (head_and_body pdu) ∙ append_assoc (head pdu) pdu.body rest in
    let enough : length pdu.body ≡ pdu_len pdu - 16 = omega arith in
    let body : body_of bytes ≡ pdu.body =
    ap (λ (h : Header). take (h.fragment_len - 16) (drop 16 bytes)) header
    ∙ ap (λ (l : List ℕ). take (pdu_len pdu - 16) (drop 16 l)) cut
    ∙ ap (λ (l : List ℕ). take (pdu_len pdu - 16) l) (drop_at (head pdu) (pdu.body ++ rest) 16 (length-head pdu))
    ∙ take_at pdu.body rest (pdu_len pdu - 16) enough in
    let asks : need (header_of bytes) (body_of bytes) ≡ need (header_with pdu) pdu.body =
    ap (λ (h : Header). need h (body_of bytes)) header ∙ ap (λ (l : List ℕ). need (header_with pdu) l) body in
    let fragment = ap (λ (h : Header). h.fragment_len) header in
    let kind = ap (λ (h : Header). h.kind) header in
    let flags = ap (λ (h : Header). h.flags) header in
    let call = ap (λ (h : Header). h.call_id) header in
    record {
      enough = omega (arith, size, len);
      sound = ap header_flaw header ∙ header_sound pdu fits;
      fits = omega (arith, size, len, fragment);
      full = omega (arith, asks, ap length body, fits.enough);
      is = λ i. record { kind = kind i; flags = flags i; call_id = call i; body = body i };
      len = sym fragment;
    }

-- a PDU with a header in order fits, where its body has what the header says and what its type asks
pub fits_behind : (pdu : Pdu) (h : Header) (part : List ℕ) → header_flaw h ≡ None → length part + 16 ≡ h.fragment_len → need h part ≤ length part → h.call_id < 2 ^ 32
    → pdu ≡ record { kind = h.kind; flags = h.flags; call_id = h.call_id; body = part } → PduFits pdu
unfolding need
fits_behind pdu h part sound room full call same =
    subst PduFits (sym same) (record {
      kind = header_kind h sound;
      flags = header_flags h sound;
      call_id = call;
      within = omega (arith, room, (header_bounds h sound).1);
      enough = full;
    })

-- a bind that fits has all of its contexts
pub bind_asks : (pdu : Pdu) → pdu.kind ≡ bind_kind → PduFits pdu → bind_need pdu.body ≤ length pdu.body
unfolding need
bind_asks pdu is fits =
    let same : need (header_with pdu) pdu.body ≡ bind_need pdu.body = cond-true _ _ _ (eq-eqb pdu.kind bind_kind is) in
    omega (arith, fits.enough, same)
