-- What is wrong with bytes, by cases, and what stays as more bytes come.
use Rattle.std.proofs.Common.{◌≡◌, ℕ, ◌-◌, ◌%◌, ◌<◌, ◌≤◌, true, List, [], ◌∷◌, ◌++◌, length, take, drop, Option, Some, None, Ok, Err, refl, sym, ◌∙◌, ap, inl, inr, arith, length-append, length-drop}
use Rattle.std.specs.Prelude.{nat_lt}
use Rattle.std.specs.Option.{option_or}
use Rattle.std.proofs.lemmas.Bool.{lt-ltb, le-ltb, ltb-true, ltb-false, cond-true, cond-false, cases_Bool}
use Rattle.std.proofs.lemmas.List.{get_or_append_left, length-take-le, take-append-le, drop-append-le}
use Rattle.byte_codec.specs.Numbers.{low_number_of, low_word_at}
use Rattle.byte_codec.proofs.Parts.{part_before}
use Rattle.rpc_pdu.specs.declared.fault.Flaw.{Flaw}
use Rattle.rpc_pdu.specs.declared.fault.Flaw.TheVariants.{BadBody, Torn}
use Rattle.rpc_pdu.specs.declared.header.Header.{Header}
use Rattle.rpc_pdu.specs.declared.pdu.Pdu.{Pdu}
use Rattle.rpc_pdu.specs.Header.{header_of, header_flaw, is_kind, low_half_word_at}
use Rattle.rpc_pdu.specs.Pdu.{body_of, fault_of, first_pdu, judged, need, pdu_flaw, pdu_len, pdu_of, rest_flaw}

-- a header in order has a length within its bounds
pub header_bounds : (h : Header) → header_flaw h ≡ None → (16 ≤ h.fragment_len) × (h.fragment_len ≤ 5840)
unfolding header_flaw
header_bounds h sound = grind arith

-- a header in order has one of the types, and is whole in one fragment
pub header_kind : (h : Header) → header_flaw h ≡ None → is_kind h.kind ≡ true
unfolding header_flaw
header_kind h sound = grind arith

pub header_flags : (h : Header) → header_flaw h ≡ None → h.flags % 4 ≡ 3
unfolding header_flaw
header_flags h sound = grind arith

-- what is wrong with a header is no cut, and no short body
pub header_not_torn : (h : Header) → header_flaw h ≡ Some Torn → ⊥
unfolding header_flaw
header_not_torn h torn = grind arith

pub header_not_short : (h : Header) → header_flaw h ≡ Some BadBody → ⊥
unfolding header_flaw
header_not_short h short = grind arith

-- what is wrong, by where it is found
pub flaw_cut : (bytes : List ℕ) → length bytes < 16 → pdu_flaw bytes ≡ Some Torn
unfolding pdu_flaw
flaw_cut bytes few = cond-true _ _ _ (lt-ltb (length bytes) 16 few)

pub flaw_header : (bytes : List ℕ) (flaw : Flaw) → 16 ≤ length bytes → header_flaw (header_of bytes) ≡ Some flaw → pdu_flaw bytes ≡ Some flaw
unfolding pdu_flaw
flaw_header bytes flaw enough is =
    cond-false _ _ _ (le-ltb (length bytes) 16 enough) ∙ ap (λ (o : Option Flaw). option_or o (rest_flaw bytes)) is

pub flaw_rest : (bytes : List ℕ) → 16 ≤ length bytes → header_flaw (header_of bytes) ≡ None → pdu_flaw bytes ≡ rest_flaw bytes
unfolding pdu_flaw
flaw_rest bytes enough sound =
    cond-false _ _ _ (le-ltb (length bytes) 16 enough) ∙ ap (λ (o : Option Flaw). option_or o (rest_flaw bytes)) sound

pub rest_torn : (bytes : List ℕ) → length bytes < (header_of bytes).fragment_len → rest_flaw bytes ≡ Some Torn
unfolding rest_flaw
rest_torn bytes few = cond-true _ _ _ (lt-ltb (length bytes) (header_of bytes).fragment_len few)

pub rest_short : (bytes : List ℕ) → (header_of bytes).fragment_len ≤ length bytes → length (body_of bytes) < need (header_of bytes) (body_of bytes)
    → rest_flaw bytes ≡ Some BadBody
unfolding rest_flaw
rest_short bytes enough short =
    cond-false _ _ _ (le-ltb (length bytes) (header_of bytes).fragment_len enough)
    ∙ cond-true _ _ _ (lt-ltb (length (body_of bytes)) (need (header_of bytes) (body_of bytes)) short)

pub rest_none : (bytes : List ℕ) → (header_of bytes).fragment_len ≤ length bytes → need (header_of bytes) (body_of bytes) ≤ length (body_of bytes)
    → rest_flaw bytes ≡ None
unfolding rest_flaw
rest_none bytes enough full =
    cond-false _ _ _ (le-ltb (length bytes) (header_of bytes).fragment_len enough)
    ∙ cond-false _ _ _ (le-ltb (length (body_of bytes)) (need (header_of bytes) (body_of bytes)) full)

-- How bytes stand: cut in the header, wrong in the header, cut in the body, with too short a body, or with a whole PDU.
pub data Stands (bytes : List ℕ) : Type 0 where
  cut : length bytes < 16 → pdu_flaw bytes ≡ Some Torn → Stands bytes
  wrong : (flaw : Flaw) → 16 ≤ length bytes → header_flaw (header_of bytes) ≡ Some flaw → pdu_flaw bytes ≡ Some flaw → Stands bytes
  torn : 16 ≤ length bytes → header_flaw (header_of bytes) ≡ None → length bytes < (header_of bytes).fragment_len → pdu_flaw bytes ≡ Some Torn → Stands bytes
  short : 16 ≤ length bytes → header_flaw (header_of bytes) ≡ None → (header_of bytes).fragment_len ≤ length bytes
      → length (body_of bytes) < need (header_of bytes) (body_of bytes) → pdu_flaw bytes ≡ Some BadBody → Stands bytes
  whole : 16 ≤ length bytes → header_flaw (header_of bytes) ≡ None → (header_of bytes).fragment_len ≤ length bytes
      → need (header_of bytes) (body_of bytes) ≤ length (body_of bytes) → pdu_flaw bytes ≡ None → Stands bytes

stands_behind : (bytes : List ℕ) → 16 ≤ length bytes → header_flaw (header_of bytes) ≡ None → Stands bytes
stands_behind bytes enough sound =
    elim (cases_Bool (nat_lt (length bytes) (header_of bytes).fragment_len)) [
      | inl few ↦ let less = ltb-true _ _ few in torn enough sound less (flaw_rest bytes enough sound ∙ rest_torn bytes less)
      | inr many ↦ let all = ltb-false _ _ many in elim (cases_Bool (nat_lt (length (body_of bytes)) (need (header_of bytes) (body_of bytes)))) [
        | inl less ↦ let lacks = ltb-true _ _ less in short enough sound all lacks (flaw_rest bytes enough sound ∙ rest_short bytes all lacks)
        | inr full ↦ let has = ltb-false _ _ full in whole enough sound all has (flaw_rest bytes enough sound ∙ rest_none bytes all has)
      ]
    ]

stands_header : (bytes : List ℕ) (o : Option Flaw) → 16 ≤ length bytes → header_flaw (header_of bytes) ≡ o → Stands bytes
stands_header bytes None enough is = stands_behind bytes enough is
stands_header bytes (Some flaw) enough is = wrong flaw enough is (flaw_header bytes flaw enough is)

pub stands : (bytes : List ℕ) → Stands bytes
stands bytes =
    elim (cases_Bool (nat_lt (length bytes) 16)) [
      | inl few ↦ let less = ltb-true _ _ few in cut less (flaw_cut bytes less)
      | inr many ↦ stands_header bytes (header_flaw (header_of bytes)) (ltb-false _ _ many) refl
    ]

-- the header stays as more bytes come, and so does a whole body
pub header_stays : (bytes more : List ℕ) → 16 ≤ length bytes → header_of (bytes ++ more) ≡ header_of bytes
header_stays bytes more enough =
    let version = get_or_append_left bytes more 0 0 (omega (arith, enough)) in
    let minor = get_or_append_left bytes more 0 1 (omega (arith, enough)) in
    let kind = get_or_append_left bytes more 0 2 (omega (arith, enough)) in
    let flags = get_or_append_left bytes more 0 3 (omega (arith, enough)) in
    let representation = get_or_append_left bytes more 0 4 (omega (arith, enough)) in
    let fragment : low_half_word_at 8 (bytes ++ more) ≡ low_half_word_at 8 bytes = ap low_number_of (part_before 8 2 bytes more (omega (arith, enough))) in
    let auth : low_half_word_at 10 (bytes ++ more) ≡ low_half_word_at 10 bytes = ap low_number_of (part_before 10 2 bytes more (omega (arith, enough))) in
    let call : low_word_at 12 (bytes ++ more) ≡ low_word_at 12 bytes = ap low_number_of (part_before 12 4 bytes more (omega (arith, enough))) in
    λ i. record {
      version = version i;
      minor = minor i;
      kind = kind i;
      flags = flags i;
      representation = representation i;
      fragment_len = fragment i;
      auth_len = auth i;
      call_id = call i;
    }

pub body_stays : (bytes more : List ℕ) → 16 ≤ length bytes → (header_of bytes).fragment_len ≤ length bytes → body_of (bytes ++ more) ≡ body_of bytes
body_stays bytes more enough fits =
    ap (λ (h : Header). take (h.fragment_len - 16) (drop 16 (bytes ++ more))) (header_stays bytes more enough)
    ∙ ap (λ (l : List ℕ). take ((header_of bytes).fragment_len - 16) l) (drop-append-le 16 bytes more enough)
    ∙ take-append-le ((header_of bytes).fragment_len - 16) (drop 16 bytes) more (omega (arith, enough, fits, length-drop 16 bytes))

pub body_len : (bytes : List ℕ) → (header_of bytes).fragment_len ≤ length bytes → length (body_of bytes) ≡ (header_of bytes).fragment_len - 16
body_len bytes fits = length-take-le ((header_of bytes).fragment_len - 16) (drop 16 bytes) (omega (arith, fits, length-drop 16 bytes))

need_stays : (bytes more : List ℕ) → 16 ≤ length bytes → (header_of bytes).fragment_len ≤ length bytes
    → need (header_of (bytes ++ more)) (body_of (bytes ++ more)) ≡ need (header_of bytes) (body_of bytes)
need_stays bytes more enough fits =
    ap (λ (h : Header). need h (body_of (bytes ++ more))) (header_stays bytes more enough)
    ∙ ap (λ (l : List ℕ). need (header_of bytes) l) (body_stays bytes more enough fits)

-- a flaw other than a cut is one however the bytes go on
pub flaw_stays : (bytes more : List ℕ) (flaw : Flaw) → (flaw ≡ Torn → ⊥) → pdu_flaw bytes ≡ Some flaw → pdu_flaw (bytes ++ more) ≡ Some flaw
flaw_stays bytes more flaw not_torn is =
    let long = length-append bytes more in
    elim (stands bytes) [
      | cut few flawed ↦ absurd (not_torn cc)
      | torn enough sound few flawed ↦ absurd (not_torn cc)
      | wrong f enough here flawed ↦
          flaw_header (bytes ++ more) f (omega (arith, enough, long)) (ap header_flaw (header_stays bytes more enough) ∙ here) ∙ sym flawed ∙ is
      | short enough sound fits lacks flawed ↦
          let same = ap (λ (h : Header). h.fragment_len) (header_stays bytes more enough) in
          let body = ap length (body_stays bytes more enough fits) in
          flaw_rest (bytes ++ more) (omega (arith, enough, long)) (ap header_flaw (header_stays bytes more enough) ∙ sound)
          ∙ rest_short (bytes ++ more) (omega (arith, same, fits, long)) (omega (arith, body, lacks, need_stays bytes more enough fits))
          ∙ sym flawed ∙ is
      | whole enough sound fits full none ↦ cc
    ]

-- a whole PDU stands first in the bytes
pub record IsWhole (bytes : List ℕ) (pdu : Pdu) : Type 0 where
  pub enough : 16 ≤ length bytes
  pub sound : header_flaw (header_of bytes) ≡ None
  pub fits : (header_of bytes).fragment_len ≤ length bytes
  pub full : need (header_of bytes) (body_of bytes) ≤ length (body_of bytes)
  pub is : pdu_of bytes ≡ pdu
  pub len : pdu_len pdu ≡ (header_of bytes).fragment_len

pub whole_stays : (bytes more : List ℕ) (pdu : Pdu) → IsWhole bytes pdu → IsWhole (bytes ++ more) pdu
whole_stays bytes more pdu w =
    let long = length-append bytes more in
    let header = header_stays bytes more w.enough in
    let body = body_stays bytes more w.enough w.fits in
    let same = ap (λ (h : Header). h.fragment_len) header in
    let kind = ap (λ (h : Header). h.kind) header in
    let flags = ap (λ (h : Header). h.flags) header in
    let call = ap (λ (h : Header). h.call_id) header in
    let pdu_is : pdu_of (bytes ++ more) ≡ pdu_of bytes = λ i. record { kind = kind i; flags = flags i; call_id = call i; body = body i } in
    record {
      enough = omega (arith, w.enough, long);
      sound = ap header_flaw header ∙ w.sound;
      fits = omega (arith, same, w.fits, long);
      full = omega (arith, ap length body, w.full, need_stays bytes more w.enough w.fits);
      is = pdu_is ∙ w.is;
      len = w.len ∙ sym same;
    }

judged_first : (place : ℕ) (bytes : List ℕ) → 0 < length bytes → first_pdu place bytes ≡ judged place bytes (pdu_flaw bytes)
unfolding first_pdu
judged_first place [] some = absurd (omega (arith, some))
judged_first place (byte ∷ bytes) some = refl

pub first_whole : (place : ℕ) (bytes : List ℕ) (pdu : Pdu) → IsWhole bytes pdu → first_pdu place bytes ≡ Ok (Some pdu)
first_whole place bytes pdu w =
    judged_first place bytes (omega (arith, w.enough))
    ∙ ap (judged place bytes) (flaw_rest bytes w.enough w.sound ∙ rest_none bytes w.fits w.full)
    ∙ ap (λ (p : Pdu). Ok (Some p)) w.is

pub first_flawed : (place : ℕ) (bytes : List ℕ) (flaw : Flaw) → 0 < length bytes → pdu_flaw bytes ≡ Some flaw → first_pdu place bytes ≡ Err (fault_of flaw place)
first_flawed place bytes flaw some is = judged_first place bytes some ∙ ap (judged place bytes) is

pub first_none : (place : ℕ) → first_pdu place [] ≡ Ok None
unfolding first_pdu
first_none place = refl
