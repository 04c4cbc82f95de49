-- Bytes that are cut into PDUs, and the first fault in them.
use Rattle.std.proofs.Common.{◌≡◌, ◌⊎◌, ℕ, zero, suc, ◌+◌, ◌<◌, ◌≤◌, List, [], ◌∷◌, ◌++◌, length, take, drop, Option, Some, None, Result, Ok, Err, refl, sym, ◌∙◌, ap, inl, inr, arith, append_assoc, length-append, length-drop, subst}
use Rattle.std.proofs.lemmas.List.{drop-append-le, length-take-le, nil_from_length, take-append-drop}
use Rattle.rpc_pdu.specs.declared.fault.Flaw.{Flaw}
use Rattle.rpc_pdu.specs.declared.fault.Flaw.TheVariants.{BadBody, Torn}
use Rattle.rpc_pdu.specs.declared.fault.PduFault.{PduFault}
use Rattle.rpc_pdu.specs.declared.fault.PduFault.TheVariants as fault
use Rattle.rpc_pdu.specs.declared.header.Header.{Header}
use Rattle.rpc_pdu.specs.declared.pdu.Pdu.{Pdu}
use Rattle.rpc_pdu.specs.Header.{header_flaw, header_of}
use Rattle.rpc_pdu.specs.Pdu.{body_of, fault_of, first_pdu, judged, need, pdu_flaw, pdu_len, pdu_of}
use Rattle.rpc_pdu.specs.Stream.{FaultAt, PdusAre}
use Rattle.rpc_pdu.proofs.Flaws.{IsWhole, cut, wrong, torn, short, whole, body_len, body_stays, first_none, first_flawed, first_whole, flaw_stays, header_bounds, header_stays, stands, whole_stays}

ok_not_err : {A B : Type 0} (a : A) (b : B) → ◌≡◌ {A = Result A B} (Ok a) (Err b) → ⊥
ok_not_err a b same = cc

none_not_pdu : (pdu : Pdu) → ◌≡◌ {A = Result (Option Pdu) PduFault} (Ok None) (Ok (Some pdu)) → ⊥
none_not_pdu pdu same = cc

same_pdu : (a b : Pdu) → ◌≡◌ {A = Result (Option Pdu) PduFault} (Ok (Some a)) (Ok (Some b)) → a ≡ b
same_pdu a b same = cc

same_err : (a b : PduFault) → ◌≡◌ {A = Result (Option Pdu) PduFault} (Err a) (Err b) → a ≡ b
same_err a b same = cc

-- bytes that begin with a PDU or a fault are some
some_bytes : (place : ℕ) (bytes : List ℕ) → (first_pdu place bytes ≡ Ok None → ⊥) → 0 < length bytes
some_bytes place [] not_none = absurd (not_none (first_none place))
some_bytes place (byte ∷ bytes) not_none = omega arith

-- a PDU that stands first is whole
pub whole_of : (place : ℕ) (bytes : List ℕ) (pdu : Pdu) → first_pdu place bytes ≡ Ok (Some pdu) → IsWhole bytes pdu
whole_of place bytes pdu is =
    let some = some_bytes place bytes (λ none. none_not_pdu pdu (sym none ∙ is)) in
    elim (stands bytes) [
      | cut few flawed ↦ absurd (ok_not_err (Some pdu) (fault_of Torn place) (sym is ∙ first_flawed place bytes Torn some flawed))
      | wrong f enough here flawed ↦ absurd (ok_not_err (Some pdu) (fault_of f place) (sym is ∙ first_flawed place bytes f some flawed))
      | torn enough sound few flawed ↦ absurd (ok_not_err (Some pdu) (fault_of Torn place) (sym is ∙ first_flawed place bytes Torn some flawed))
      | short enough sound fits lacks flawed ↦ absurd (ok_not_err (Some pdu) (fault_of BadBody place) (sym is ∙ first_flawed place bytes BadBody some flawed))
      | whole enough sound fits full none ↦
          let here : pdu_of bytes ≡ pdu_of bytes = refl in
          let size : pdu_len (pdu_of bytes) ≡ (header_of bytes).fragment_len = omega (arith, body_len bytes fits, (header_bounds (header_of bytes) sound).0) in
          let first = first_whole place bytes (pdu_of bytes) (record { enough = enough; sound = sound; fits = fits; full = full; is = here; len = size }) in
          let same = same_pdu (pdu_of bytes) pdu (sym first ∙ is) in
          record { enough = enough; sound = sound; fits = fits; full = full; is = same; len = ap pdu_len (sym same) ∙ size }
    ]

pub len_within : (place : ℕ) (bytes : List ℕ) (pdu : Pdu) → first_pdu place bytes ≡ Ok (Some pdu) → pdu_len pdu ≤ length bytes
len_within place bytes pdu is = let w = whole_of place bytes pdu is in omega (arith, w.len, w.fits)

pub pdu_stays : (place : ℕ) (bytes more : List ℕ) (pdu : Pdu) → first_pdu place bytes ≡ Ok (Some pdu) → first_pdu place (bytes ++ more) ≡ Ok (Some pdu)
pdu_stays place bytes more pdu is = first_whole place (bytes ++ more) pdu (whole_stays bytes more pdu (whole_of place bytes pdu is))

-- where a PDU begins doesn't change it
pub at_any_place : (place other : ℕ) (bytes : List ℕ) (pdu : Pdu) → first_pdu place bytes ≡ Ok (Some pdu) → first_pdu other bytes ≡ Ok (Some pdu)
at_any_place place other bytes pdu is = first_whole other bytes pdu (whole_of place bytes pdu is)

-- a fault is that of a flaw
pub record FlawOf (place : ℕ) (bytes : List ℕ) (wrong : PduFault) : Type 0 where
  pub flaw : Flaw
  pub some : 0 < length bytes
  pub here : pdu_flaw bytes ≡ Some flaw
  pub is : wrong ≡ fault_of flaw place

pub flaw_of : (place : ℕ) (bytes : List ℕ) (w : PduFault) → first_pdu place bytes ≡ Err w → FlawOf place bytes w
flaw_of place bytes w is =
    let some = some_bytes place bytes (λ none. ok_not_err None w (sym none ∙ is)) in
    elim (stands bytes) [
      | cut few flawed ↦ record { flaw = Torn; some = some; here = flawed; is = same_err w (fault_of Torn place) (sym is ∙ first_flawed place bytes Torn some flawed) }
      | wrong f enough here flawed ↦ record { flaw = f; some = some; here = flawed; is = same_err w (fault_of f place) (sym is ∙ first_flawed place bytes f some flawed) }
      | torn enough sound few flawed ↦ record { flaw = Torn; some = some; here = flawed; is = same_err w (fault_of Torn place) (sym is ∙ first_flawed place bytes Torn some flawed) }
      | short enough sound fits lacks flawed ↦ record { flaw = BadBody; some = some; here = flawed; is = same_err w (fault_of BadBody place) (sym is ∙ first_flawed place bytes BadBody some flawed) }
      | whole enough sound fits full none ↦
          let size : pdu_len (pdu_of bytes) ≡ (header_of bytes).fragment_len = omega (arith, body_len bytes fits, (header_bounds (header_of bytes) sound).0) in
          let first = first_whole place bytes (pdu_of bytes) (record { enough = enough; sound = sound; fits = fits; full = full; is = refl; len = size }) in
          absurd (ok_not_err (Some (pdu_of bytes)) w (sym first ∙ is))
    ]

pub fault_stays : (place : ℕ) (bytes more : List ℕ) (w : PduFault) → first_pdu place bytes ≡ Err w → (w ≡ fault.Torn place → ⊥)
    → first_pdu place (bytes ++ more) ≡ Err w
fault_stays place bytes more w is not_torn =
    let f = flaw_of place bytes w is in
    let stays = flaw_stays bytes more f.flaw (λ torn. not_torn (f.is ∙ ap (λ (x : Flaw). fault_of x place) torn)) f.here in
    first_flawed place (bytes ++ more) f.flaw (omega (arith, f.some, length-append bytes more)) stays ∙ ap Err (sym f.is)

-- bytes are cut in one way
pub one_cut : (place : ℕ) (bytes : List ℕ) (pdus others : List Pdu) → PdusAre place pdus bytes → PdusAre place others bytes → pdus ≡ others
one_cut place bytes [] [] first next = refl
one_cut place bytes [] (q ∷ qs) first next = absurd (none_not_pdu q (sym (first_none place) ∙ ap (first_pdu place) (sym first) ∙ next.0))
one_cut place bytes (p ∷ ps) [] first next = absurd (none_not_pdu p (sym (first_none place) ∙ ap (first_pdu place) (sym next) ∙ first.0))
one_cut place bytes (p ∷ ps) (q ∷ qs) first next =
    let same : p ≡ q = same_pdu p q (sym first.0 ∙ next.0) in
    let behind = subst (λ (x : Pdu). PdusAre (place + pdu_len x) qs (drop (pdu_len x) bytes)) (sym same) next.1 in
    let rest = one_cut (place + pdu_len p) (drop (pdu_len p) bytes) ps qs first.1 behind in
    λ i. same i ∷ rest i

at_place : (place other : ℕ) (pdus : List Pdu) (bytes : List ℕ) → place ≡ other → PdusAre place pdus bytes → PdusAre other pdus bytes
at_place place other pdus bytes same are = subst (λ (p : ℕ). PdusAre p pdus bytes) same are

-- the bytes of some PDUs and of more
pub joined : (place : ℕ) (bytes more : List ℕ) (pdus others : List Pdu) → PdusAre place pdus bytes → PdusAre (place + length bytes) others more
    → PdusAre place (pdus ++ others) (bytes ++ more)
joined place bytes more [] others first next =
    let none : place + length bytes ≡ place = omega (arith, ap length first) in
    subst (λ (l : List ℕ). PdusAre place others (l ++ more)) (sym first) (at_place _ _ others more none next)
joined place bytes more (p ∷ ps) others first next =
    let within = len_within place bytes p first.0 in
    let there : place + length bytes ≡ (place + pdu_len p) + length (drop (pdu_len p) bytes) = omega (arith, within, length-drop (pdu_len p) bytes) in
    let rest = joined (place + pdu_len p) (drop (pdu_len p) bytes) more ps others first.1 (at_place _ _ others more there next) in (
      pdu_stays place bytes more p first.0,
      subst (λ (l : List ℕ). PdusAre (place + pdu_len p) (ps ++ others) l) (sym (drop-append-le (pdu_len p) bytes more within)) rest,
    )

-- one PDU alone
pub one_pdu : (place : ℕ) (bytes : List ℕ) (pdu : Pdu) → length bytes ≡ pdu_len pdu → first_pdu place bytes ≡ Ok (Some pdu) → PdusAre place (pdu ∷ []) bytes
one_pdu place bytes pdu size is = (is, nil_from_length (drop (pdu_len pdu) bytes) (omega (arith, size, length-drop (pdu_len pdu) bytes)))

-- behind the PDUs that stand first, place and bytes go on
behind_pdu : (place : ℕ) (front rest : List ℕ) (p : Pdu) → first_pdu place front ≡ Ok (Some p)
    → ((place + pdu_len p) + length (drop (pdu_len p) front) ≡ place + length front) × (drop (pdu_len p) (front ++ rest) ≡ drop (pdu_len p) front ++ rest)
behind_pdu place front rest p is =
    let within = len_within place front p is in
    (omega (arith, within, length-drop (pdu_len p) front), drop-append-le (pdu_len p) front rest within)

fault_at : (place other : ℕ) (bytes : List ℕ) (w : PduFault) → place ≡ other → first_pdu place bytes ≡ Err w → first_pdu other bytes ≡ Err w
fault_at place other bytes w same is = subst (λ (p : ℕ). first_pdu p bytes ≡ Err w) same is

-- what is behind no PDU at all
behind_none : (place : ℕ) (front rest : List ℕ) (w : PduFault) → front ≡ [] → first_pdu (place + length front) rest ≡ Err w → first_pdu place (front ++ rest) ≡ Err w
behind_none place front rest w none is =
    let here : place + length front ≡ place = omega (arith, ap length none) in
    ap (λ (l : List ℕ). first_pdu place (l ++ rest)) none ∙ fault_at _ _ rest w here is

same_fault :
    (place : ℕ) (pdus others : List Pdu) (front rest front' rest' : List ℕ) (w v : PduFault)
    → front ++ rest ≡ front' ++ rest' → PdusAre place pdus front → PdusAre place others front'
    → first_pdu (place + length front) rest ≡ Err w → first_pdu (place + length front') rest' ≡ Err v → w ≡ v
same_fault place [] [] front rest front' rest' w v same_bytes first next here there =
    same_err w v (sym (behind_none place front rest w first here) ∙ ap (first_pdu place) same_bytes ∙ behind_none place front' rest' v next there)
same_fault place [] (q ∷ qs) front rest front' rest' w v same_bytes first next here there =
    absurd (ok_not_err (Some q) w (sym (pdu_stays place front' rest' q next.0) ∙ ap (first_pdu place) (sym same_bytes) ∙ behind_none place front rest w first here))
same_fault place (p ∷ ps) [] front rest front' rest' w v same_bytes first next here there =
    absurd (ok_not_err (Some p) v (sym (pdu_stays place front rest p first.0) ∙ ap (first_pdu place) same_bytes ∙ behind_none place front' rest' v next there))
same_fault place (p ∷ ps) (q ∷ qs) front rest front' rest' w v same_bytes first next here there =
    let same : p ≡ q = same_pdu p q (sym (pdu_stays place front rest p first.0) ∙ ap (first_pdu place) same_bytes ∙ pdu_stays place front' rest' q next.0) in
    let other : first_pdu place front' ≡ Ok (Some p) = next.0 ∙ ap (λ (x : Pdu). Ok (Some x)) (sym same) in
    let mine = behind_pdu place front rest p first.0 in
    let yours = behind_pdu place front' rest' p other in
    same_fault (place + pdu_len p) ps qs (drop (pdu_len p) front) rest (drop (pdu_len p) front') rest' w v
    (sym mine.1 ∙ ap (λ (l : List ℕ). drop (pdu_len p) l) same_bytes ∙ yours.1) first.1
    (subst (λ (x : Pdu). PdusAre (place + pdu_len x) qs (drop (pdu_len x) front')) (sym same) next.1)
    (fault_at _ _ rest w (sym mine.0) here) (fault_at _ _ rest' v (sym yours.0) there)

pub one_fault : (bytes : List ℕ) (w v : PduFault) → FaultAt bytes w → FaultAt bytes v → w ≡ v
one_fault bytes w v first next =
    same_fault 0 first.pdus next.pdus first.front first.rest next.front next.rest w v (sym first.cut ∙ next.cut) first.before next.before
    (fault_at _ _ first.rest w (omega arith) first.here) (fault_at _ _ next.rest v (omega arith) next.here)

nothing_behind : (front rest : List ℕ) → front ++ rest ≡ [] → rest ≡ []
nothing_behind front rest none = nil_from_length rest (omega (arith, ap length none, length-append front rest))

-- PDUs and nothing else have no fault
no_fault_in :
    (place : ℕ) (pdus others : List Pdu) (front rest : List ℕ) (w : PduFault)
    → PdusAre place pdus (front ++ rest) → PdusAre place others front → first_pdu (place + length front) rest ≡ Err w → ⊥
no_fault_in place [] others front rest w all before here =
    ok_not_err None w (sym (first_none (place + length front)) ∙ ap (first_pdu (place + length front)) (sym (nothing_behind front rest all)) ∙ here)
no_fault_in place (p ∷ ps) [] front rest w all before here = ok_not_err (Some p) w (sym all.0 ∙ behind_none place front rest w before here)
no_fault_in place (p ∷ ps) (q ∷ qs) front rest w all before here =
    let same : p ≡ q = same_pdu p q (sym all.0 ∙ pdu_stays place front rest q before.0) in
    let other : first_pdu place front ≡ Ok (Some p) = before.0 ∙ ap (λ (x : Pdu). Ok (Some x)) (sym same) in
    let behind = behind_pdu place front rest p other in
    no_fault_in (place + pdu_len p) ps qs (drop (pdu_len p) front) rest w
    (subst (λ (l : List ℕ). PdusAre (place + pdu_len p) ps l) behind.1 all.1)
    (subst (λ (x : Pdu). PdusAre (place + pdu_len x) qs (drop (pdu_len x) front)) (sym same) before.1)
    (fault_at _ _ rest w (sym behind.0) here)

pub no_fault : (bytes : List ℕ) (pdus : List Pdu) (w : PduFault) → PdusAre 0 pdus bytes → FaultAt bytes w → ⊥
no_fault bytes pdus w all is =
    no_fault_in 0 pdus is.pdus is.front is.rest w (subst (λ (l : List ℕ). PdusAre 0 pdus l) is.cut all) is.before
    (fault_at _ _ is.rest w (omega arith) is.here)

-- a PDU that stands first is that of its own bytes alone
own_bytes : (place : ℕ) (bytes : List ℕ) (pdu : Pdu) → first_pdu place bytes ≡ Ok (Some pdu) → first_pdu place (take (pdu_len pdu) bytes) ≡ Ok (Some pdu)
own_bytes place bytes pdu is =
    let w = whole_of place bytes pdu is in
    let own = take (pdu_len pdu) bytes in
    let all = take-append-drop (pdu_len pdu) bytes in
    let size : length own ≡ pdu_len pdu = length-take-le (pdu_len pdu) bytes (len_within place bytes pdu is) in
    let enough : 16 ≤ length own = omega (arith, size) in
    let header : header_of own ≡ header_of bytes = sym (header_stays own (drop (pdu_len pdu) bytes) enough) ∙ ap header_of all in
    let same = ap (λ (h : Header). h.fragment_len) header in
    let fits : (header_of own).fragment_len ≤ length own = omega (arith, same, w.len, size) in
    let body : body_of own ≡ body_of bytes = sym (body_stays own (drop (pdu_len pdu) bytes) enough fits) ∙ ap body_of all in
    let needed : need (header_of own) (body_of own) ≡ need (header_of bytes) (body_of bytes) =
    ap (λ (h : Header). need h (body_of own)) header ∙ ap (λ (l : List ℕ). need (header_of bytes) l) body in
    let kind = ap (λ (h : Header). h.kind) header in
    let flags = ap (λ (h : Header). h.flags) header in
    let call = ap (λ (h : Header). h.call_id) header in
    let made : pdu_of own ≡ pdu_of bytes = λ i. record { kind = kind i; flags = flags i; call_id = call i; body = body i } in
    first_whole place own pdu (record {
      enough = enough;
      sound = ap header_flaw header ∙ w.sound;
      fits = fits;
      full = omega (arith, ap length body, needed, w.full);
      is = made ∙ w.is;
      len = w.len ∙ sym same;
    })

-- What bytes from a place on are: PDUs and nothing else, or PDUs and then a first fault.
data CutFrom (place : ℕ) (bytes : List ℕ) : Type 0 where
  alone : (pdus : List Pdu) → PdusAre place pdus bytes → CutFrom place bytes
  faulty : (pdus : List Pdu) (front rest : List ℕ) (w : PduFault) → bytes ≡ front ++ rest → PdusAre place pdus front
      → first_pdu (place + length front) rest ≡ Err w → CutFrom place bytes

-- a PDU more before them
cut_behind : (place : ℕ) (bytes : List ℕ) (p : Pdu) → first_pdu place bytes ≡ Ok (Some p) → CutFrom (place + pdu_len p) (drop (pdu_len p) bytes) → CutFrom place bytes
cut_behind place bytes p is (alone ps are) = alone (p ∷ ps) (is, are)
cut_behind place bytes p is (faulty ps front rest w goes before here) =
    let own = take (pdu_len p) bytes in
    let size : length own ≡ pdu_len p = length-take-le (pdu_len p) bytes (len_within place bytes p is) in
    let behind = at_place (place + pdu_len p) (place + length own) ps front (omega (arith, size)) before in
    faulty (p ∷ ps) (own ++ front) rest w
    (sym (take-append-drop (pdu_len p) bytes) ∙ ap (λ (l : List ℕ). own ++ l) goes ∙ sym (append_assoc own front rest))
    (joined place own front (p ∷ []) ps (one_pdu place own p size (own_bytes place bytes p is)) behind)
    (fault_at _ _ rest w (omega (arith, size, length-append own front)) here)

not_none : (place : ℕ) (bytes : List ℕ) (flaw : Option Flaw) → judged place bytes flaw ≡ Ok None → ⊥
not_none place bytes None is = cc
not_none place bytes (Some flaw) is = cc

no_bytes : (place : ℕ) (bytes : List ℕ) → first_pdu place bytes ≡ Ok None → bytes ≡ []
unfolding first_pdu
no_bytes place [] is = refl
no_bytes place (byte ∷ bytes) is = absurd (not_none place (byte ∷ bytes) (pdu_flaw (byte ∷ bytes)) is)

cut_by : (place : ℕ) (bytes : List ℕ) (answer : Result (Option Pdu) PduFault) → first_pdu place bytes ≡ answer
    → ((p : Pdu) → first_pdu place bytes ≡ Ok (Some p) → CutFrom (place + pdu_len p) (drop (pdu_len p) bytes)) → CutFrom place bytes
cut_by place bytes (Ok None) is behind = alone [] (no_bytes place bytes is)
cut_by place bytes (Ok (Some p)) is behind = cut_behind place bytes p is (behind p is)
cut_by place bytes (Err w) is behind = faulty [] [] bytes w refl refl (fault_at _ _ bytes w (omega arith) is)

cut_from : (turns place : ℕ) (bytes : List ℕ) → length bytes ≤ turns → CutFrom place bytes
cut_from zero place bytes most = alone [] (nil_from_length bytes (omega (arith, most)))
cut_from (suc turns) place bytes most =
    cut_by place bytes (first_pdu place bytes) refl
    (λ p is. cut_from turns (place + pdu_len p) (drop (pdu_len p) bytes) (omega (arith, most, length-drop (pdu_len p) bytes)))

-- bytes are PDUs, or have a first fault
pub pdus_or_fault : (bytes : List ℕ) → ((pdus : List Pdu) × PdusAre 0 pdus bytes) ⊎ ((w : PduFault) × FaultAt bytes w)
pdus_or_fault bytes =
    elim (cut_from (length bytes) 0 bytes (omega arith)) [
      | alone pdus are ↦ inl (pdus, are)
      | faulty pdus front rest w goes before here ↦
          inr (
            w,
            record {
              pdus = pdus;
              front = front;
              rest = rest;
              cut = goes;
              before = before;
              here = fault_at _ _ rest w (omega arith) here;
            },
          )
    ]
