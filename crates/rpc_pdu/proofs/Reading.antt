-- What a call of a reader takes and finds, from what was filled.
use Rattle.std.proofs.Common.{◌≡◌, ℕ, ◌+◌, ◌-◌, ◌<◌, ◌≤◌, Bool, false, List, [], ◌++◌, length, take, drop, Option, Some, None, Result, Ok, Err, sym, ◌∙◌, ap, arith, length-append}
use Rattle.std.proofs.lemmas.List.{drop_at, take_all}
use Rattle.edge_traits.specs.Wire.{Entry, WireTook}
use Rattle.rpc_pdu.specs.declared.fault.Flaw.{Flaw}
use Rattle.rpc_pdu.specs.declared.fault.Flaw.TheVariants.{BadVersion, BadType, BadFragment, BadDrep, BadLength, BadAuth, BadBody, Torn}
use Rattle.rpc_pdu.specs.declared.fault.PduFault.{PduFault}
use Rattle.rpc_pdu.specs.declared.fault.PduFault.TheVariants as fault
use Rattle.rpc_pdu.specs.declared.header.Header.{Header}
use Rattle.rpc_pdu.specs.declared.pdu.Pdu.{Pdu}
use Rattle.rpc_pdu.specs.Header.{header_flaw, header_of}
use Rattle.rpc_pdu.specs.Pdu.{body_of, fault_of, first_pdu, need, pdu_flaw, pdu_len, pdu_of}
use Rattle.rpc_pdu.specs.Reader.{Shows, Takes, TookBy}
use Rattle.rpc_pdu.proofs.Flaws.{first_flawed, first_whole, flaw_header, flaw_rest, header_not_short, header_not_torn, header_stays, rest_short, rest_torn}
use Rattle.rpc_pdu.proofs.Wires.{failed_more, took_both}

-- Behind a header in order: the bytes so far, of which these stand behind the header.
module _ (head part : List ℕ) (h : Header) (sixteen : length head ≡ 16) (is : header_of head ≡ h) (sound : header_flaw h ≡ None) where
  size : length (head ++ part) ≡ 16 + length part
  size = omega (arith, length-append head part, sixteen)

  pub header_is : header_of (head ++ part) ≡ h
  header_is = header_stays head part (omega (arith, sixteen)) ∙ is

  pub fragment_is : (header_of (head ++ part)).fragment_len ≡ h.fragment_len
  fragment_is = ap (λ (x : Header). x.fragment_len) header_is

  sound_too : header_flaw (header_of (head ++ part)) ≡ None
  sound_too = ap header_flaw header_is ∙ sound

  -- fewer bytes than the header says
  pub torn_behind : length part + 16 < h.fragment_len → pdu_flaw (head ++ part) ≡ Some Torn
  torn_behind few =
      flaw_rest (head ++ part) (omega (arith, size)) sound_too ∙ rest_torn (head ++ part) (omega (arith, few, size, fragment_is))

  pub first_torn : (place : ℕ) → length part + 16 < h.fragment_len → first_pdu place (head ++ part) ≡ Err (fault.Torn place)
  first_torn place few = first_flawed place (head ++ part) Torn (omega (arith, size)) (torn_behind few)

  -- as many bytes as the header says
  pub whole_len : length part + 16 ≡ h.fragment_len → length (head ++ part) ≡ (header_of (head ++ part)).fragment_len
  whole_len all = omega (arith, all, size, fragment_is)

  pub body_is : length part + 16 ≡ h.fragment_len → body_of (head ++ part) ≡ part
  body_is all =
      let count : (header_of (head ++ part)).fragment_len - 16 ≡ length part = omega (arith, all, fragment_is) in
      ap (λ (k : ℕ). take k (drop 16 (head ++ part))) count
      ∙ ap (λ (l : List ℕ). take (length part) l) (drop_at head part 16 sixteen)
      ∙ take_all (length part) part (omega arith)

  need_is : length part + 16 ≡ h.fragment_len → need (header_of (head ++ part)) (body_of (head ++ part)) ≡ need h part
  need_is all =
      ap (λ (x : Header). need x (body_of (head ++ part))) header_is ∙ ap (λ (l : List ℕ). need h l) (body_is all)

  pub first_short : (place : ℕ) → length part + 16 ≡ h.fragment_len → length part < need h part → first_pdu place (head ++ part) ≡ Err (fault.BadBody place)
  first_short place all lacks =
      first_flawed place (head ++ part) BadBody (omega (arith, size))
      (flaw_rest (head ++ part) (omega (arith, size)) sound_too
      ∙ rest_short (head ++ part) (omega (arith, whole_len all)) (omega (arith, ap length (body_is all), need_is all, lacks)))

  pub first_whole_behind : (place : ℕ) (pdu : Pdu) → length part + 16 ≡ h.fragment_len → need h part ≤ length part
      → pdu ≡ record { kind = h.kind; flags = h.flags; call_id = h.call_id; body = part } → first_pdu place (head ++ part) ≡ Ok (Some pdu)
  first_whole_behind place pdu all full same =
      let kind = ap (λ (x : Header). x.kind) header_is in
      let flags = ap (λ (x : Header). x.flags) header_is in
      let call = ap (λ (x : Header). x.call_id) header_is in
      let body = body_is all in
      let made : pdu_of (head ++ part) ≡ record { kind = h.kind; flags = h.flags; call_id = h.call_id; body = part } =
      λ i. record { kind = kind i; flags = flags i; call_id = call i; body = body i } in
      first_whole place (head ++ part) pdu (record {
        enough = omega (arith, size);
        sound = sound_too;
        fits = omega (arith, whole_len all);
        full = omega (arith, ap length (body_is all), need_is all, full);
        is = made ∙ sym same;
        len = omega (arith, ap (λ (p : Pdu). pdu_len p) same, all, fragment_is);
      })

shows_as : (flaw : Flaw) (place : ℕ) (taken : List ℕ) (is_open : Bool) (now : Option (List Entry)) → length taken ≡ 16 → header_flaw (header_of taken) ≡ Some flaw
    → first_pdu place taken ≡ Err (fault_of flaw place) → Shows (Err (fault_of flaw place)) place taken is_open now
shows_as BadVersion place taken is_open now sixteen is first = record { header = sixteen; shows = first }
shows_as BadType place taken is_open now sixteen is first = record { header = sixteen; shows = first }
shows_as BadFragment place taken is_open now sixteen is first = record { header = sixteen; shows = first }
shows_as BadDrep place taken is_open now sixteen is first = record { header = sixteen; shows = first }
shows_as BadLength place taken is_open now sixteen is first = record { header = sixteen; shows = first }
shows_as BadAuth place taken is_open now sixteen is first = record { header = sixteen; shows = first }
shows_as BadBody place taken is_open now sixteen is first = absurd (header_not_short (header_of taken) is)
shows_as Torn place taken is_open now sixteen is first = absurd (header_not_torn (header_of taken) is)

-- what a header shows that is at fault
pub shows_header : (flaw : Flaw) (place : ℕ) (taken : List ℕ) (is_open : Bool) (now : Option (List Entry)) → length taken ≡ 16 → header_flaw (header_of taken) ≡ Some flaw
    → Shows (Err (fault_of flaw place)) place taken is_open now
shows_header flaw place taken is_open now sixteen is =
    let first = first_flawed place taken flaw (omega (arith, sixteen)) (flaw_header taken flaw (omega (arith, sixteen)) is) in
    shows_as flaw place taken is_open now sixteen is first

-- the fault of a flaw is no failed read
pub took_by : (flaw : Flaw) (place : ℕ) (taken : List ℕ) (old new : Option (List Entry)) → WireTook taken old new → TookBy (Err (fault_of flaw place)) taken old new
took_by BadVersion place taken old new took = took
took_by BadType place taken old new took = took
took_by BadFragment place taken old new took = took
took_by BadDrep place taken old new took = took
took_by BadLength place taken old new took = took
took_by BadAuth place taken old new took = took
took_by BadBody place taken old new took = took
took_by Torn place taken old new took = took

-- what was taken before is taken too
pub took_by_more : (answer : Result (Option Pdu) PduFault) (xs ys : List ℕ) (old mid new : Option (List Entry)) → WireTook xs old mid → TookBy answer ys mid new → TookBy answer (xs ++ ys) old new
took_by_more (Ok next) xs ys old mid new first took = took_both old mid new xs ys first took
took_by_more (Err (fault.BadVersion at)) xs ys old mid new first took = took_both old mid new xs ys first took
took_by_more (Err (fault.BadType at)) xs ys old mid new first took = took_both old mid new xs ys first took
took_by_more (Err (fault.BadFragment at)) xs ys old mid new first took = took_both old mid new xs ys first took
took_by_more (Err (fault.BadDrep at)) xs ys old mid new first took = took_both old mid new xs ys first took
took_by_more (Err (fault.BadLength at)) xs ys old mid new first took = took_both old mid new xs ys first took
took_by_more (Err (fault.BadAuth at)) xs ys old mid new first took = took_both old mid new xs ys first took
took_by_more (Err (fault.BadBody at)) xs ys old mid new first took = took_both old mid new xs ys first took
took_by_more (Err (fault.Torn at)) xs ys old mid new first took = took_both old mid new xs ys first took
took_by_more (Err fault.ReadFault) xs ys old mid new first took = failed_more old mid new xs ys first took

unfoldable pub takes_more : (answer : Result (Option Pdu) PduFault) (place : ℕ) (head : List ℕ) (is_open : Bool) (old mid new : Option (List Entry))
    → WireTook head old mid → (is_open ≡ false → head ≡ []) → Takes answer place head is_open mid new → Takes answer place [] is_open old new
takes_more answer place head is_open old mid new first closed t = record {
  taken = head ++ t.taken;
  took = took_by_more answer head t.taken old mid new first t.took;
  closed = λ is. ap (λ (l : List ℕ). l ++ t.taken) (closed is) ∙ t.closed is;
  shows = t.shows;
}
