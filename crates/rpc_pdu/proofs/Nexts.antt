-- What a call does to a reader, from what it took and found.
use Rattle.std.proofs.Common.{◌≡◌, ℕ, ◌+◌, ◌<◌, ◌≤◌, Bool, true, false, List, [], ◌++◌, length, Option, Some, Ok, Err, sym, ◌∙◌, ap, arith, length-append, subst}
use Rattle.std.proofs.lemmas.Bool.{lt-ltb, le-ltb, cond-true, cond-false}
use Rattle.edge_traits.specs.Wire.{Entry, WireTook}
use Rattle.rpc_pdu.specs.declared.fault.Flaw.{Flaw}
use Rattle.rpc_pdu.specs.declared.fault.Flaw.TheVariants.{Torn}
use Rattle.rpc_pdu.specs.declared.fault.PduFault.{PduFault}
use Rattle.rpc_pdu.specs.declared.fault.PduFault.TheVariants as fault
use Rattle.rpc_pdu.specs.declared.header.Header.{Header}
use Rattle.rpc_pdu.specs.declared.pdu.Pdu.{Pdu}
use Rattle.rpc_pdu.specs.Fill.{IsAtEnd, WireFailed}
use Rattle.rpc_pdu.specs.Header.{header_flaw, header_of}
use Rattle.rpc_pdu.specs.Pdu.{fault_of, pdu_len}
use Rattle.rpc_pdu.specs.Reader.{Nexts, Reader, Takes, called}
use Rattle.rpc_pdu.proofs.Flaws.{first_flawed, flaw_cut, header_stays}
use Rattle.rpc_pdu.proofs.Reading.{shows_header, takes_more, took_by}

called_before : (taken : List ℕ) (before : Option ℕ) → length taken < 16 → called taken before ≡ before
called_before taken before few = cond-true _ _ _ (lt-ltb (length taken) 16 few)

called_now : (taken : List ℕ) (before : Option ℕ) (call : ℕ) → 16 ≤ length taken → (header_of taken).call_id ≡ call → called taken before ≡ Some call
called_now taken before call enough is = cond-false _ _ _ (le-ltb (length taken) 16 enough) ∙ ap Some is

-- the session ended in the header
pub next_torn : (place : ℕ) (taken : List ℕ) (old : Reader) (is_open : Bool) (told now : Option (List Entry))
    → place ≡ old.place → length taken < 16 → 0 < length taken → WireTook taken told now → (is_open ≡ false → taken ≡ []) → IsAtEnd is_open now
    → Nexts (Err (fault.Torn place)) old (record { alive = false; place = old.place; last_call = old.last_call }) is_open told now
next_torn place taken old is_open told now at few some took closed ended =
    subst (λ (p : ℕ). Nexts (Err (fault.Torn p)) old (record { alive = false; place = old.place; last_call = old.last_call }) is_open told now) (sym at) (record {
      takes = record {
        taken = taken;
        took = took;
        closed = closed;
        shows = (first_flawed old.place taken Torn some (flaw_cut taken few), ended);
      };
      reader = ap (λ (c : Option ℕ). record old { alive = false; last_call = c }) (sym (called_before taken old.last_call few));
    })

-- a read failed in the header
pub next_failed : (taken : List ℕ) (old : Reader) (is_open : Bool) (told now : Option (List Entry))
    → length taken < 16 → WireFailed taken told now → (is_open ≡ false → taken ≡ []) → is_open ≡ true
    → Nexts (Err fault.ReadFault) old (record { alive = false; place = old.place; last_call = old.last_call }) is_open told now
next_failed taken old is_open told now few failed closed opened = record {
  takes = record { taken = taken; took = failed; closed = closed; shows = (flaw_cut taken few, opened) };
  reader = ap (λ (c : Option ℕ). record old { alive = false; last_call = c }) (sym (called_before taken old.last_call few));
}

-- the header is at fault
pub next_flawed : (flaw : Flaw) (wrong : PduFault) (place call : ℕ) (taken : List ℕ) (old : Reader) (is_open : Bool) (told now : Option (List Entry))
    → wrong ≡ fault_of flaw place → place ≡ old.place → length taken ≡ 16 → header_flaw (header_of taken) ≡ Some flaw → (header_of taken).call_id ≡ call
    → WireTook taken told now → (is_open ≡ false → taken ≡ [])
    → Nexts (Err wrong) old (record { alive = false; place = place; last_call = Some call }) is_open told now
next_flawed flaw wrong place call taken old is_open told now is at sixteen here id took closed =
    subst (λ (w : PduFault). Nexts (Err w) old (record { alive = false; place = place; last_call = Some call }) is_open told now) (sym is)
    (subst (λ (p : ℕ). Nexts (Err (fault_of flaw p)) old (record { alive = false; place = p; last_call = Some call }) is_open told now) (sym at) (record {
      takes = record {
        taken = taken;
        took = took_by flaw old.place taken told now took;
        closed = closed;
        shows = shows_header flaw old.place taken is_open now sixteen here;
      };
      reader = ap (λ (c : Option ℕ). record old { alive = false; last_call = c }) (sym (called_now taken old.last_call call (omega (arith, sixteen)) id));
    }))

-- what was found behind the header is a fault
pub next_wrong : (wrong : PduFault) (place call : ℕ) (head : List ℕ) (old : Reader) (is_open : Bool) (told mid now : Option (List Entry))
    → place ≡ old.place → length head ≡ 16 → (header_of head).call_id ≡ call → WireTook head told mid → (is_open ≡ false → head ≡ [])
    → Takes (Err wrong) place head is_open mid now
    → Nexts (Err wrong) old (record { alive = false; place = place; last_call = Some call }) is_open told now
unfolding takes_more
next_wrong wrong place call head old is_open told mid now at sixteen id took closed rest =
    let there = subst (λ (p : ℕ). Takes (Err wrong) p head is_open mid now) at rest in
    let all = takes_more (Err wrong) old.place head is_open told mid now took closed there in
    let enough : 16 ≤ length (head ++ there.taken) = omega (arith, sixteen, length-append head there.taken) in
    let same : (header_of (head ++ there.taken)).call_id ≡ call = ap (λ (h : Header). h.call_id) (header_stays head there.taken (omega (arith, sixteen))) ∙ id in
    subst (λ (p : ℕ). Nexts (Err wrong) old (record { alive = false; place = p; last_call = Some call }) is_open told now) (sym at) (record {
      takes = all;
      reader = ap (λ (c : Option ℕ). record old { alive = false; last_call = c }) (sym (called_now (head ++ there.taken) old.last_call call enough same));
    })

-- a whole PDU was found
pub next_pdu : (pdu : Pdu) (alive : Bool) (place len call : ℕ) (last : Option ℕ) (head : List ℕ) (old : Reader) (is_open : Bool) (told mid now : Option (List Entry))
    → record { alive = alive; place = place; last_call = last } ≡ old → pdu.call_id ≡ call → pdu_len pdu ≡ len
    → WireTook head told mid → (is_open ≡ false → head ≡ []) → Takes (Ok (Some pdu)) place head is_open mid now
    → Nexts (Ok (Some pdu)) old (record { alive = alive; place = place + len; last_call = Some call }) is_open told now
next_pdu pdu alive place len call last head old is_open told mid now view id size took closed rest =
    let make : Reader → Type 0 = λ r. Nexts (Ok (Some pdu)) r (record { alive = alive; place = place + len; last_call = Some call }) is_open told now in
    subst make view (record {
      takes = takes_more (Ok (Some pdu)) place head is_open told mid now took closed rest;
      reader = λ i. record { alive = alive; place = place + sym size i; last_call = Some (sym id i) };
    })
