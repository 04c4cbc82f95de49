-- What an answer of a reader says of the bytes of its session.
use Rattle.std.proofs.Common.{◌≡◌, ◌⊎◌, inl, inr, ℕ, ◌+◌, Bool, true, false, List, [], ◌∷◌, ◌++◌, length, Option, Some, None, Result, Ok, Err, refl, sym, ◌∙◌, ap, arith, length-append, append_assoc, subst}
use Rattle.std.specs.Prelude.{is_ok}
use Rattle.std.proofs.lemmas.List.{append-nil}
use Rattle.base_specs.specs.Told.{LastIs}
use Rattle.edge_traits.specs.Wire.{Entry, Session, NoMore, Failed, SessionIs, SessionTold, WireTook}
use Rattle.rpc_pdu.specs.declared.fault.PduFault.{PduFault}
use Rattle.rpc_pdu.specs.declared.fault.PduFault.TheVariants as fault
use Rattle.rpc_pdu.specs.declared.pdu.Pdu.{Pdu}
use Rattle.rpc_pdu.specs.Fill.{IsAtEnd, OpensNone, WireFailed}
use Rattle.rpc_pdu.specs.Pdu.{first_pdu}
use Rattle.rpc_pdu.specs.Reader.{Finds, HasRead, Leaves, Nexts, Reader, ReadsOn, Shows, TookBy, marked}
use Rattle.rpc_pdu.specs.Stream.{FaultAt, PdusAre}
use Rattle.rpc_pdu.proofs.Flaws.{first_none}
use Rattle.rpc_pdu.proofs.Cuts.{fault_stays, joined, one_pdu, pdu_stays}
use Rattle.rpc_pdu.proofs.Wires.{failed_opens_none, nothing_left, session_behind, session_failed, took_opens_none}

-- whether an answer is a failed read
read_fault_or_not : (wrong : PduFault) → (wrong ≡ fault.ReadFault) ⊎ (wrong ≡ fault.ReadFault → ⊥)
read_fault_or_not (fault.BadVersion at) = inr (λ same. cc)
read_fault_or_not (fault.BadType at) = inr (λ same. cc)
read_fault_or_not (fault.BadFragment at) = inr (λ same. cc)
read_fault_or_not (fault.BadDrep at) = inr (λ same. cc)
read_fault_or_not (fault.BadLength at) = inr (λ same. cc)
read_fault_or_not (fault.BadAuth at) = inr (λ same. cc)
read_fault_or_not (fault.BadBody at) = inr (λ same. cc)
read_fault_or_not (fault.Torn at) = inr (λ same. cc)
read_fault_or_not fault.ReadFault = inl refl

-- another fault took bytes, and no read failed
took_of : (wrong : PduFault) (taken : List ℕ) (old new : Option (List Entry)) → (wrong ≡ fault.ReadFault → ⊥) → TookBy (Err wrong) taken old new → WireTook taken old new
took_of (fault.BadVersion at) taken old new not_read took = took
took_of (fault.BadType at) taken old new not_read took = took
took_of (fault.BadFragment at) taken old new not_read took = took
took_of (fault.BadDrep at) taken old new not_read took = took
took_of (fault.BadLength at) taken old new not_read took = took
took_of (fault.BadAuth at) taken old new not_read took = took
took_of (fault.BadBody at) taken old new not_read took = took
took_of (fault.Torn at) taken old new not_read took = took
took_of fault.ReadFault taken old new not_read took = absurd (not_read refl)

-- The bytes taken show the fault, and more bytes would change it only where none is left.
record Shown (place : ℕ) (taken : List ℕ) (wrong : PduFault) (is_open : Bool) (now : Option (List Entry)) : Type 0 where
  first : first_pdu place taken ≡ Err wrong
  last : IsAtEnd is_open now ⊎ ((more : List ℕ) → first_pdu place (taken ++ more) ≡ Err wrong)

stays : (place : ℕ) (taken : List ℕ) (wrong : PduFault) (is_open : Bool) (now : Option (List Entry)) → first_pdu place taken ≡ Err wrong → (wrong ≡ fault.Torn place → ⊥)
    → Shown place taken wrong is_open now
stays place taken wrong is_open now first not_torn = record { first = first; last = inr (λ more. fault_stays place taken more wrong first not_torn) }

shown : (wrong : PduFault) (place : ℕ) (taken : List ℕ) (is_open : Bool) (now : Option (List Entry)) → (wrong ≡ fault.ReadFault → ⊥) → Shows (Err wrong) place taken is_open now
    → Shown place taken wrong is_open now
shown (fault.BadVersion at) place taken is_open now not_read shows = stays place taken _ is_open now shows.shows (λ same. cc)
shown (fault.BadType at) place taken is_open now not_read shows = stays place taken _ is_open now shows.shows (λ same. cc)
shown (fault.BadFragment at) place taken is_open now not_read shows = stays place taken _ is_open now shows.shows (λ same. cc)
shown (fault.BadDrep at) place taken is_open now not_read shows = stays place taken _ is_open now shows.shows (λ same. cc)
shown (fault.BadLength at) place taken is_open now not_read shows = stays place taken _ is_open now shows.shows (λ same. cc)
shown (fault.BadAuth at) place taken is_open now not_read shows = stays place taken _ is_open now shows.shows (λ same. cc)
shown (fault.BadBody at) place taken is_open now not_read shows = stays place taken _ is_open now shows.1 (λ same. cc)
shown (fault.Torn at) place taken is_open now not_read shows = record { first = shows.0; last = inl shows.1 }
shown fault.ReadFault place taken is_open now not_read shows = absurd (not_read refl)

-- the fault of all bytes that are left
fault_of_all : (place : ℕ) (taken rest : List ℕ) (wrong : PduFault) (is_open : Bool) (now : Option (List Entry)) → Shown place taken wrong is_open now → (IsAtEnd is_open now → rest ≡ [])
    → first_pdu place (taken ++ rest) ≡ Err wrong
fault_of_all place taken rest wrong is_open now s none =
    elim s.last [
      | inl ended ↦ ap (λ (l : List ℕ). first_pdu place (taken ++ l)) (none ended) ∙ ap (first_pdu place) (append-nil taken) ∙ s.first
      | inr more ↦ more rest
    ]

told_open :
    (answer : Result (Option Pdu) PduFault) (old new : Reader) (told now : Option (List Entry)) (earlier : List Entry) (session : SessionTold)
    → Nexts answer old new true told now → told ≡ Some (earlier ++ Session session ∷ []) → (answer ≡ Err fault.ReadFault → ⊥) → answer ≡ first_pdu old.place session.left
told_open (Ok (Some pdu)) old new told now earlier session nexts is not_read =
    let t = nexts.takes in
    let b = session_behind earlier session t.taken told now is t.took in
    sym (ap (first_pdu old.place) b.cut ∙ pdu_stays old.place t.taken b.after.left pdu t.shows.1)
told_open (Ok None) old new told now earlier session nexts is not_read =
    let t = nexts.takes in
    let b = session_behind earlier session t.taken told now is t.took in
    let none = nothing_left true earlier b.after now refl b.told t.shows.1 in
    let all : session.left ≡ [] = b.cut ∙ ap (λ (l : List ℕ). l ++ b.after.left) t.shows.0 ∙ none in
    sym (ap (first_pdu old.place) all ∙ first_none old.place)
told_open (Err wrong) old new told now earlier session nexts is not_read =
    let t = nexts.takes in
    let other : wrong ≡ fault.ReadFault → ⊥ = λ same. not_read (ap Err same) in
    let b = session_behind earlier session t.taken told now is (took_of wrong t.taken told now other t.took) in
    let s = shown wrong old.place t.taken true now other t.shows in
    sym (ap (first_pdu old.place) b.cut ∙ fault_of_all old.place t.taken b.after.left wrong true now s (λ ended. nothing_left true earlier b.after now refl b.told ended))

open_not_closed : (is_open : Bool) → is_open ≡ true → is_open ≡ false → ⊥
open_not_closed is_open opened closed = cc

-- where no session is open, there is nothing to read
pub none_closed :
    (answer : Result (Option Pdu) PduFault) (old new : Reader) (is_open : Bool) (told now : Option (List Entry))
    → Nexts answer old new is_open told now → is_open ≡ false → answer ≡ Ok None
none_closed (Ok (Some pdu)) old new is_open told now nexts closed =
    let t = nexts.takes in absurd (omega (arith, ap length (t.closed closed), t.shows.0))
none_closed (Ok None) old new is_open told now nexts closed = refl
none_closed (Err wrong) old new is_open told now nexts closed =
    elim (read_fault_or_not wrong) [
      | inl same ↦
          let t = nexts.takes in
          let shows = subst (λ (w : PduFault). Shows (Err w) old.place t.taken is_open now) same t.shows in
          absurd (open_not_closed is_open shows.1 closed)
      | inr other ↦
          let t = nexts.takes in
          let s = shown wrong old.place t.taken is_open now other t.shows in
          sym s.first ∙ ap (first_pdu old.place) (t.closed closed) ∙ first_none old.place
    ]

pub told_by :
    (answer : Result (Option Pdu) PduFault) (old new : Reader) (is_open : Bool) (told now : Option (List Entry)) (bytes : List ℕ)
    → Nexts answer old new is_open told now → Leaves is_open told bytes → (answer ≡ Err fault.ReadFault → ⊥) → answer ≡ first_pdu old.place bytes
told_by answer old new true told now bytes nexts leaves not_read =
    told_open answer old new told now leaves.0 leaves.1 nexts leaves.2 not_read ∙ ap (first_pdu old.place) leaves.3
told_by answer old new false told now bytes nexts leaves not_read =
    none_closed answer old new false told now nexts refl ∙ sym (first_none old.place) ∙ ap (first_pdu old.place) (sym leaves)

-- a wire that doesn't tell doesn't begin to
silent : (taken : List ℕ) (now : Option (List Entry)) → WireTook taken None now → now ≡ None
silent taken None took = refl
silent taken (Some new) (inl none) = none.1
silent taken (Some new) (inr took) = absurd took

silent_failed : (taken : List ℕ) (now : Option (List Entry)) → WireFailed taken None now → now ≡ None
silent_failed taken None failed = refl
silent_failed taken (Some new) failed = absurd failed

silent_by : (answer : Result (Option Pdu) PduFault) (taken : List ℕ) (now : Option (List Entry)) → TookBy answer taken None now → now ≡ None
silent_by (Ok next) taken now took = silent taken now took
silent_by (Err wrong) taken now took =
    elim (read_fault_or_not wrong) [
      | inl is ↦ silent_failed taken now (subst (λ (w : PduFault). TookBy (Err w) taken None now) is took)
      | inr other ↦ silent taken now (took_of wrong taken None now other took)
    ]

-- the last entry of what is told now
last_now : (such : SessionTold → Type 0) (earlier : List Entry) (session : SessionTold) (now : Option (List Entry)) → now ≡ Some (earlier ++ Session session ∷ []) → such session
    → LastIs (SessionIs such) now
last_now such earlier session now is holds =
    subst (λ (told : Option (List Entry)). LastIs (SessionIs such) told) (sym is) (earlier, Session session, refl, holds)

finds_fault : (wrong : PduFault) (pdus : List Pdu) (reader : Reader) (session : SessionTold)
    → (wrong ≡ fault.ReadFault → ⊥) → FaultAt (session.taken ++ session.left) wrong → Finds (Err wrong) pdus reader session
finds_fault (fault.BadVersion at) pdus reader session other is = is
finds_fault (fault.BadType at) pdus reader session other is = is
finds_fault (fault.BadFragment at) pdus reader session other is = is
finds_fault (fault.BadDrep at) pdus reader session other is = is
finds_fault (fault.BadLength at) pdus reader session other is = is
finds_fault (fault.BadAuth at) pdus reader session other is = is
finds_fault (fault.BadBody at) pdus reader session other is = is
finds_fault (fault.Torn at) pdus reader session other is = is
finds_fault fault.ReadFault pdus reader session other is = absurd (other refl)

-- what was read of a session so far
record Read (pdus : List Pdu) (reader : Reader) (session : SessionTold) : Type 0 where
  are : PdusAre 0 pdus session.taken
  place : reader.place ≡ length session.taken

reads_session :
    (answer : Result (Option Pdu) PduFault) (pdus : List Pdu) (old new : Reader) (told now : Option (List Entry)) (earlier : List Entry) (session : SessionTold)
    → Nexts answer old new true told now → told ≡ Some (earlier ++ Session session ∷ []) → Read pdus old session → ReadsOn answer pdus new now
reads_session (Ok (Some pdu)) pdus old new told now earlier session nexts is read =
    let t = nexts.takes in
    let b = session_behind earlier session t.taken told now is t.took in
    let there : first_pdu (0 + length session.taken) t.taken ≡ Ok (Some pdu) =
    subst (λ (p : ℕ). first_pdu p t.taken ≡ Ok (Some pdu)) (omega (arith, read.place)) t.shows.1 in
    let all = joined 0 session.taken t.taken pdus (pdu ∷ []) read.are (one_pdu (0 + length session.taken) t.taken pdu t.shows.0 there) in
    last_now (Finds (Ok (Some pdu)) pdus new) earlier b.after now b.told (
      subst (λ (l : List ℕ). PdusAre 0 (pdus ++ pdu ∷ []) l) (sym b.more) all,
      omega (arith, ap (λ (r : Reader). r.place) nexts.reader, read.place, t.shows.0, ap length b.more, length-append session.taken t.taken),
    )
reads_session (Ok None) pdus old new told now earlier session nexts is read =
    let t = nexts.takes in
    let b = session_behind earlier session t.taken told now is t.took in
    let same : b.after.taken ≡ session.taken = b.more ∙ ap (λ (l : List ℕ). session.taken ++ l) t.shows.0 ∙ append-nil session.taken in
    last_now (Finds (Ok None) pdus new) earlier b.after now b.told (
      subst (λ (l : List ℕ). PdusAre 0 pdus l) (sym same) read.are,
      ap (λ (r : Reader). r.place) nexts.reader ∙ read.place ∙ sym (ap length same),
      nothing_left true earlier b.after now refl b.told t.shows.1,
    )
reads_session (Err wrong) pdus old new told now earlier session nexts is read =
    elim (read_fault_or_not wrong) [
      | inl same ↦
          let t = nexts.takes in
          let failed = session_failed earlier session t.taken told now is (subst (λ (w : PduFault). TookBy (Err w) t.taken told now) same t.took) in
          subst (λ (w : PduFault). ReadsOn (Err w) pdus new now) (sym same) (last_now (Finds (Err fault.ReadFault) pdus new) earlier failed.0 now failed.1 failed.2)
      | inr other ↦
          let t = nexts.takes in
          let b = session_behind earlier session t.taken told now is (took_of wrong t.taken told now other t.took) in
          let s = shown wrong old.place t.taken true now other t.shows in
          let here = fault_of_all old.place t.taken b.after.left wrong true now s (λ ended. nothing_left true earlier b.after now refl b.told ended) in
          let at : FaultAt (b.after.taken ++ b.after.left) wrong = record {
            pdus = pdus;
            front = session.taken;
            rest = t.taken ++ b.after.left;
            cut = ap (λ (l : List ℕ). l ++ b.after.left) b.more ∙ append_assoc session.taken t.taken b.after.left;
            before = read.are;
            here = subst (λ (p : ℕ). first_pdu p (t.taken ++ b.after.left) ≡ Err wrong) read.place here;
          } in
          last_now (Finds (Err wrong) pdus new) earlier b.after now b.told (finds_fault wrong pdus new b.after other at)
    ]

reads_last :
    (answer : Result (Option Pdu) PduFault) (pdus : List Pdu) (old new : Reader) (told now : Option (List Entry)) (earlier : List Entry) (last : Entry)
    → Nexts answer old new true told now → told ≡ Some (earlier ++ last ∷ [])
    → SessionIs (λ session. PdusAre 0 pdus session.taken × (old.place ≡ length session.taken)) last → ReadsOn answer pdus new now
reads_last answer pdus old new told now earlier (Session session) nexts is read =
    reads_session answer pdus old new told now earlier session nexts is (record { are = read.0; place = read.1 })
reads_last answer pdus old new told now earlier NoMore nexts is read = absurd read
reads_last answer pdus old new told now earlier Failed nexts is read = absurd read

reads_told :
    (answer : Result (Option Pdu) PduFault) (pdus : List Pdu) (old new : Reader) (told now : Option (List Entry))
    → HasRead pdus old told → Nexts answer old new true told now → ReadsOn answer pdus new now
reads_told answer pdus old new None now read nexts =
    subst (λ (t : Option (List Entry)). ReadsOn answer pdus new t) (sym (silent_by answer nexts.takes.taken now nexts.takes.took)) tt
reads_told answer pdus old new (Some list) now read nexts = reads_last answer pdus old new (Some list) now read.0 read.1 nexts (ap Some read.2) read.3

-- what was found doesn't depend on whether the reader is alive
finds_as : (answer : Result (Option Pdu) PduFault) (pdus : List Pdu) (a b : Reader) (session : SessionTold) → a.place ≡ b.place → Finds answer pdus a session → Finds answer pdus b session
finds_as (Ok (Some pdu)) pdus a b session same finds = (finds.0, sym same ∙ finds.1)
finds_as (Ok None) pdus a b session same finds = (finds.0, sym same ∙ finds.1, finds.2)
finds_as (Err (fault.BadVersion at)) pdus a b session same finds = finds
finds_as (Err (fault.BadType at)) pdus a b session same finds = finds
finds_as (Err (fault.BadFragment at)) pdus a b session same finds = finds
finds_as (Err (fault.BadDrep at)) pdus a b session same finds = finds
finds_as (Err (fault.BadLength at)) pdus a b session same finds = finds
finds_as (Err (fault.BadAuth at)) pdus a b session same finds = finds
finds_as (Err (fault.BadBody at)) pdus a b session same finds = finds
finds_as (Err (fault.Torn at)) pdus a b session same finds = finds
finds_as (Err fault.ReadFault) pdus a b session same finds = finds

session_so : (such other : SessionTold → Type 0) (entry : Entry) → ((s : SessionTold) → such s → other s) → SessionIs such entry → SessionIs other entry
session_so such other (Session session) so is = so session is
session_so such other NoMore so is = is
session_so such other Failed so is = is

reads_as : (answer : Result (Option Pdu) PduFault) (pdus : List Pdu) (a b : Reader) (now : Option (List Entry)) → a.place ≡ b.place → ReadsOn answer pdus a now → ReadsOn answer pdus b now
reads_as answer pdus a b None same on = tt
reads_as answer pdus a b (Some list) same on =
    (on.0, on.1, on.2, session_so (Finds answer pdus a) (Finds answer pdus b) on.1 (λ session. finds_as answer pdus a b session same) on.3)

marked_place : (answer : Result (Option Pdu) PduFault) (reader : Reader) → (marked answer reader).place ≡ reader.place
marked_place (Ok next) reader = refl
marked_place (Err wrong) reader = refl

pub reads_on :
    (answer : Result (Option Pdu) PduFault) (pdus : List Pdu) (old mid new : Reader) (is_open : Bool) (told now : Option (List Entry))
    → mid.place ≡ new.place → is_open ≡ true → HasRead pdus old told → Nexts answer old (marked answer mid) is_open told now → ReadsOn answer pdus new now
reads_on answer pdus old mid new is_open told now same is read nexts =
    reads_as answer pdus (marked answer mid) new now (marked_place answer mid ∙ same)
    (reads_told answer pdus old (marked answer mid) told now read (subst (λ (o : Bool). Nexts answer old (marked answer mid) o told now) is nexts))

-- a reader that is alive exactly where the answer is no fault
pub alive_by :
    (answer : Result (Option Pdu) PduFault) (mid : Reader) (alive before : Bool) (place : ℕ) (last : Option ℕ)
    → record { alive = before; place = place; last_call = last } ≡ mid → mid.alive ≡ true → alive ≡ is_ok answer
    → record { alive = alive; place = place; last_call = last } ≡ marked answer mid
alive_by (Ok next) mid alive before place last view lives is =
    let same : alive ≡ before = is ∙ sym lives ∙ ap (λ (r : Reader). r.alive) (sym view) in
    ap (λ (b : Bool). record { alive = b; place = place; last_call = last }) same ∙ view
alive_by (Err wrong) mid alive before place last view lives is =
    ap (λ (b : Bool). record { alive = b; place = place; last_call = last }) is ∙ ap (λ (r : Reader). record r { alive = false }) view

-- no call opens a session
pub opens_none : (answer : Result (Option Pdu) PduFault) (old new : Reader) (is_open : Bool) (told now : Option (List Entry)) → Nexts answer old new is_open told now → OpensNone told now
opens_none (Ok next) old new is_open told now nexts = took_opens_none nexts.takes.taken told now nexts.takes.took
opens_none (Err wrong) old new is_open told now nexts =
    elim (read_fault_or_not wrong) [
      | inl is ↦ failed_opens_none nexts.takes.taken told now (subst (λ (w : PduFault). TookBy (Err w) nexts.takes.taken told now) is nexts.takes.took)
      | inr other ↦ took_opens_none nexts.takes.taken told now (took_of wrong nexts.takes.taken told now other nexts.takes.took)
    ]
