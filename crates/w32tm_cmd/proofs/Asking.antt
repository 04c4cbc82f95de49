-- What an answer of `/resync` and `/query` tells of the session.
use Rattle.std.proofs.Common.{◌≡◌, ◌≢◌, ◌⊎◌, ℕ, Bool, if◌then◌else◌, List, [], ◌∷◌, ◌++◌, Option, Some, Result, Ok, Err, inl, inr, refl, sym, ap, subst}
use Rattle.std.proofs.lemmas.Bool.{ne_eqb}
use Rattle.std.proofs.lemmas.Bool.Decides.{eqb_tells}
use Rattle.std.proofs.lemmas.List.{append_cancel_left}
use Rattle.base_specs.specs.Told.{Grew}
use Rattle.client_run.specs.Asking.{AskEnds, AsksOnce, TellsIf, bound}
use Rattle.client_run.specs.declared.asking.AskFault.{AskFault}
use Rattle.client_run.specs.declared.asking.AskFault.TheVariants as ask
use Rattle.client_run.proofs.OneAnswer.{tells_one}
use Rattle.edge_seen.specs.Seen.{Seen}
use Rattle.edge_traits.specs.Wire.{Entry, Session, NoMore, Failed}
use Rattle.w32t_calls.specs.Replies.{and_if}
use Rattle.w32t_calls.specs.declared.call.Call.{Call}
use Rattle.w32t_calls.specs.declared.call.Call.TheVariants as call
use Rattle.w32t_calls.specs.declared.call.Given.{Given}
use Rattle.w32t_calls.specs.declared.call.Given.TheVariants as given
use Rattle.w32t_calls.specs.declared.call_fault.CallFault.{CallFault}
use Rattle.w32tm_cmd.proofs.Configuring.{rose}
use Rattle.w32tm_cmd.specs.Ask.{Answers, AskPromise, DecidesAsk, IsAskAnswer, IsAskExact, IsAskFaultless, IsHeard, IsSync, IsWell, RunsAsk, status_given, status_told}
use Rattle.w32tm_text.specs.declared.status.Status.{Status}
use Rattle.w32tm_text.specs.declared.status.Status.TheVariants.{Done, NotResynced, PeerRefused, ReadFault, WriteFault}

-- ---- The entry of the session

-- a told list that grew by one entry has that one
same_entry : (entries : List Entry) (entry other : Entry) (before now : Option (List Entry)) → before ≡ Some entries → now ≡ Some (entries ++ entry ∷ [])
    → Grew before now (other ∷ []) → other ≡ entry
same_entry entries entry other before now was is grew =
    let seen : Grew (Some entries) (Some (entries ++ entry ∷ [])) (other ∷ []) =
    subst (λ (o : Option (List Entry)). Grew (Some entries) o (other ∷ [])) is (subst (λ (o : Option (List Entry)). Grew o now (other ∷ [])) was grew) in
    let same = append_cancel_left entries (entry ∷ []) (other ∷ []) seen in
    cc same

-- so the answer is by that entry
ended : (c : Call) (result : Result Given AskFault) (entries : List Entry) (entry : Entry) (before now : Option (List Entry)) → before ≡ Some entries → now ≡ Some (entries ++ entry ∷ [])
    → AsksOnce c result before now → AskEnds c result entry
ended c result entries entry before now was is asked =
    subst (λ (e : Entry). AskEnds c result e) (same_entry entries entry asked.entry before now was is asked.one) asked.ends

-- ---- What the bytes decide

answered : (c : Call) (entry : Entry) (answer : Given) → AskEnds c (Ok answer) entry → DecidesAsk c entry (status_told (Ok answer))
answered c (Session session) answer ends = λ told tells.
    ap status_told (tells_one c (session.taken ++ session.left) (Ok answer) told ends.tells tells)
answered c NoMore answer ends = cc ends
answered c Failed answer ends = cc ends

refused : (c : Call) (entry : Entry) → AskEnds c (Err ask.Refused) entry → DecidesAsk c entry PeerRefused
refused c (Session session) (why, is, ends) = λ told tells.
    ap status_told (tells_one c (session.taken ++ session.left) (Err why) told ends.tells tells)
refused c NoMore ends = refl
refused c Failed ends = cc ends

well : (answer : Given) → IsWell answer → status_given answer ≡ Done
well (given.Synced result) is = rw is refl
well (given.Bits bits) is = refl
well (given.Source name) is = refl

unsynced : (result : ℕ) → result ≢ 0 → status_given (given.Synced result) ≡ NotResynced result
unsynced result some = ap (λ (b : Bool). if b then Done else NotResynced result) (ne_eqb result 0 some)

exact : (c : Call) (before now : Seen) (result : Status) → RunsAsk c before now result → IsAskExact c before now result
exact c before now Done (answer, is, answers) entries entry was grew none =
    subst (λ (s : Status). DecidesAsk c entry s) (well answer is) (answered c entry answer (ended c (Ok answer) entries entry _ _ was grew answers.asked))
exact c before now (NotResynced result) (some, answers) entries entry was grew none =
    subst (λ (s : Status). DecidesAsk c entry s) (unsynced result some)
    (answered c entry (given.Synced result) (ended c (Ok (given.Synced result)) entries entry _ _ was grew answers.asked))
exact c before now PeerRefused runs entries entry was grew none = refused c entry (ended c (Err ask.Refused) entries entry _ _ was grew runs.asked)
exact c before now ReadFault runs entries entry was grew none = absurd (none.wire (rose _ _ runs.cause))
exact c before now WriteFault (inl runs) entries entry was grew none = absurd (none.wire_write (rose _ _ runs.cause))
exact c before now WriteFault (inr runs) entries entry was grew none = absurd (none.write (rose _ _ runs.cause))
exact c before now _ runs entries entry was grew none = absurd runs

complete : (c : Call) (before now : Seen) (result : Status) → RunsAsk c before now result → IsAskFaultless before now → IsHeard result
complete c before now Done runs none = tt
complete c before now (NotResynced result) runs none = tt
complete c before now PeerRefused runs none = tt
complete c before now ReadFault runs none = absurd (none.wire (rose _ _ runs.cause))
complete c before now WriteFault (inl runs) none = absurd (none.wire_write (rose _ _ runs.cause))
complete c before now WriteFault (inr runs) none = absurd (none.write (rose _ _ runs.cause))
complete c before now _ runs none = absurd runs

-- ---- Which answers there are

-- a number that is read as bits is no result
no_result : (result : ℕ) (word : Result ℕ CallFault) → ◌≡◌ {A = Result Given CallFault} (Ok (given.Synced result)) (and_if word (λ bits. Ok (given.Bits bits))) → ⊥
no_result result (Ok bits) is = cc is
no_result result (Err why) is = cc is

-- nor is a name
no_name : (result : ℕ) (source : Result (List ℕ) CallFault) → ◌≡◌ {A = Result Given CallFault} (Ok (given.Synced result)) (and_if source (λ name. Ok (given.Source name))) → ⊥
no_name result (Ok name) is = cc is
no_name result (Err why) is = cc is

bits_if : (bytes : List ℕ) (result : ℕ) (accepts : Result (Unit {0}) CallFault) → TellsIf call.Bits bytes (Ok (given.Synced result)) accepts → ⊥
bits_if bytes result (Ok done) tells = no_result result _ tells
bits_if bytes result (Err why) tells = cc tells

source_if : (bytes : List ℕ) (result : ℕ) (accepts : Result (Unit {0}) CallFault) → TellsIf call.Source bytes (Ok (given.Synced result)) accepts → ⊥
source_if bytes result (Ok done) tells = no_name result tells.0 tells.2
source_if bytes result (Err why) tells = cc tells

bits_end : (result : ℕ) (entry : Entry) → AskEnds call.Bits (Ok (given.Synced result)) entry → ⊥
bits_end result (Session session) ends = bits_if (session.taken ++ session.left) result (bound (session.taken ++ session.left)) ends.tells
bits_end result NoMore ends = cc ends
bits_end result Failed ends = cc ends

source_end : (result : ℕ) (entry : Entry) → AskEnds call.Source (Ok (given.Synced result)) entry → ⊥
source_end result (Session session) ends = source_if (session.taken ++ session.left) result (bound (session.taken ++ session.left)) ends.tells
source_end result NoMore ends = cc ends
source_end result Failed ends = cc ends

synced_call : (c : Call) (result : ℕ) (before now : Option (List Entry)) → AsksOnce c (Ok (given.Synced result)) before now → IsSync c
synced_call (call.Sync wait flags) result before now asked = tt
synced_call call.Bits result before now asked = bits_end result asked.entry asked.ends
synced_call call.Source result before now asked = source_end result asked.entry asked.ends

answers : (c : Call) (before now : Seen) (result : Status) → RunsAsk c before now result → IsAskAnswer c result
answers c before now Done runs = tt
answers c before now (NotResynced result) (some, runs) = synced_call c result _ _ runs.asked
answers c before now PeerRefused runs = tt
answers c before now ReadFault runs = tt
answers c before now WriteFault runs = tt
answers c before now _ runs = absurd runs

pub promises : (c : Call) (before now : Seen) (result : Status) → RunsAsk c before now result → AskPromise c before now result
promises c before now result runs = record {
  runs = runs;
  answers = answers c before now result runs;
  exact = exact c before now result runs;
  complete = complete c before now result runs;
}

-- ---- An answer that was printed

given_runs : (c : Call) (before now : Seen) (answer : Given) → Answers c before now answer → RunsAsk c before now (status_given answer)
given_runs c before now (given.Synced result) printed =
    let Runs : Bool → Type 0 = λ (b : Bool). RunsAsk c before now (if b then Done else NotResynced result) in
    elim (eqb_tells result 0) [
      | inl zero ↦ subst Runs (sym zero.0) (given.Synced result, zero.1, printed)
      | inr some ↦ subst Runs (sym some.0) (some.1, printed)
    ]
given_runs c before now (given.Bits bits) printed = (given.Bits bits, tt, printed)
given_runs c before now (given.Source name) printed = (given.Source name, tt, printed)

pub printed : (c : Call) (before now : Seen) (answer : Given) (result : Status) → result ≡ status_given answer → Answers c before now answer → AskPromise c before now result
printed c before now answer result is answers =
    promises c before now result (subst (λ (s : Status). RunsAsk c before now s) (sym is) (given_runs c before now answer answers))
