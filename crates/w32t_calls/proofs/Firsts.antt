-- What the PDU or the fault that stands first leads to, from the server that takes it.
use Rattle.std.proofs.Common.{◌≡◌, ◌⊎◌, inl, inr, Bool, ℕ, suc, ◌+◌, ◌-◌, ◌<◌, ◌≤◌, List, [], ◌∷◌, ◌++◌, length, Option, Some, None, Result, Ok, Err, refl, sym, ◌∙◌, ap, arith}
use Rattle.std.specs.Prelude.{nat_lt}
use Rattle.std.proofs.lemmas.Bool.{ltb-true, ltb-false, cases_Bool}
use Rattle.std.proofs.lemmas.List.{append-nil, drop_at}
use Rattle.byte_codec.specs.Numbers.{low_word_at}
use Rattle.edge_traits.specs.Wire.{Entry}
use Rattle.rpc_pdu.specs.declared.fault.PduFault.{PduFault}
use Rattle.rpc_pdu.specs.declared.fault.PduFault.TheVariants as fault
use Rattle.rpc_pdu.specs.declared.pdu.Pdu.{Pdu}
use Rattle.rpc_pdu.specs.Header.{header_of}
use Rattle.rpc_pdu.specs.Pdu.{first_pdu, pdu_len}
use Rattle.rpc_pdu.specs.Reader.{Shows, ShowsHeader}
use Rattle.rpc_pdu.proofs.Cuts.{fault_stays, pdu_stays}
use Rattle.rpc_pdu.proofs.Flaws.{first_flawed, first_none, flaw_cut, header_stays}
use Rattle.w32t_calls.specs.declared.asked.Asked.{Asked}
use Rattle.w32t_calls.specs.declared.call.Given.{Given}
use Rattle.w32t_calls.specs.declared.end.SessionEnd.{SessionEnd}
use Rattle.w32t_calls.specs.declared.end.SessionEnd.TheVariants as end
use Rattle.w32t_calls.specs.declared.reaction.Reaction.{Reaction}
use Rattle.w32t_calls.specs.declared.reaction.Reaction.TheVariants.{Answers, Binds, Calls, Ends}
use Rattle.w32t_calls.specs.Answers.{fault_pdu, protocol_error, reaction}
use Rattle.w32t_calls.specs.Serving.{Served, answer_to_fault, at_call, by_first, by_reaction, ends_as, ends_badly, most_pdus, served, written_at}
use Rattle.w32t_calls.specs.Standing.{Server, goes_on, goes_on_from}
use Rattle.w32t_calls.specs.Steps.{unanswered}
use Rattle.w32t_calls.proofs.Advances.{Advance, Stop, ended}

-- a server that may take one PDU more
pub record Idle (old : Server) : Type 0 where
  pub waiting : old.waiting ≡ None
  pub more : old.pdus < 10000

-- what follows a PDU that a server takes, which ends at this place
abbrev pub then_served : Server → ℕ → List ℕ → List ℕ → List Given → Served
then_served old place accepted bytes more = served (most_pdus - (old.pdus + 1)) place accepted bytes more

first_of : (old : Server) (bytes : List ℕ) (more : List Given) → Idle old
    → goes_on old bytes more
    ≡ by_first (served (most_pdus - (old.pdus + 1))) old.reader.place old.accepted bytes more (first_pdu old.reader.place bytes)
unfolding served
first_of old bytes more idle =
    let one : most_pdus - old.pdus ≡ suc (most_pdus - (old.pdus + 1)) = omega (arith, idle.more) in
    ap (λ (w : Option Asked). goes_on_from old w bytes more) idle.waiting
    ∙ ap (λ (n : ℕ). served n old.reader.place old.accepted bytes more) one

-- a PDU was taken, and leads to this
pub reacts : (old : Server) (bytes : List ℕ) (pdu : Pdu) (does : Reaction) (rest : List ℕ) (more : List Given) → Idle old
    → length bytes ≡ pdu_len pdu → first_pdu old.reader.place bytes ≡ Ok (Some pdu) → reaction old.accepted pdu ≡ does
    → goes_on old (bytes ++ rest) more
    ≡ by_reaction (λ now. then_served old (old.reader.place + pdu_len pdu) now rest) (old.reader.place + pdu_len pdu) old.accepted more does
reacts old bytes pdu does rest more idle size is leads =
    let n = most_pdus - (old.pdus + 1) in
    let place = old.reader.place + pdu_len pdu in
    first_of old (bytes ++ rest) more idle
    ∙ ap (by_first (served n) old.reader.place old.accepted (bytes ++ rest) more) (pdu_stays old.reader.place bytes rest pdu is)
    ∙ ap (λ (l : List ℕ). by_reaction (λ now. served n place now l) place old.accepted more (reaction old.accepted pdu)) (drop_at bytes rest (pdu_len pdu) size)
    ∙ ap (by_reaction (λ now. served n place now rest) place old.accepted more) leads

-- a server after a PDU
pub record Behind (old new : Server) (pdu : Pdu) : Type 0 where
  pub place : new.reader.place ≡ old.reader.place + pdu_len pdu
  pub pdus : new.pdus ≡ old.pdus + 1

goes_behind : (old new : Server) (pdu : Pdu) (rest : List ℕ) (more : List Given) → Behind old new pdu → new.waiting ≡ None
    → then_served old (old.reader.place + pdu_len pdu) new.accepted rest more ≡ goes_on new rest more
goes_behind old new pdu rest more behind none =
    ap (λ (place : ℕ). then_served old place new.accepted rest more) (sym behind.place)
    ∙ ap (λ (n : ℕ). served (most_pdus - n) new.reader.place new.accepted rest more) (sym behind.pdus)
    ∙ ap (λ (w : Option Asked). goes_on_from new w rest more) (sym none)

-- what an answer does, after which these contexts are accepted
answers_then : (old new : Server) (pdu answer : Pdu) (rest : List ℕ) (more : List Given) → Behind old new pdu → new.waiting ≡ None
    → record (then_served old (old.reader.place + pdu_len pdu) new.accepted rest more) {
      writes = written_at (old.reader.place + pdu_len pdu) answer ∷ (then_served old (old.reader.place + pdu_len pdu) new.accepted rest more).writes;
    } ≡ record (goes_on new rest more) { writes = written_at new.reader.place answer ∷ (goes_on new rest more).writes }
answers_then old new pdu answer rest more behind none =
    ap (λ (s : Served). record s { writes = written_at (old.reader.place + pdu_len pdu) answer ∷ s.writes }) (goes_behind old new pdu rest more behind none)
    ∙ ap (λ (place : ℕ). record (goes_on new rest more) { writes = written_at place answer ∷ (goes_on new rest more).writes }) (sym behind.place)

pub advance_answer : (old new : Server) (bytes : List ℕ) (pdu answer : Pdu) → Idle old → length bytes ≡ pdu_len pdu → first_pdu old.reader.place bytes ≡ Ok (Some pdu)
    → reaction old.accepted pdu ≡ Answers answer → Behind old new pdu → new.waiting ≡ None → new.accepted ≡ old.accepted
    → Advance old new bytes (written_at new.reader.place answer ∷ []) []
advance_answer old new bytes pdu answer idle size is leads behind none same = record {
  place = omega (arith, behind.place, size);
  goes = λ rest more.
      let place = old.reader.place + pdu_len pdu in
      reacts old bytes pdu (Answers answer) rest more idle size is leads
      ∙ ap (λ (accepted : List ℕ). record (then_served old place accepted rest more) { writes = written_at place answer ∷ (then_served old place accepted rest more).writes }) (sym same)
      ∙ answers_then old new pdu answer rest more behind none;
}

pub advance_bind : (old new : Server) (bytes : List ℕ) (pdu answer : Pdu) (accepted : List ℕ) → Idle old → length bytes ≡ pdu_len pdu
    → first_pdu old.reader.place bytes ≡ Ok (Some pdu) → reaction old.accepted pdu ≡ Binds answer accepted → Behind old new pdu → new.waiting ≡ None → new.accepted ≡ accepted
    → Advance old new bytes (written_at new.reader.place answer ∷ []) []
advance_bind old new bytes pdu answer accepted idle size is leads behind none same = record {
  place = omega (arith, behind.place, size);
  goes = λ rest more.
      let place = old.reader.place + pdu_len pdu in
      reacts old bytes pdu (Binds answer accepted) rest more idle size is leads
      ∙ ap (λ (now : List ℕ). record (then_served old place now rest more) { writes = written_at place answer ∷ (then_served old place now rest more).writes }) (sym same)
      ∙ answers_then old new pdu answer rest more behind none;
}

-- a call waits
pub waits_at : (server : Server) (asked : Asked) (rest : List ℕ) (more : List Given) → server.waiting ≡ Some asked
    → goes_on server rest more ≡ at_call (served (most_pdus - server.pdus) server.reader.place server.accepted rest) server.reader.place asked more
waits_at server asked rest more is = ap (λ (w : Option Asked). goes_on_from server w rest more) is

pub advance_call : (old new : Server) (bytes : List ℕ) (pdu : Pdu) (asked : Asked) → Idle old → length bytes ≡ pdu_len pdu → first_pdu old.reader.place bytes ≡ Ok (Some pdu)
    → reaction old.accepted pdu ≡ Calls asked → Behind old new pdu → new.waiting ≡ Some asked → new.accepted ≡ old.accepted
    → Advance old new bytes [] (asked.call ∷ [])
advance_call old new bytes pdu asked idle size is leads behind waiting same = record {
  place = omega (arith, behind.place, size);
  goes = λ rest more.
      let make : ℕ → ℕ → List ℕ → Served = λ n place accepted. at_call (served (most_pdus - n) place accepted rest) place asked more in
      let there : make (old.pdus + 1) (old.reader.place + pdu_len pdu) old.accepted ≡ goes_on new rest more =
      ap (λ (n : ℕ). make n (old.reader.place + pdu_len pdu) old.accepted) (sym behind.pdus)
      ∙ ap (λ (place : ℕ). make new.pdus place old.accepted) (sym behind.place)
      ∙ ap (make new.pdus new.reader.place) (sym same)
      ∙ sym (waits_at new asked rest more waiting) in
      reacts old bytes pdu (Calls asked) rest more idle size is leads
      ∙ ap (λ (s : Served). record s { calls = asked.call ∷ s.calls }) there;
}

pub stop_end : (old new : Server) (bytes left : List ℕ) (pdu answer : Pdu) → Idle old → length bytes ≡ pdu_len pdu → first_pdu old.reader.place bytes ≡ Ok (Some pdu)
    → reaction old.accepted pdu ≡ Ends answer → Behind old new pdu
    → Stop old bytes left (written_at new.reader.place answer ∷ []) end.BadPdu
stop_end old new bytes left pdu answer idle size is leads behind =
    let all : (rest : List ℕ) → goes_on old (bytes ++ rest) [] ≡ ended (old.reader.place + length bytes) (written_at new.reader.place answer ∷ []) end.BadPdu =
    λ rest. reacts old bytes pdu (Ends answer) rest [] idle size is leads
    ∙ ap (λ (n : ℕ). ends_badly (old.reader.place + n) answer) (sym size)
    ∙ ap (λ (place : ℕ). ended (old.reader.place + length bytes) (written_at place answer ∷ []) end.BadPdu) (omega (arith, behind.place, size)) in
    record { alone = ap (λ (l : List ℕ). goes_on old l []) (sym (append-nil bytes)) ∙ all []; whole = all left }

-- ---- Where no PDU is taken

pub stop_ended : (old : Server) → Idle old → Stop old [] [] [] end.Ended
stop_ended old idle =
    let here = first_of old [] [] idle ∙ ap (by_first (served (most_pdus - (old.pdus + 1))) old.reader.place old.accepted [] []) (first_none old.reader.place) in
    let place : old.reader.place ≡ old.reader.place + 0 = omega arith in
    let all = here ∙ ap (λ (n : ℕ). ends_as n end.Ended) place in
    record { alone = all; whole = all }

torn_here : (old : Server) (bytes : List ℕ) (at : ℕ) → Idle old → first_pdu old.reader.place bytes ≡ Err (fault.Torn at)
    → goes_on old bytes [] ≡ ends_as (old.reader.place + length bytes) end.Torn
torn_here old bytes at idle is =
    first_of old bytes [] idle ∙ ap (by_first (served (most_pdus - (old.pdus + 1))) old.reader.place old.accepted bytes []) is

pub stop_torn : (old : Server) (bytes : List ℕ) (at : ℕ) → Idle old → first_pdu old.reader.place bytes ≡ Err (fault.Torn at) → Stop old bytes [] [] end.Torn
stop_torn old bytes at idle is =
    let all = torn_here old bytes at idle is in
    record { alone = all; whole = ap (λ (l : List ℕ). goes_on old l []) (append-nil bytes) ∙ all }

-- bytes that are no whole PDU yet, and not at fault
pub record Quietly (old : Server) (bytes : List ℕ) : Type 0 where
  pub writes : (goes_on old bytes []).writes ≡ []
  pub calls : (goes_on old bytes []).calls ≡ []
  pub end : ((goes_on old bytes []).end ≡ Err end.Ended) ⊎ ((goes_on old bytes []).end ≡ Err end.Torn)

pub quietly : (old : Server) (bytes : List ℕ) → Idle old → (0 < length bytes → first_pdu old.reader.place bytes ≡ Err (fault.Torn old.reader.place)) → Quietly old bytes
quietly old [] idle is =
    let s = stop_ended old idle in
    record { writes = ap (λ (x : Served). x.writes) s.alone; calls = ap (λ (x : Served). x.calls) s.alone; end = inl (ap (λ (x : Served). x.end) s.alone) }
quietly old (byte ∷ bytes) idle is =
    let all = torn_here old (byte ∷ bytes) old.reader.place idle (is (omega arith)) in
    record { writes = ap (λ (x : Served). x.writes) all; calls = ap (λ (x : Served). x.calls) all; end = inr (ap (λ (x : Served). x.end) all) }

-- what answers a fault of these bytes
abbrev pub fault_answer : List ℕ → Pdu
fault_answer bytes = fault_pdu (low_word_at 12 bytes) 0 protocol_error

same_answer : (bytes rest : List ℕ) → 16 ≤ length bytes → answer_to_fault (bytes ++ rest) ≡ fault_answer bytes
same_answer bytes rest enough =
    ap (λ h. fault_pdu h.call_id 0 protocol_error) (header_stays bytes rest enough)

-- A fault that is answered, and how many bytes show it.
pub record ShownFault (place : ℕ) (bytes : List ℕ) (wrong : PduFault) : Type 0 where
  pub enough : 16 ≤ length bytes
  pub ends : (rest : List ℕ) (next : ℕ → List ℕ → List ℕ → List Given → Served) (accepted : List ℕ)
      → by_first next place accepted (bytes ++ rest) [] (first_pdu place (bytes ++ rest))
      ≡ ends_badly (place + length bytes) (answer_to_fault (bytes ++ rest))

header_shown : (place : ℕ) (bytes : List ℕ) (wrong : PduFault) → (wrong ≡ fault.Torn place → ⊥) → ShowsHeader place bytes wrong
    → ((rest : List ℕ) (next : ℕ → List ℕ → List ℕ → List Given → Served) (accepted : List ℕ)
    → by_first next place accepted (bytes ++ rest) [] (Err wrong) ≡ ends_badly (place + 16) (answer_to_fault (bytes ++ rest)))
    → ShownFault place bytes wrong
header_shown place bytes wrong not_torn shows by = record {
  enough = omega (arith, shows.header);
  ends = λ rest next accepted.
      ap (by_first next place accepted (bytes ++ rest) []) (fault_stays place bytes rest wrong shows.shows not_torn)
      ∙ by rest next accepted
      ∙ ap (λ (n : ℕ). ends_badly (place + n) (answer_to_fault (bytes ++ rest))) (sym shows.header);
}

body_shown : (place at : ℕ) (bytes : List ℕ) → 16 ≤ length bytes → length bytes ≡ (header_of bytes).fragment_len → first_pdu place bytes ≡ Err (fault.BadBody at)
    → ShownFault place bytes (fault.BadBody at)
body_shown place at bytes enough size is = record {
  enough = enough;
  ends = λ rest next accepted.
      let same : (header_of (bytes ++ rest)).fragment_len ≡ length bytes = ap (λ h. h.fragment_len) (header_stays bytes rest enough) ∙ sym size in
      ap (by_first next place accepted (bytes ++ rest) []) (fault_stays place bytes rest (fault.BadBody at) is (λ same. cc))
      ∙ ap (λ (n : ℕ). ends_badly (place + n) (answer_to_fault (bytes ++ rest))) same;
}

pub stop_fault : (old new : Server) (bytes left : List ℕ) (wrong : PduFault) → Idle old → ShownFault old.reader.place bytes wrong
    → Stop old bytes left (written_at (old.reader.place + length bytes) (fault_answer bytes) ∷ []) end.BadPdu
stop_fault old new bytes left wrong idle shown =
    let all : (rest : List ℕ) → goes_on old (bytes ++ rest) []
    ≡ ended (old.reader.place + length bytes) (written_at (old.reader.place + length bytes) (fault_answer bytes) ∷ []) end.BadPdu =
    λ rest. first_of old (bytes ++ rest) [] idle
    ∙ shown.ends rest (served (most_pdus - (old.pdus + 1))) old.accepted
    ∙ ap (ends_badly (old.reader.place + length bytes)) (same_answer bytes rest shown.enough) in
    record { alone = ap (λ (l : List ℕ). goes_on old l []) (sym (append-nil bytes)) ∙ all []; whole = all left }

none_not_err : (w : PduFault) → ◌≡◌ {A = Result (Option Pdu) PduFault} (Ok None) (Err w) → ⊥
none_not_err w same = cc

torn_not_bad : (place at : ℕ) → ◌≡◌ {A = Result (Option Pdu) PduFault} (Err (fault.Torn place)) (Err (fault.BadBody at)) → ⊥
torn_not_bad place at same = cc

long_enough : (place at : ℕ) (bytes : List ℕ) → first_pdu place bytes ≡ Err (fault.BadBody at) → 16 ≤ length bytes
long_enough place at [] is = absurd (none_not_err (fault.BadBody at) (sym (first_none place) ∙ is))
long_enough place at (byte ∷ bytes) is =
    elim (cases_Bool (nat_lt (length (byte ∷ bytes)) 16)) [
      | inl few ↦
          let cut = flaw_cut (byte ∷ bytes) (ltb-true _ _ few) in
          absurd (torn_not_bad place at (sym (first_flawed place (byte ∷ bytes) _ (omega arith) cut) ∙ is))
      | inr many ↦ ltb-false _ _ many
    ]

answered_not_torn : (why : SessionEnd) → ◌≡◌ {A = Option SessionEnd} (Some why) None → ⊥
answered_not_torn why same = cc

pub fault_shown : (wrong : PduFault) (place : ℕ) (bytes : List ℕ) (is_open : Bool) (now : Option (List Entry)) → unanswered wrong ≡ None → Shows (Err wrong) place bytes is_open now
    → ShownFault place bytes wrong
fault_shown (fault.BadVersion at) place bytes is_open now none shows = header_shown place bytes _ (λ same. cc) shows (λ rest next accepted. refl)
fault_shown (fault.BadType at) place bytes is_open now none shows = header_shown place bytes _ (λ same. cc) shows (λ rest next accepted. refl)
fault_shown (fault.BadFragment at) place bytes is_open now none shows = header_shown place bytes _ (λ same. cc) shows (λ rest next accepted. refl)
fault_shown (fault.BadDrep at) place bytes is_open now none shows = header_shown place bytes _ (λ same. cc) shows (λ rest next accepted. refl)
fault_shown (fault.BadLength at) place bytes is_open now none shows = header_shown place bytes _ (λ same. cc) shows (λ rest next accepted. refl)
fault_shown (fault.BadAuth at) place bytes is_open now none shows = header_shown place bytes _ (λ same. cc) shows (λ rest next accepted. refl)
fault_shown (fault.BadBody at) place bytes is_open now none shows = body_shown place at bytes (long_enough place at bytes shows.1) shows.0 shows.1
fault_shown (fault.Torn at) place bytes is_open now none shows = absurd (answered_not_torn end.Torn none)
fault_shown fault.ReadFault place bytes is_open now none shows = absurd (answered_not_torn end.ReadFault none)

-- a fault that is neither torn nor a failed read is answered
pub is_answered : (wrong : PduFault) → ((at : ℕ) → wrong ≡ fault.Torn at → ⊥) → (wrong ≡ fault.ReadFault → ⊥) → unanswered wrong ≡ None
is_answered (fault.BadVersion at) not_torn not_read = refl
is_answered (fault.BadType at) not_torn not_read = refl
is_answered (fault.BadFragment at) not_torn not_read = refl
is_answered (fault.BadDrep at) not_torn not_read = refl
is_answered (fault.BadLength at) not_torn not_read = refl
is_answered (fault.BadAuth at) not_torn not_read = refl
is_answered (fault.BadBody at) not_torn not_read = refl
is_answered (fault.Torn at) not_torn not_read = absurd (not_torn at refl)
is_answered fault.ReadFault not_torn not_read = absurd (not_read refl)
