-- What taking one event does, whichever call fails.
use Rattle.std.proofs.Common.{◌≡◌, ◌<◌, ℕ, List, [], ◌∷◌, length, map, take, Option, refl, sym, ◌∙◌, ap, subst}
use Rattle.std.proofs.lemmas.List.{append-nil}
use Rattle.base_specs.specs.Told.{Added}
use Rattle.base_specs.proofs.Counting.{fails_none}
use Rattle.base_specs.proofs.Telling.{added_none, grew_none}
use Rattle.edge_traits.specs.declared.link.Tried.{Tried}
use Rattle.edge_traits.specs.declared.clock.Move.{Move}
use Rattle.std.specs.List.{count_by}
use Rattle.edge_traits.specs.Clock.{ClockCall, Correct, moves_among}
use Rattle.edge_traits.specs.Link.{LinkCall, Send, failed_calls, receipts_among, sends_among}
use Rattle.edge_traits.specs.declared.link.Receipt.{Receipt}
use Rattle.edge_traits.proofs.Clocks.{moves_among-moves}
use Rattle.edge_traits.proofs.Links.{receipts_among-sends, sends_among-sends}
use Rattle.capture_fmt.specs.declared.event.Event.{Event}
use Rattle.capture_fmt.specs.Event.{EventFits}
use Rattle.capture_fmt.specs.Record.{event_bytes}
use Rattle.time_machine.specs.declared.conf.Conf.{Conf}
use Rattle.time_machine.specs.declared.outcome.Outcome.{Outcome}
use Rattle.time_machine.specs.declared.outcome.Reason.{Reason}
use Rattle.time_machine.specs.Events.{History}
use Rattle.time_machine.specs.Machine.{Posted, moves_by, outcome_at, posted_by}
use Rattle.time_machine.specs.Report.{line_of}
use Rattle.sntp_core.specs.declared.member.Member.{Member}
use Rattle.sntp_core.specs.Standing.{StandsForHistory, conf_of}
use Rattle.run_deeds.specs.declared.life_end.LifeEnd.{LifeEnd}
use Rattle.run_deeds.specs.declared.life_end.Why.{Why}
use Rattle.run_deeds.specs.declared.life_end.Why.TheVariants.{Done, DiskFault, BadVersion, StampsSpent, ClockFault, EntropyFault, SinkFault}
use Rattle.run_deeds.specs.Counting.{counted, more}
use Rattle.run_deeds.specs.Deeds.{Take, Whole, NoRecord, NoLine, along, moves_in, posted_in, reasons_by}
use Rattle.edge_seen.specs.Seen.{Seen}
use Rattle.run_deeds.specs.Devices.{faults, living}
use Rattle.run_deeds.specs.Parts.{Tallies, is_quiet}
use Rattle.run_deeds.specs.Weaving.{posted_of, ticks_by}
use Rattle.run_deeds.proofs.Stopping.{tallies_none}
use Rattle.member_run.specs.Asking.{WrittenBy}
use Rattle.member_run.specs.Taking.{Acts, Takes}

-- the record could not be written
pub no_record : (others : Seen) (conf : Conf) (history : History) (event : Event) (member : Member) (link : Option (List LinkCall)) (clock : Option (List ClockCall)) (words capture capture' out : Option (List ℕ))
    (link_faults cf ef df kf kf' of : ℕ) (end : LifeEnd) → conf_of member ≡ conf → StandsForHistory member history → EventFits event
    → WrittenBy SinkFault (event_bytes event) capture capture' kf kf'
    → Takes conf history event [] (living others link clock words capture out link_faults (faults cf ef df kf of)) (living others link clock words capture' out link_faults (faults cf ef df kf' of)) member end end SinkFault
no_record others conf history event member link clock words capture capture' out link_faults cf ef df kf kf' of end is_set stands fits (front, added, fails) = record {
  made = [];
  tried = [];
  deeds = [];
  ending = NoRecord event front;
  events = refl;
  taken = [];
  takes = refl;
  acts = (refl, refl);
  does = record {
    link = grew_none link;
    requests = refl;
    clock = grew_none clock;
    moves = refl;
    words = added_none words;
    fit = (fits, tt);
    has_line = tt;
    capture = added;
    out = added_none out;
    link_failed = fails_none link_faults;
  };
  is_set = is_set;
  stands = stands;
  tallies = tallies_none conf history end;
  ends = (fails, refl);
}

-- ---- The record is there

-- what was counted of an event
tallies_one : (conf : Conf) (history : History) (event : Event) (outcome : Outcome) (tried : List Tried) (end mid new : LifeEnd)
    → outcome ≡ outcome_at conf history event → mid ≡ counted event outcome end → new ≡ record mid { lost = more mid.lost (failed_calls (map Send tried)) }
    → Tallies conf history (Take event ∷ []) (map Send tried) end new
tallies_one conf history event outcome tried end mid new leads was is =
    let quiet : 0 ≡ count_by is_quiet (receipts_among (map Send tried)) = ap (λ (l : List Receipt). count_by is_quiet l) (sym (receipts_among-sends tried)) in
    let after = outcome_at conf history event in
    record {
      sent = ap (λ (e : LifeEnd). e.sent) is ∙ ap (λ (e : LifeEnd). e.sent) was ∙ ap (λ (o : Outcome). more end.sent (length (posted_by o))) leads
          ∙ ap (λ (l : List Posted). more end.sent (length l)) (sym (append-nil (posted_by after)));
      moved = ap (λ (e : LifeEnd). e.moved) is ∙ ap (λ (e : LifeEnd). e.moved) was ∙ ap (λ (o : Outcome). more end.moved (length (moves_by o))) leads
          ∙ ap (λ (l : List Move). more end.moved (length l)) (sym (append-nil (moves_by after)));
      refused = ap (λ (e : LifeEnd). e.refused) is ∙ ap (λ (e : LifeEnd). e.refused) was ∙ ap (λ (o : Outcome). more end.refused (length (reasons_by o))) leads
          ∙ ap (λ (l : List Reason). more end.refused (length l)) (sym (append-nil (reasons_by after)));
      quiet = ap (λ (e : LifeEnd). e.quiet) is ∙ ap (λ (e : LifeEnd). e.quiet) was ∙ ap (more end.quiet) quiet;
      lost = ap (λ (e : LifeEnd). e.lost) is ∙ ap (λ (e : LifeEnd). more e.lost (failed_calls (map Send tried))) was;
      turns = ap (λ (e : LifeEnd). e.turns) is ∙ ap (λ (e : LifeEnd). e.turns) was
          ∙ ap (λ (l : List Event). more end.turns (length l)) (sym (append-nil (ticks_by event)));
      why = ap (λ (e : LifeEnd). e.why) is ∙ ap (λ (e : LifeEnd). e.why) was;
    }

-- the requests and the corrections of an event that was done about, whole or but for its line
requests_one : (conf : Conf) (history : History) (event : Event) (outcome : Outcome) (tried : List Tried) → outcome ≡ outcome_at conf history event
    → map posted_of tried ≡ posted_by outcome → map posted_of (sends_among (map Send tried)) ≡ along (posted_in conf) history (Take event ∷ [])
requests_one conf history event outcome tried leads are =
    ap (map posted_of) (sends_among-sends tried) ∙ are ∙ ap posted_by leads ∙ sym (append-nil (posted_by (outcome_at conf history event)))

moves_one : (conf : Conf) (history : History) (event : Event) (outcome : Outcome) → outcome ≡ outcome_at conf history event
    → moves_among (map Correct (moves_by outcome)) ≡ along (moves_in conf) history (Take event ∷ [])
moves_one conf history event outcome leads =
    moves_among-moves (moves_by outcome) ∙ ap moves_by leads ∙ sym (append-nil (moves_by (outcome_at conf history event)))

-- The record was written, the member stepped, and what the outcome says was done; the line was written, or a front of it.
pub takes_all : (others : Seen) (conf : Conf) (history : History) (event : Event) (outcome : Outcome) (member : Member)
    (link link' : Option (List LinkCall)) (clock clock' : Option (List ClockCall)) (words capture capture' out out' : Option (List ℕ))
    (lf lf' cf ef df kf kf' of of' : ℕ) (end mid new : LifeEnd) (why : Why)
    → conf_of member ≡ conf → StandsForHistory member (event ∷ history) → EventFits event → outcome ≡ outcome_at conf history event
    → WrittenBy Done (event_bytes event) capture capture' kf kf'
    → mid ≡ counted event outcome end → Acts outcome link link' clock clock' lf lf' mid new
    → WrittenBy why (line_of outcome) out out' of of' → (why ≡ SinkFault → 0 < length (line_of outcome))
    → Takes conf history event [] (living others link clock words capture out lf (faults cf ef df kf of)) (living others link' clock' words capture' out' lf' (faults cf ef df kf' of')) member end new why
takes_all others conf history event outcome member link link' clock clock' words capture capture' out out' lf lf' cf ef df kf kf' of of' end mid new Done
    is_set stands fits leads (added, none) was acts (line, none') some = record {
      made = map Correct (moves_by outcome);
      tried = acts.tried;
      deeds = Take event ∷ [];
      ending = Whole;
      events = refl;
      taken = event ∷ [];
      takes = refl;
      acts = (ap (λ (o : Outcome). map Correct (moves_by o)) leads, acts.requests ∙ ap posted_by leads);
      does = record {
        link = acts.sends;
        requests = requests_one conf history event outcome acts.tried leads acts.requests;
        clock = acts.moves;
        moves = moves_one conf history event outcome leads;
        words = added_none words;
        fit = (fits, tt);
        has_line = tt;
        capture = subst (λ (l : List ℕ). Added capture capture' l) (sym (append-nil (event_bytes event))) added;
        out = subst (λ (l : List ℕ). Added out out' l) (ap line_of leads ∙ sym (append-nil (line_of (outcome_at conf history event)))) line;
        link_failed = acts.link_failed;
      };
      is_set = is_set;
      stands = stands;
      tallies = tallies_one conf history event outcome acts.tried end mid new leads was acts.counted;
      ends = (tt, λ i. faults cf ef df (none i) (none' i));
    }
takes_all others conf history event outcome member link link' clock clock' words capture capture' out out' lf lf' cf ef df kf kf' of of' end mid new SinkFault
    is_set stands fits leads (added, none) was acts (front, line, fails) some = record {
      made = map Correct (moves_by outcome);
      tried = acts.tried;
      deeds = [];
      ending = NoLine (Take event) front;
      events = refl;
      taken = event ∷ [];
      takes = refl;
      acts = (ap (λ (o : Outcome). map Correct (moves_by o)) leads, acts.requests ∙ ap posted_by leads);
      does = record {
        link = acts.sends;
        requests = requests_one conf history event outcome acts.tried leads acts.requests;
        clock = acts.moves;
        moves = moves_one conf history event outcome leads;
        words = added_none words;
        fit = (fits, tt);
        has_line = subst (λ (o : Outcome). 0 < length (line_of o)) leads (some refl);
        capture = subst (λ (l : List ℕ). Added capture capture' l) (sym (append-nil (event_bytes event))) added;
        out = subst (λ (o : Outcome). Added out out' (take front (line_of o))) leads line;
        link_failed = acts.link_failed;
      };
      is_set = is_set;
      stands = stands;
      tallies = tallies_one conf history event outcome acts.tried end mid new leads was acts.counted;
      ends = (fails, λ i. faults cf ef df (none i) of');
    }
takes_all others conf history event outcome member link link' clock clock' words capture capture' out out' lf lf' cf ef df kf kf' of of' end mid new DiskFault
    is_set stands fits leads written was acts line some = absurd line
takes_all others conf history event outcome member link link' clock clock' words capture capture' out out' lf lf' cf ef df kf kf' of of' end mid new BadVersion
    is_set stands fits leads written was acts line some = absurd line
takes_all others conf history event outcome member link link' clock clock' words capture capture' out out' lf lf' cf ef df kf kf' of of' end mid new StampsSpent
    is_set stands fits leads written was acts line some = absurd line
takes_all others conf history event outcome member link link' clock clock' words capture capture' out out' lf lf' cf ef df kf kf' of of' end mid new ClockFault
    is_set stands fits leads written was acts line some = absurd line
takes_all others conf history event outcome member link link' clock clock' words capture capture' out out' lf lf' cf ef df kf kf' of of' end mid new EntropyFault
    is_set stands fits leads written was acts line some = absurd line
