-- A whole run, and one that stops.
use Rattle.std.proofs.Common.{◌≡◌, ℕ, suc, ◌+◌, ◌<◌, ◌≤◌, ◌^◌, List, [], ◌∷◌, ◌++◌, length, take, drop, get_or, Option, Some, None, refl, sym, ap, ◌∙◌, subst, arith, append-nil, length-append, inl, inr, ℤ}
use Rattle.std.specs.Prelude.{All, reverse, slice_get}
use Rattle.std.specs.List.{AllByRecursion}
use Rattle.std.proofs.Math.Seq.{take-append_seam, take-length, take-suc}
use Rattle.std.proofs.lemmas.List.{length-reverse, length-take, reverse-append}
use Rattle.std.proofs.lemmas.Option.{get_or_from_slice_get}
use Rattle.time_machine.specs.Machine.{told}
use Rattle.base_specs.specs.Told.{Added}
use Rattle.base_specs.proofs.Telling.{added_more, added_none}
use Rattle.edge_traits.specs.declared.sink.Put.{Put}
use Rattle.edge_traits.specs.declared.sink.Put.TheVariants as write
use Rattle.edge_traits.specs.Sink.{PutCounts, Writes}
use Rattle.capture_fmt.specs.declared.event.Event.TheVariants.{Life}
use Rattle.capture_fmt.specs.Record.{event_bytes}
use Rattle.sntp_world.specs.declared.op.Op.{Op}
use Rattle.sntp_world.specs.declared.run.SimEnd.{SimEnd}
use Rattle.sntp_world.specs.declared.run.SimEnd.TheVariants.{Done, WriteFault, NoMemory}
use Rattle.sntp_world.specs.declared.totals.Totals.{Totals}
use Rattle.sntp_world.specs.Accuracy.{IsWithinBound}
use Rattle.sntp_world.specs.Draws.{script_of}
use Rattle.sntp_world.specs.Due.{least_of}
use Rattle.sntp_world.specs.Running.{AreTotals, BreaksBy, CarriesOn, CarriesOut, IsFrontOfAll, OpFits, StopsBy, counted, end_of, record_due, records_of}
use Rattle.sntp_world.specs.Setting.{first_reading}
use Rattle.sntp_world.specs.Simulation.{BreaksOff, EndsBy, Simulates, Sinks, WritesWhole}
use Rattle.sntp_world.specs.Standing.{IsReached, Keeps, Kept, StandsForOps}
use Rattle.sntp_world.specs.State.{Correction, IsLeastSlack, State, first_state, slack_of}
use Rattle.sntp_world.specs.Steps.{WorldAfter}
use Rattle.sntp_world.specs.Summary.{IsSummary, member_line, moved_in, ops_line, refused_in, sent_in, slack_line}
use Rattle.sntp_world.proofs.Accurate.{accurate_near}
use Rattle.sntp_world.proofs.Doing.{least_more}
use Rattle.sntp_world.proofs.Fitting.{all_reversed}
use Rattle.sntp_world.proofs.Nearness.{not_negative, script_near}
use Rattle.sntp_world.proofs.Recording.{records_done, totals_done}
use Rattle.sntp_world.proofs.Runs.{fit_around, front_of_part, front_so_far, front_with_due, slice_get_below}
use Rattle.sntp_world.proofs.Scripts.{script_fits, script_length}
use Rattle.sntp_world.proofs.States.{events_fit}

-- ---- Operations one after the other

-- the world to which so many operations led is reached
pub carried_reached : (ops : List Op) (t : Totals) (k : Kept) (a b : Option (List ℕ)) → CarriesOut ops t k a b → IsReached k
carried_reached ops t k a b is = record { ops = ops; stands = record { state = is.state; after = is.after; keeps = is.keeps } }

-- as many operations were counted as there were
pub carried_count : (script : List Op) (i : ℕ) (t : Totals) (k : Kept) (a b : Option (List ℕ)) → CarriesOut (reverse (take i script)) t k a b → t.ops ≤ i
carried_count script i t k a b is = omega (arith, is.totals.ops_are, length-reverse (take i script), length-take i script)

first_totals : AreTotals 0 first_state (record { ops = 0; skipped = 0; sent = 0; moved = 0; refused = 0 })
unfolding told
first_totals = record { ops_are = refl; skipped_are = refl; sent_are = refl; moved_are = refl; refused_are = refl; once = omega arith }

-- first is the Life
pub carried_first : (t : Totals) (k : Kept) (a b : Option (List ℕ)) → StandsForOps k [] → t ≡ record { ops = 0; skipped = 0; sent = 0; moved = 0; refused = 0 }
    → Added a b (event_bytes (Life first_reading 0)) → CarriesOut [] t k a b
carried_first t k a b stands none added =
    let life = event_bytes (Life first_reading 0) in
    record {
      state = stands.state;
      after = stands.after;
      keeps = stands.keeps;
      totals = subst (λ (s : State). AreTotals 0 s t) (sym stands.after) (subst (λ (u : Totals). AreTotals 0 first_state u) (sym none) first_totals);
      written = subst (λ (s : State). Added a b (records_of s.history)) (sym stands.after) (subst (Added a b) (sym (append-nil life)) added);
    }

-- the operations up to a place, the last one first
up_to : (script : List Op) (i : ℕ) (op : Op) → slice_get script i ≡ Some op → reverse (take (i + 1) script) ≡ op ∷ reverse (take i script)
up_to script i op at =
    let e : i + 1 ≡ suc i = omega arith in
    let here : get_or script i op ≡ op = get_or_from_slice_get script i op op at in
    let more : take (i + 1) script ≡ take i script ++ op ∷ [] =
    ap (λ (k : ℕ). take k script) e ∙ take-suc script i op (slice_get_below script i op at) ∙ ap (λ (x : Op). take i script ++ x ∷ []) here in
    ap reverse more ∙ reverse-append (take i script) (op ∷ [])

-- an operation more
pub carried_more : (script : List Op) (i : ℕ) (op : Op) (t total : Totals) (k now : Kept) (a b c : Option (List ℕ)) → slice_get script i ≡ Some op
    → CarriesOut (reverse (take i script)) t k a b → ((w : State) → Keeps k w → CarriesOn op w t total now b c) → CarriesOut (reverse (take (i + 1) script)) total now a c
carried_more script i op t total k now a b c at is on =
    let did = on is.state is.keeps in
    let before = reverse (take i script) in
    let e : length before + 1 ≡ suc (length before) = omega arith in
    let totals = totals_done did.due is.state did.effect did.state (length before) t did.done is.totals in
    subst (λ (ops : List Op). CarriesOut ops total now a c) (sym (up_to script i op at)) (record {
      state = did.state;
      after = (is.state, did.effect, is.after, did.is_due.carries_out did.effect did.state did.done);
      keeps = did.keeps;
      totals = subst (λ (u : Totals). AreTotals (suc (length before)) did.state u) (sym did.counts)
          (subst (λ (m : ℕ). AreTotals m did.state (counted did.effect t)) e totals);
      written = subst (Added a c) (sym (records_done did.due is.state did.effect did.state did.done))
          (added_more a b c (records_of is.state.history) (record_due did.due) is.written did.written);
    })

-- one that broke off
pub stopped_at : (script : List Op) (i : ℕ) (op : Op) (t : Totals) (k : Kept) (a b c : Option (List ℕ)) (f g : ℕ) (end : SimEnd) → AllByRecursion OpFits script → slice_get script i ≡ Some op
    → CarriesOut (reverse (take i script)) t k a b → ((w : State) → Keeps k w → BreaksBy op w b c f g end) → StopsBy script a c f g end
stopped_at script i op t k a b c f g Done fits at is breaks = breaks is.state is.keeps
stopped_at script i op t k a b c f g WriteFault fits at is breaks =
    let br = breaks is.state is.keeps in
    let around = fit_around script i op fits at in
    let n = br.2.0 in
    let history = is.state.history in
    let all = front_with_due (take i script) (drop (i + 1) script) op br.0 is.state around.before around.here around.behind is.after br.1 in
    let front = front_of_part script (records_of history) (record_due br.0) n
    (subst (λ (l : List Op). IsFrontOfAll l (records_of history ++ record_due br.0)) around.whole all) in
    (records_of history ++ take n (record_due br.0), front, added_more a b c (records_of history) (take n (record_due br.0)) is.written br.2.2, br.3)
stopped_at script i op t k a b c f g NoMemory fits at is breaks =
    let br = breaks is.state is.keeps in
    let around = fit_around script i op fits at in
    let history = is.state.history in
    let all = front_with_due (take i script) (drop (i + 1) script) op br.0 is.state around.before around.here around.behind is.after br.1 in (
      records_of history ++ record_due br.0,
      subst (λ (l : List Op). IsFrontOfAll l (records_of history ++ record_due br.0)) around.whole all,
      added_more a b c (records_of history) (record_due br.0) is.written br.2,
      br.3,
    )

-- ---- A whole run

-- corrections have a least slack
least_of_all : (cs : List Correction) → (slack : Option ℤ) × IsLeastSlack cs slack
least_of_all [] = (None, refl)
least_of_all (c ∷ cs) = let rest = least_of_all cs in (Some (least_of rest.0 (slack_of c)), least_more cs rest.0 c (slack_of c) refl rest.1)

-- what a run writes that has this state at its end
record Whole (seed n : ℕ) (front : List ℕ) : Type 0 where
  captured : List ℕ
  printed : List ℕ
  writes : WritesWhole seed n captured printed
  rest : List ℕ
  cut : captured ≡ front ++ rest

-- each correction of a script is within its bound
script_bounds : (seed n : ℕ) (w : State) → n < 2 ^ 32 → WorldAfter (reverse (script_of seed n)) w → All IsWithinBound w.corrections
script_bounds seed n w short after = (accurate_near (reverse (script_of seed n)) w (script_near seed n short) after).bounds

whole_of : (seed n : ℕ) (front : List ℕ) → n < 2 ^ 32 → IsFrontOfAll (script_of seed n) front → Whole seed n front
whole_of seed n front short all =
    let w = all.state in
    let least = least_of_all w.corrections in
    let fits = all_reversed OpFits (script_of seed n) (script_fits seed n) in
    let bounds = script_bounds seed n w short all.after in
    record {
      captured = records_of w.history;
      printed = ops_line n w.skipped ++ member_line (sent_in w) (moved_in w) (refused_in w) ++ slack_line least.0;
      writes = record {
        state = w;
        after = all.after;
        capture = record { fits = events_fit (reverse (script_of seed n)) w fits all.after; written = refl };
        summary = record { slack = least.0; least = least.1; written = refl };
        accurate = bounds;
        never_negative = not_negative w.corrections least.0 least.1 bounds;
      };
      rest = all.rest;
      cut = all.cut;
    }

-- the first Life's record, and any front of it
pub front_of_first : (script : List Op) (n : ℕ) → AllByRecursion OpFits script → IsFrontOfAll script (take n (event_bytes (Life first_reading 0)))
front_of_first script n fits =
    let life = event_bytes (Life first_reading 0) in
    let all = front_so_far [] script first_state tt fits refl in
    front_of_part script [] life n (subst (IsFrontOfAll script) (append-nil life) all)

-- where nothing was written, there may have been no memory
pub nothing_written : (seed n : ℕ) (s : Sinks) → n < 2 ^ 32 → Simulates seed n NoMemory s s
nothing_written seed n s short =
    let w = whole_of seed n [] short (front_of_first (script_of seed n) 0 (script_fits seed n)) in
    record {
      captured = w.captured;
      printed = w.printed;
      whole = w.writes;
      ends = (
        record {
          front = 0;
          lines = 0;
          most = omega arith;
          most_lines = omega arith;
          in_order = inr refl;
          capture = added_none s.capture;
          out = added_none s.out;
        },
        refl,
        refl,
        refl,
      );
    }

-- a front of the capture was written, and nothing of the summary
broke_off : (front captured printed rest : List ℕ) (before now : Sinks) → captured ≡ front ++ rest → Added before.capture now.capture front → now.out ≡ before.out
    → BreaksOff captured printed before now
broke_off front captured printed rest before now cut added same = record {
  front = length front;
  lines = 0;
  most = omega (arith, ap length cut, length-append front rest);
  most_lines = omega arith;
  in_order = inr refl;
  capture = subst (Added before.capture now.capture) (sym (ap (take (length front)) cut ∙ take-append_seam front rest)) added;
  out = subst (λ (o : Option (List ℕ)). Added before.out o []) (sym same) (added_none before.out);
}

pub stopped : (seed n : ℕ) (end : SimEnd) (before now : Sinks) → StopsBy (script_of seed n) before.capture now.capture before.capture_faults now.capture_faults end
    → now.out ≡ before.out → now.out_faults ≡ before.out_faults → n < 2 ^ 32 → Simulates seed n end before now
stopped seed n Done before now stops same counts short = absurd stops
stopped seed n WriteFault before now stops same counts short =
    let w = whole_of seed n stops.0 short stops.1 in
    record {
      captured = w.captured;
      printed = w.printed;
      whole = w.writes;
      ends = (broke_off stops.0 w.captured w.printed w.rest before now w.cut stops.2 same, inl (stops.3, counts));
    }
stopped seed n NoMemory before now stops same counts short =
    let w = whole_of seed n stops.0 short stops.1 in
    record {
      captured = w.captured;
      printed = w.printed;
      whole = w.writes;
      ends = (broke_off stops.0 w.captured w.printed w.rest before now w.cut stops.2 same, stops.3, counts, same);
    }

-- ---- The summary

-- the lines of these numbers
abbrev pub lines_of : Totals → Option ℤ → List ℕ
lines_of t slack = ops_line t.ops t.skipped ++ member_line t.sent t.moved t.refused ++ slack_line slack

summed : (n : ℕ) (w : State) (t : Totals) (slack : Option ℤ) → AreTotals n w t → IsLeastSlack w.corrections slack → IsSummary n w (lines_of t slack)
summed n w t slack are least =
    let ops = are.ops_are in let skipped = are.skipped_are in let sent = are.sent_are in let moved = are.moved_are in let refused = are.refused_are in
    record { slack = slack; least = least; written = cc }

-- how a run ends whose operations were all carried out
ended : (captured printed : List ℕ) (put : Put) (before now : Sinks) → Added before.capture now.capture captured → now.capture_faults ≡ before.capture_faults
    → Writes put printed before.out now.out → PutCounts put before.out_faults now.out_faults → EndsBy captured printed before now (end_of put)
ended captured printed write.Done before now capture faults out counts =
    record { capture = capture; out = out; no_capture_fault = faults; no_out_fault = counts }
ended captured printed write.Failed before now capture faults out counts = (
  record {
    front = length captured;
    lines = out.0;
    most = omega arith;
    most_lines = out.1;
    in_order = inl refl;
    capture = subst (Added before.capture now.capture) (sym (take-length captured)) capture;
    out = out.2;
  },
  inr (counts, faults),
)

pub carried_out : (seed n : ℕ) (put : Put) (t : Totals) (k : Kept) (slack : Option ℤ) (before now : Sinks) → CarriesOut (reverse (script_of seed n)) t k before.capture now.capture
    → now.capture_faults ≡ before.capture_faults → ((w : State) → Keeps k w → IsLeastSlack w.corrections slack)
    → Writes put (lines_of t slack) before.out now.out → PutCounts put before.out_faults now.out_faults → n < 2 ^ 32 → Simulates seed n (end_of put) before now
carried_out seed n put t k slack before now is faults least out counts short =
    let w = is.state in
    let script = reverse (script_of seed n) in
    let fits = all_reversed OpFits (script_of seed n) (script_fits seed n) in
    let many : length script ≡ n = length-reverse (script_of seed n) ∙ script_length seed n in
    let totals : AreTotals n w t = subst (λ (m : ℕ). AreTotals m w t) many is.totals in
    let bounds = script_bounds seed n w short is.after in
    let summary = summed n w t slack totals (least w is.keeps) in
    record {
      captured = records_of w.history;
      printed = lines_of t slack;
      whole = record {
        state = w;
        after = is.after;
        capture = record { fits = events_fit script w fits is.after; written = refl };
        summary = summary;
        accurate = bounds;
        never_negative = not_negative w.corrections summary.slack summary.least bounds;
      };
      ends = ended (records_of w.history) (lines_of t slack) put before now is.written faults out counts;
    }
