-- What the devices tell over several parts of a run.
use Rattle.std.proofs.Common.{ℕ, ℤ, List, [], ◌∷◌, ◌++◌, map, Option, refl, sym, ◌∙◌, ap, subst}
use Rattle.std.proofs.lemmas.List.{map-append}
use Rattle.base_specs.specs.Counts.{FailsTimes}
use Rattle.base_specs.specs.Told.{Added, Grew}
use Rattle.base_specs.proofs.Counting.{fails_more, fails_none}
use Rattle.base_specs.proofs.Telling.{added_more, added_none, grew_more, grew_none}
use Rattle.edge_traits.specs.declared.clock.Move.{Move}
use Rattle.edge_traits.specs.declared.link.Receipt.{Receipt}
use Rattle.edge_traits.specs.Clock.{ClockCall, GaveReadings, Read, moves_among}
use Rattle.edge_traits.specs.Link.{LinkCall, Receive, ReceiptCounts, failed_calls, sends_among}
use Rattle.edge_traits.proofs.Clocks.{moves_among-append}
use Rattle.edge_traits.proofs.Links.{failed_calls-append, receive_counts, sends_among-append}
use Rattle.capture_fmt.specs.Event.{EventFits}
use Rattle.time_machine.specs.declared.conf.Conf.{Conf}
use Rattle.time_machine.specs.Events.{History}
use Rattle.time_machine.specs.Machine.{Posted}
use Rattle.run_deeds.specs.Deeds.{Deed, Ending, Whole, along, all_done, history_after, moves_in, posted_in}
use Rattle.edge_seen.specs.Seen.{Seen}
use Rattle.run_deeds.specs.Devices.{Does, Faults, Given, nothing, living}
use Rattle.run_deeds.specs.Weaving.{posted_of}
use Rattle.run_deeds.proofs.Deeding.{all-append, all_done-append, along-append, captured-append, events_given-append, has_line-append, printed-append}

-- nothing was given or done
pub does_none : (conf : Conf) (history : History) (now : Seen) → Does conf history nothing [] Whole now now
does_none conf history now = record {
  link = grew_none now.link;
  requests = refl;
  clock = grew_none now.clock;
  moves = refl;
  words = added_none now.words;
  fit = tt;
  has_line = tt;
  capture = added_none now.capture;
  out = added_none now.written;
  link_failed = fails_none now.link_faults;
}

-- what was given in one part of a run and in the next
abbrev pub given_then : Given → Given → Given
given_then given later = record { clock = given.clock ++ later.clock; words = given.words ++ later.words; link = given.link ++ later.link }

-- one part after another
pub does_then : (conf : Conf) (history : History) (given later : Given) (ds es : List Deed) (ending : Ending) (before mid now : Seen)
    → Does conf history given ds Whole before mid → Does conf (history_after history ds) later es ending mid now
    → Does conf history (given_then given later) (ds ++ es) ending before now
does_then conf history given later ds es ending before mid now first second =
    let done = all_done-append ds es ending in
    let requests = along-append (posted_in conf) history ds (all_done es ending) in
    let moves = along-append (moves_in conf) history ds (all_done es ending) in
    let Failed : ℕ → Type 0 = λ (n : ℕ). FailsTimes n before.link_faults now.link_faults in
    record {
      link = grew_more before.link mid.link now.link given.link later.link first.link second.link;
      requests = ap (map posted_of) (sends_among-append given.link later.link) ∙ map-append posted_of (sends_among given.link) (sends_among later.link)
          ∙ ap (λ (l : List Posted). l ++ map posted_of (sends_among later.link)) first.requests
          ∙ ap (λ (l : List Posted). along (posted_in conf) history ds ++ l) second.requests
          ∙ sym requests ∙ sym (ap (along (posted_in conf) history) done);
      clock = grew_more before.clock mid.clock now.clock given.clock later.clock first.clock second.clock;
      moves = moves_among-append given.clock later.clock
          ∙ ap (λ (l : List Move). l ++ moves_among later.clock) first.moves
          ∙ ap (λ (l : List Move). along (moves_in conf) history ds ++ l) second.moves
          ∙ sym moves ∙ sym (ap (along (moves_in conf) history) done);
      words = added_more before.words mid.words now.words given.words later.words first.words second.words;
      fit = rw (events_given-append ds es ending) (all-append EventFits _ _ first.fit second.fit);
      capture = rw (captured-append ds es ending) (added_more before.capture mid.capture now.capture _ _ first.capture second.capture);
      out = rw (printed-append conf history ds es ending) (added_more before.written mid.written now.written _ _ first.out second.out);
      has_line = has_line-append conf history ds es ending second.has_line;
      link_failed = subst Failed (sym (failed_calls-append given.link later.link))
          (fails_more (failed_calls given.link) (failed_calls later.link) before.link_faults mid.link_faults now.link_faults first.link_failed second.link_failed);
    }

-- ---- One call of a device

-- a reading was given
pub does_read : (others : Seen) (conf : Conf) (history : History) (link : Option (List LinkCall)) (clock clock' : Option (List ClockCall)) (words capture out : Option (List ℕ)) (link_faults : ℕ) (f f' : Faults) (now : ℤ)
    → GaveReadings clock clock' (now ∷ [])
    → Does conf history (record { clock = Read now ∷ []; words = []; link = [] }) [] Whole (living others link clock words capture out link_faults f) (living others link clock' words capture out link_faults f')
does_read others conf history link clock clock' words capture out link_faults f f' now gave = record {
  link = grew_none link;
  requests = refl;
  clock = gave;
  moves = refl;
  words = added_none words;
  fit = tt;
  has_line = tt;
  capture = added_none capture;
  out = added_none out;
  link_failed = fails_none link_faults;
}

-- a word was given
pub does_draw : (others : Seen) (conf : Conf) (history : History) (link : Option (List LinkCall)) (clock : Option (List ClockCall)) (words words' capture out : Option (List ℕ)) (link_faults : ℕ) (f f' : Faults) (word : ℕ)
    → Added words words' (word ∷ [])
    → Does conf history (record { clock = []; words = word ∷ []; link = [] }) [] Whole (living others link clock words capture out link_faults f) (living others link clock words' capture out link_faults f')
does_draw others conf history link clock words words' capture out link_faults f f' word gave = record {
  link = grew_none link;
  requests = refl;
  clock = grew_none clock;
  moves = refl;
  words = gave;
  fit = tt;
  has_line = tt;
  capture = added_none capture;
  out = added_none out;
  link_failed = fails_none link_faults;
}

-- a receipt was given
pub does_receive : (others : Seen) (conf : Conf) (history : History) (link link' : Option (List LinkCall)) (clock : Option (List ClockCall)) (words capture out : Option (List ℕ)) (lf lf' : ℕ) (f : Faults) (receipt : Receipt)
    → Grew link link' (Receive receipt ∷ []) → ReceiptCounts receipt lf lf'
    → Does conf history (record { clock = []; words = []; link = Receive receipt ∷ [] }) [] Whole (living others link clock words capture out lf f) (living others link' clock words capture out lf' f)
does_receive others conf history link link' clock words capture out lf lf' f receipt gave counts = record {
  link = gave;
  requests = refl;
  clock = grew_none clock;
  moves = refl;
  words = added_none words;
  fit = tt;
  has_line = tt;
  capture = added_none capture;
  out = added_none out;
  link_failed = receive_counts receipt lf lf' counts;
}
