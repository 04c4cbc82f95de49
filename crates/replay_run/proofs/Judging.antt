-- What the bytes say of a replay.
use Rattle.std.proofs.Common.{◌≡◌, ◌≢◌, ℕ, ◌+◌, ◌<◌, ◌≤◌, List, [], ◌∷◌, ◌++◌, length, reverse, Option, Some, None, refl, sym, ◌∙◌, ap, subst, arith, ◌⊎◌, inl, inr, append_assoc, length-append, add-zero, zero-add}
use Rattle.std.specs.List.{AllByRecursion, flat_map}
use Rattle.std.proofs.lemmas.List.{append-nil, reverse-append}
use Rattle.std.proofs.lemmas.Option.{none-some, same_Some}
use Rattle.base_specs.specs.Counts.{Rose}
use Rattle.base_specs.specs.Told.{Added, Took, IsUsedUp}
use Rattle.capture_fmt.specs.declared.event.Event.{Event}
use Rattle.capture_fmt.specs.declared.fault.CaptureFault.{CaptureFault}
use Rattle.capture_fmt.specs.declared.fault.CaptureFault.TheVariants as fault
use Rattle.capture_fmt.specs.Event.{EventFits}
use Rattle.capture_fmt.specs.Record.{event_bytes}
use Rattle.capture_fmt.specs.Capture.{SpellsEvents, BeginBelow, IsFault, place_limit}
use Rattle.capture_fmt.specs.Reader.{Shows}
use Rattle.capture_fmt.proofs.OneRecord.{one_record}
use Rattle.capture_fmt.proofs.Histories.{no_event, one_history, no_fault_of_event, no_fault_of_end}
use Rattle.time_machine.specs.declared.conf.Conf.{Conf}
use Rattle.time_machine.specs.Events.{History}
use Rattle.time_machine.specs.Growing.{Grows}
use Rattle.time_machine.specs.Report.{report_of, total_line}
use Rattle.replay_run.specs.declared.end.ReplayEnd.{ReplayEnd}
use Rattle.replay_run.specs.declared.end.ReplayWhy.{ReplayWhy}
use Rattle.replay_run.specs.declared.end.ReplayWhy.TheVariants as why
use Rattle.edge_seen.specs.Seen.{Seen}
use Rattle.replay_run.specs.Totals.{AreTotals}
use Rattle.replay_run.specs.Replay.{history_of, IsRefused, IsDone, ShowsFault, ReplayEndsBy, Replays, ReportsAll}
use Rattle.replay_run.specs.Judged.{IsBadRecord, EndsAt, ReplaysTo, SpellsGrowing}

-- ---- Where the source tells its bytes

-- where bytes were taken from a source that tells them, it tells the rest
took_some : (left now : Option (List ℕ)) (bytes taken : List ℕ) → Took left now taken → left ≡ Some bytes → (rest : List ℕ) × (now ≡ Some rest) × (bytes ≡ taken ++ rest)
took_some None None bytes taken took is = absurd (none-some bytes is)
took_some None (Some rest) bytes taken took is = absurd took
took_some (Some left) None bytes taken took is = absurd took
took_some (Some left) (Some rest) bytes taken took is = (rest, refl, sym (same_Some left bytes is) ∙ took)

used_up : (left : Option (List ℕ)) (bytes : List ℕ) → left ≡ Some bytes → IsUsedUp left → bytes ≡ []
used_up None bytes is up = absurd (none-some bytes is)
used_up (Some left) bytes is up = sym (same_Some left bytes is) ∙ up

-- a fault that the bytes read show, with those left, is the fault of both
shown : (place : ℕ) (ahead rest : List ℕ) (now : Option (List ℕ)) (wrong : CaptureFault) → now ≡ Some rest → wrong ≢ fault.ReadFault → Shows place ahead now wrong → IsFault place (ahead ++ rest) wrong
shown place ahead rest now (fault.BadKind at) is not_read shows = shows rest
shown place ahead rest now (fault.BadReading at) is not_read shows = shows rest
shown place ahead rest now (fault.BadLength at) is not_read shows = shows rest
shown place ahead rest now (fault.Torn at) is not_read shows =
    let none = used_up now rest is shows.0 in
    subst (λ (l : List ℕ). IsFault place l (fault.Torn at)) (sym (ap (λ (l : List ℕ). ahead ++ l) none ∙ append-nil ahead)) shows.1
shown place ahead rest now (fault.TooLong at) is not_read shows = shows
shown place ahead rest now fault.ReadFault is not_read shows = absurd (not_read refl)

-- so is an event that may not follow
still_refused : (conf : Conf) (history : History) (place : ℕ) (ahead rest : List ℕ) → IsRefused conf history place ahead → IsRefused conf history place (ahead ++ rest)
still_refused conf history place ahead rest is = record {
  event = is.event;
  rest = is.rest ++ rest;
  below = is.below;
  fits = is.fits;
  written = ap (λ (l : List ℕ). l ++ rest) is.written ∙ append_assoc (event_bytes is.event) is.rest rest;
  refused = is.refused;
}

bad_of : (conf : Conf) (history : History) (place : ℕ) (ahead rest : List ℕ) (now : Option (List ℕ)) → now ≡ Some rest
    → ShowsFault place ahead now ⊎ IsRefused conf history place ahead → IsBadRecord conf history place (ahead ++ rest)
bad_of conf history place ahead rest now is bad =
    elim bad [
      | inl shows ↦ inl (shows.wrong, shown place ahead rest now shows.wrong is shows.no_failed_read shows.shows)
      | inr refused ↦ inr (still_refused conf history place ahead rest refused)
    ]

told_end : (conf : Conf) (events : List Event) (result : ReplayEnd) (place : ℕ) (ahead rest : List ℕ) (before now : Seen) (w : ReplayWhy) → now.left ≡ Some rest
    → w ≢ why.ReadFault → w ≢ why.WriteFault → ReplayEndsBy conf events result place ahead before now w → EndsAt conf (history_of events) place (ahead ++ rest) w
told_end conf events result place ahead rest before now why.Done is not_read not_written ends =
    (ends.ends.below, ap (λ (l : List ℕ). l ++ rest) ends.ends.none ∙ used_up now.left rest is ends.ends.ended)
told_end conf events result place ahead rest before now (why.BadCapture at) is not_read not_written ends =
    (ends.there, bad_of conf (history_of events) place ahead rest now.left is ends.bad)
told_end conf events result place ahead rest before now why.ReadFault is not_read not_written ends = absurd (not_read refl)
told_end conf events result place ahead rest before now why.WriteFault is not_read not_written ends = absurd (not_written refl)

pub told_by : (conf : Conf) (before now : Seen) (result : ReplayEnd) (bytes : List ℕ) → Replays conf before now result → before.left ≡ Some bytes
    → result.why ≢ why.ReadFault → result.why ≢ why.WriteFault → ReplaysTo conf bytes result.why
told_by conf before now result bytes r is not_read not_written =
    let rest = took_some before.left now.left bytes (r.front ++ r.ahead) r.took is in
    record {
      events = r.events;
      front = r.front;
      rest = r.ahead ++ rest.0;
      cut = rest.2 ∙ append_assoc r.front r.ahead rest.0;
      before = r.spells;
      below = r.below;
      grows = r.grows;
      here = told_end conf r.events result (length r.front) r.ahead rest.0 before now result.why rest.1 not_read not_written r.ends;
    }

-- ---- One end at most

abbrev text : List Event → List ℕ
text events = flat_map event_bytes events

-- a history that grows grew at each earlier moment
grows_earlier : (conf : Conf) (newer older : History) → Grows conf (newer ++ older) → Grows conf older
unfolding Grows
grows_earlier conf [] older g = g
grows_earlier conf (e ∷ newer) older g = grows_earlier conf newer older g.0

-- the first of the events that follow a history stands in it before the others
behind : (e : Event) (events : List Event) (history : History) → reverse (e ∷ events) ++ history ≡ reverse events ++ (e ∷ history)
behind e events history = ap (λ (l : List Event). l ++ history) (reverse-append (e ∷ []) events) ∙ append_assoc (reverse events) (e ∷ []) history

first_grows : (conf : Conf) (e : Event) (events : List Event) (history : History) → Grows conf (reverse (e ∷ events) ++ history) → Grows conf (e ∷ history)
first_grows conf e events history g = grows_earlier conf (reverse events) (e ∷ history) (subst (Grows conf) (behind e events history) g)

-- a record that is taken is not a bad one
no_bad_event : (conf : Conf) (history : History) (place : ℕ) (e : Event) (rest : List ℕ) → EventFits e → place < place_limit → Grows conf (e ∷ history)
    → IsBadRecord conf history place (event_bytes e ++ rest) → ⊥
no_bad_event conf history place e rest fits below grow bad =
    elim bad [
      | inl wrong ↦ no_fault_of_event place e rest wrong.0 fits below wrong.1
      | inr refused ↦
          let one = one_record e refused.event rest refused.rest fits refused.fits refused.written in
          refused.refused (subst (λ (f : Event). Grows conf (f ∷ history)) one.0 grow)
    ]

-- the end below the limit is not a bad record either
no_bad_end : (conf : Conf) (history : History) (place : ℕ) → place < place_limit → IsBadRecord conf history place [] → ⊥
no_bad_end conf history place below bad =
    elim bad [
      | inl wrong ↦ no_fault_of_end place wrong.0 below wrong.1
      | inr refused ↦ no_event refused.event refused.rest refused.written
    ]

-- so an end is not where a record is taken
no_end_at_event : (conf : Conf) (history : History) (place : ℕ) (e : Event) (rest bytes : List ℕ) (w : ReplayWhy) → bytes ≡ event_bytes e ++ rest
    → EventFits e → place < place_limit → Grows conf (e ∷ history) → EndsAt conf history place bytes w → ⊥
no_end_at_event conf history place e rest bytes why.Done is fits below grow ends = no_event e rest (sym ends.1 ∙ is)
no_end_at_event conf history place e rest bytes (why.BadCapture at) is fits below grow ends =
    no_bad_event conf history place e rest fits below grow (subst (IsBadRecord conf history place) is ends.1)
no_end_at_event conf history place e rest bytes why.ReadFault is fits below grow ends = ends
no_end_at_event conf history place e rest bytes why.WriteFault is fits below grow ends = ends

same_end : (conf : Conf) (history : History) (place : ℕ) (x y : List ℕ) (w v : ReplayWhy) → x ≡ y → EndsAt conf history place x w → EndsAt conf history place y v → w ≡ v
same_end conf history place x y why.Done why.Done same first next = refl
same_end conf history place x y why.Done (why.BadCapture at) same first next =
    absurd (no_bad_end conf history place first.0 (subst (IsBadRecord conf history place) (sym same ∙ first.1) next.1))
same_end conf history place x y (why.BadCapture at) why.Done same first next =
    absurd (no_bad_end conf history place next.0 (subst (IsBadRecord conf history place) (same ∙ next.1) first.1))
same_end conf history place x y (why.BadCapture at) (why.BadCapture to) same first next = ap why.BadCapture (first.0 ∙ sym next.0)
same_end conf history place x y why.ReadFault v same first next = absurd first
same_end conf history place x y why.WriteFault v same first next = absurd first
same_end conf history place x y why.Done why.ReadFault same first next = absurd next
same_end conf history place x y why.Done why.WriteFault same first next = absurd next
same_end conf history place x y (why.BadCapture at) why.ReadFault same first next = absurd next
same_end conf history place x y (why.BadCapture at) why.WriteFault same first next = absurd next

-- the same end, with history and place said otherwise
end_as : (conf : Conf) (h k : History) (p q : ℕ) (x : List ℕ) (w : ReplayWhy) → h ≡ k → p ≡ q → EndsAt conf h p x w → EndsAt conf k q x w
end_as conf h k p q x w history place ends = subst (λ (n : ℕ). EndsAt conf k n x w) place (subst (λ (l : History). EndsAt conf l p x w) history ends)

-- the place behind a record and those that follow it
place_behind : (place : ℕ) (e : Event) (H : List Event) → place + length (text (e ∷ H)) ≡ (place + length (event_bytes e)) + length (text H)
place_behind place e H = omega (arith, length-append (event_bytes e) (text H))

one_end_from :
    (conf : Conf) (history : History) (place : ℕ) (H K : List Event) (x y : List ℕ) (w v : ReplayWhy)
    → AllByRecursion EventFits H → AllByRecursion EventFits K → BeginBelow place H → BeginBelow place K
    → Grows conf (reverse H ++ history) → Grows conf (reverse K ++ history)
    → EndsAt conf (reverse H ++ history) (place + length (text H)) x w → EndsAt conf (reverse K ++ history) (place + length (text K)) y v
    → text H ++ x ≡ text K ++ y → w ≡ v
one_end_from conf history place [] [] x y w v fits also below lower grow grown first next same =
    same_end conf history (place + 0) x y w v same first next
one_end_from conf history place [] (k ∷ K) x y w v fits also below lower grow grown first next same =
    absurd (no_end_at_event conf history place k (text K ++ y) x w (same ∙ append_assoc (event_bytes k) (text K) y) also.0 lower.0
    (first_grows conf k K history grown) (end_as conf history history (place + 0) place x w refl (add-zero place) first))
one_end_from conf history place (h ∷ H) [] x y w v fits also below lower grow grown first next same =
    absurd (no_end_at_event conf history place h (text H ++ x) y v (sym same ∙ append_assoc (event_bytes h) (text H) x) fits.0 below.0
    (first_grows conf h H history grow) (end_as conf history history (place + 0) place y v refl (add-zero place) next))
one_end_from conf history place (h ∷ H) (k ∷ K) x y w v fits also below lower grow grown first next same =
    let one = one_record h k (text H ++ x) (text K ++ y) fits.0 also.0 (sym (append_assoc (event_bytes h) (text H) x) ∙ same ∙ append_assoc (event_bytes k) (text K) y) in
    let there = place_behind place k K ∙ ap (λ (e : Event). (place + length (event_bytes e)) + length (text K)) (sym one.0) in
    let otherwise = behind k K history ∙ ap (λ (e : Event). reverse K ++ (e ∷ history)) (sym one.0) in
    one_end_from conf (h ∷ history) (place + length (event_bytes h)) H K x y w v fits.1 also.1 below.1
    (subst (λ (e : Event). BeginBelow (place + length (event_bytes e)) K) (sym one.0) lower.1)
    (subst (Grows conf) (behind h H history) grow) (subst (Grows conf) otherwise grown)
    (end_as conf _ _ _ _ x w (behind h H history) (place_behind place h H) first) (end_as conf _ _ _ _ y v otherwise there next) one.1

-- from the front on
at_front : (conf : Conf) (events : List Event) (front x : List ℕ) (w : ReplayWhy) → front ≡ text events → EndsAt conf (history_of events) (length front) x w
    → EndsAt conf (reverse events ++ []) (0 + length (text events)) x w
at_front conf events front x w is ends = end_as conf _ _ _ _ x w (sym (append-nil (reverse events))) (ap length is ∙ sym (zero-add (length (text events)))) ends

pub one_end : (conf : Conf) (bytes : List ℕ) (w v : ReplayWhy) → ReplaysTo conf bytes w → ReplaysTo conf bytes v → w ≡ v
one_end conf bytes w v first next =
    one_end_from conf [] 0 first.events next.events first.rest next.rest w v first.before.fits next.before.fits first.below next.below
    (subst (Grows conf) (sym (append-nil (reverse first.events))) first.grows) (subst (Grows conf) (sym (append-nil (reverse next.events))) next.grows)
    (at_front conf first.events first.front first.rest w first.before.written first.here)
    (at_front conf next.events next.front next.rest v next.before.written next.here)
    (ap (λ (l : List ℕ). l ++ first.rest) (sym first.before.written) ∙ sym first.cut ∙ next.cut ∙ ap (λ (l : List ℕ). l ++ next.rest) next.before.written)

-- ---- Done

begins_below : (place : ℕ) (events : List Event) → place + length (text events) < place_limit → BeginBelow place events
begins_below place [] short = tt
begins_below place (e ∷ events) short =
    (omega (arith, short), begins_below (place + length (event_bytes e)) events (omega (arith, short, place_behind place e events)))

pub is_done : (conf : Conf) (bytes : List ℕ) (events : List Event) → SpellsEvents events bytes → length bytes < place_limit → Grows conf (history_of events) → ReplaysTo conf bytes why.Done
is_done conf bytes events spells short grow = record {
  events = events;
  front = bytes;
  rest = [];
  cut = sym (append-nil bytes);
  before = spells;
  below = begins_below 0 events (omega (arith, short, ap length spells.written));
  grows = grow;
  here = (short, refl);
}

pub done_spells : (conf : Conf) (bytes : List ℕ) → ReplaysTo conf bytes why.Done → SpellsGrowing conf bytes
done_spells conf bytes is =
    let whole : is.front ≡ bytes = sym (append-nil is.front) ∙ ap (λ (l : List ℕ). is.front ++ l) (sym is.here.1) ∙ sym is.cut in
    record {
      events = is.events;
      spells = subst (SpellsEvents is.events) whole is.before;
      short = subst (λ (l : List ℕ). length l < place_limit) whole is.here.0;
      grows = is.grows;
    }

-- a replay that is done took all the bytes, which spell one history
pub whole : (conf : Conf) (before now : Seen) (result : ReplayEnd) (bytes : List ℕ) (events : List Event) → Replays conf before now result → before.left ≡ Some bytes
    → SpellsEvents events bytes → result.why ≡ why.Done → ReportsAll conf (history_of events) result before.written now.written
whole conf before now result bytes events r is spells done =
    let ends : IsDone conf (history_of r.events) result (length r.front) r.ahead before now =
    subst (λ (w : ReplayWhy). ReplayEndsBy conf r.events result (length r.front) r.ahead before now w) done r.ends in
    let rest = took_some before.left now.left bytes (r.front ++ r.ahead) r.took is in
    let front : bytes ≡ r.front = rest.2 ∙ append_assoc r.front r.ahead rest.0
    ∙ ap (λ (l : List ℕ). r.front ++ (r.ahead ++ l)) (used_up now.left rest.0 rest.1 ends.ends.ended)
    ∙ ap (λ (l : List ℕ). r.front ++ (l ++ [])) ends.ends.none ∙ append-nil r.front in
    let same = one_history bytes r.events events (subst (SpellsEvents r.events) (sym front) r.spells) spells in
    record {
      totals = subst (λ (l : List Event). AreTotals conf (history_of l) result) same r.totals;
      written = subst (λ (l : List Event). Added before.written now.written (report_of conf (history_of l) ++ total_line result.sent result.moved result.refused)) same ends.written;
    }

-- ---- The causes, and the counts

end_reads : (conf : Conf) (events : List Event) (result : ReplayEnd) (place : ℕ) (ahead : List ℕ) (before now : Seen) (w : ReplayWhy)
    → ReplayEndsBy conf events result place ahead before now w → (before.read_faults ≤ now.read_faults) × (w ≡ why.ReadFault → Rose before.read_faults now.read_faults)
end_reads conf events result place ahead before now why.Done ends = (omega (arith, ends.no_read_fault), λ is. cc is)
end_reads conf events result place ahead before now (why.BadCapture at) ends = (omega (arith, ends.no_read_fault), λ is. cc is)
end_reads conf events result place ahead before now why.ReadFault ends = (ends.cause.later, λ is. omega (arith, ends.cause.once))
end_reads conf events result place ahead before now why.WriteFault ends = (omega (arith, ends.no_read_fault), λ is. cc is)

end_writes : (conf : Conf) (events : List Event) (result : ReplayEnd) (place : ℕ) (ahead : List ℕ) (before now : Seen) (w : ReplayWhy)
    → ReplayEndsBy conf events result place ahead before now w → (before.write_faults ≤ now.write_faults) × (w ≡ why.WriteFault → Rose before.write_faults now.write_faults)
end_writes conf events result place ahead before now why.Done ends = (omega (arith, ends.no_write_fault), λ is. cc is)
end_writes conf events result place ahead before now (why.BadCapture at) ends = (omega (arith, ends.no_write_fault), λ is. cc is)
end_writes conf events result place ahead before now why.ReadFault ends = (omega (arith, ends.no_write_fault), λ is. cc is)
end_writes conf events result place ahead before now why.WriteFault ends = (ends.cause.later, λ is. omega (arith, ends.cause.once))

pub reads : (conf : Conf) (before now : Seen) (result : ReplayEnd) → Replays conf before now result
    → (before.read_faults ≤ now.read_faults) × (result.why ≡ why.ReadFault → Rose before.read_faults now.read_faults)
reads conf before now result r = end_reads conf r.events result (length r.front) r.ahead before now result.why r.ends

pub writes : (conf : Conf) (before now : Seen) (result : ReplayEnd) → Replays conf before now result
    → (before.write_faults ≤ now.write_faults) × (result.why ≡ why.WriteFault → Rose before.write_faults now.write_faults)
writes conf before now result r = end_writes conf r.events result (length r.front) r.ahead before now result.why r.ends

pub complete : (conf : Conf) (before now : Seen) (result : ReplayEnd) (bytes : List ℕ) (events : List Event) → Replays conf before now result → before.left ≡ Some bytes
    → SpellsEvents events bytes → length bytes < place_limit → Grows conf (history_of events)
    → ¬ Rose before.read_faults now.read_faults → ¬ Rose before.write_faults now.write_faults → result.why ≡ why.Done
complete conf before now result bytes events r is spells short grow no_read no_write =
    let told = told_by conf before now result bytes r is (λ w. no_read ((reads conf before now result r).1 w)) (λ w. no_write ((writes conf before now result r).1 w)) in
    one_end conf bytes result.why why.Done told (is_done conf bytes events spells short grow)
