-- The first part of a run.
use Rattle.std.proofs.Common.{◌≡◌, ◌≢◌, ◌<◌, ◌+◌, ◌^◌, ℕ, ℤ, List, [], ◌∷◌, Option, Some, None, IfSome, IsSome, refl, sym, ◌∙◌, ap, subst, arith}
use Rattle.base_specs.specs.Counts.{Fails}
use Rattle.edge_traits.specs.Clock.{ClockCall, GaveReadings, Read}
use Rattle.edge_traits.specs.Link.{LinkCall}
use Rattle.capture_fmt.specs.declared.event.Event.TheVariants.{Life}
use Rattle.slot_disk.specs.Told.{DiskTold}
use Rattle.stamp_keep.specs.Image.{mark_of_image}
use Rattle.stamp_keep.specs.Keep.{Fits}
use Rattle.time_machine.specs.declared.conf.Conf.{Conf}
use Rattle.time_machine.specs.Growing.{Grows}
use Rattle.time_machine.specs.Machine.{told}
use Rattle.time_machine.specs.Words.{Words, words}
use Rattle.time_machine.specs.After.{after}
use Rattle.sntp_core.specs.declared.member.Member.{Member}
use Rattle.sntp_core.specs.Standing.{StandsForHistory, conf_of, words_of}
use Rattle.run_deeds.specs.declared.life_end.LifeEnd.{LifeEnd}
use Rattle.run_deeds.specs.declared.life_end.Why.{Why}
use Rattle.run_deeds.specs.declared.life_end.Why.TheVariants.{Done, DiskFault, BadVersion, StampsSpent, ClockFault, EntropyFault, SinkFault}
use Rattle.run_deeds.specs.Counting.{ended}
use Rattle.run_deeds.specs.Deeds.{all_done, history_after}
use Rattle.edge_seen.specs.Seen.{Seen}
use Rattle.run_deeds.specs.Devices.{faults, nothing, living}
use Rattle.run_deeds.specs.Marks.{Reserved, last_count}
use Rattle.run_deeds.specs.Weaving.{Need, Start, Stood, life, none}
use Rattle.run_deeds.proofs.Doing.{does_read}
use Rattle.run_deeds.proofs.Stopping.{does_still, runs_stop, tallies_none}
use Rattle.member_run.specs.declared.running.Running.{Running}
use Rattle.member_run.specs.Reserving.{BlamedBy}
use Rattle.member_run.specs.Running.{IsGoing, kept_of, member_of, totals_of}
use Rattle.member_run.specs.Starting.{HasBegun, HasStopped}
use Rattle.member_run.specs.Taking.{Takes}
use Rattle.member_run.proofs.Counts.{words_step}
use Rattle.member_run.proofs.Parting.{runs_takes, take_whole, whole_history}

-- ---- Before the Life

grows_none : (conf : Conf) → Grows conf []
unfolding Grows
grows_none conf = tt

-- the content stands for some mark
some_mark : (content : Option (List ℕ)) → (mark : ℕ) × IfSome content (λ c. mark ≡ mark_of_image c)
some_mark None = (0, tt)
some_mark (Some c) = (mark_of_image c, refl)

-- no keeper was loaded
pub no_keeper : (others : Seen) (conf : Conf) (next : Need) (entry : DiskTold) (link : Option (List LinkCall)) (clock : Option (List ClockCall)) (words capture out : Option (List ℕ))
    (lf cf ef df df' kf of : ℕ) (why : Why) → BlamedBy why df df' → why ≢ StampsSpent
    → HasStopped conf next entry (living others link clock words capture out lf (faults cf ef df kf of)) (living others link clock words capture out lf (faults cf ef df' kf of)) why
no_keeper others conf next entry link clock words capture out lf cf ef df df' kf of DiskFault blamed other =
    let mark = some_mark entry.content in
    let stood : Stood = record { mark = mark.0 } in
    record {
      stood = stood;
      stood_for = mark.1;
      runs = runs_stop conf (Start stood next) (Start stood next) next [] nothing (living others link clock words capture out lf (faults cf ef df kf of)) (living others link clock words capture out lf (faults cf ef df' kf of))
          mark.0 mark.0 (ended Done) DiskFault (λ is. cc is) (grows_none conf) (tallies_none conf [] (ended Done)) none
          (does_still others conf [] link clock words capture out lf (faults cf ef df kf of) (faults cf ef df' kf of)) (tt, tt, (blamed, refl));
    }
no_keeper others conf next entry link clock words capture out lf cf ef df df' kf of BadVersion blamed other =
    let mark = some_mark entry.content in
    let stood : Stood = record { mark = mark.0 } in
    record {
      stood = stood;
      stood_for = mark.1;
      runs = runs_stop conf (Start stood next) (Start stood next) next [] nothing (living others link clock words capture out lf (faults cf ef df kf of)) (living others link clock words capture out lf (faults cf ef df' kf of))
          mark.0 mark.0 (ended Done) BadVersion (λ is. cc is) (grows_none conf) (tallies_none conf [] (ended Done)) none
          (does_still others conf [] link clock words capture out lf (faults cf ef df kf of) (faults cf ef df' kf of)) (tt, tt, λ i. faults cf ef (blamed i) kf of);
    }
no_keeper others conf next entry link clock words capture out lf cf ef df df' kf of StampsSpent blamed other = absurd (other refl)
no_keeper others conf next entry link clock words capture out lf cf ef df df' kf of Done blamed other = absurd blamed
no_keeper others conf next entry link clock words capture out lf cf ef df df' kf of ClockFault blamed other = absurd blamed
no_keeper others conf next entry link clock words capture out lf cf ef df df' kf of EntropyFault blamed other = absurd blamed
no_keeper others conf next entry link clock words capture out lf cf ef df df' kf of SinkFault blamed other = absurd blamed

-- the clock failed
pub no_life : (others : Seen) (conf : Conf) (next : Need) (entry : DiskTold) (mark : ℕ) (link : Option (List LinkCall)) (clock clock' : Option (List ClockCall)) (words capture out : Option (List ℕ))
    (lf cf cf' ef df df' kf of : ℕ) (why : Why) → IfSome entry.content (λ c. mark ≡ mark_of_image c) → why ≡ ClockFault → clock' ≡ clock → Fails cf cf' → df' ≡ df
    → HasStopped conf next entry (living others link clock words capture out lf (faults cf ef df kf of)) (living others link clock' words capture out lf (faults cf' ef df' kf of)) why
no_life others conf next entry mark link clock clock' words capture out lf cf cf' ef df df' kf of why stood_for is same fails disk =
    let stood : Stood = record { mark = mark } in
    rw (is, same) (record {
      stood = stood;
      stood_for = stood_for;
      runs = runs_stop conf (Start stood next) (Start stood next) next [] nothing (living others link clock words capture out lf (faults cf ef df kf of)) (living others link clock words capture out lf (faults cf' ef df' kf of))
          mark mark (ended Done) ClockFault (λ is. cc is) (grows_none conf) (tallies_none conf [] (ended Done)) none
          (does_still others conf [] link clock words capture out lf (faults cf ef df kf of) (faults cf' ef df' kf of)) (tt, tt, (fails, λ i. faults cf' ef (disk i) kf of));
    })

-- ---- The Life

-- its mark is the one up to which counts are reserved
life_reserved : (conf : Conf) (now : ℤ) (mark : ℕ) → Reserved mark (told conf (Life now mark ∷ []))
unfolding told
life_reserved conf now mark = record { blocks = omega arith; within = omega arith; needed = omega arith }

-- it could not be taken whole
pub life_cut : (others : Seen) (set conf : Conf) (next : Need) (entry : DiskTold) (now : ℤ) (mark : ℕ) (link : Option (List LinkCall)) (clock clock' : Option (List ClockCall)) (words capture out : Option (List ℕ))
    (lf cf cf' ef df df' kf of : ℕ) (after : Seen) (member : Member) (new : LifeEnd) (why : Why)
    → set ≡ conf → IfSome entry.content (λ c. mark ≡ mark_of_image c) → GaveReadings clock clock' (now ∷ []) → cf' ≡ cf → df' ≡ df → why ≡ SinkFault
    → new ≡ ended Done
    → Takes set [] (Life now mark) [] (living others link clock' words capture out lf (faults cf' ef df' kf of)) after member (ended Done) new why
    → HasStopped conf next entry (living others link clock words capture out lf (faults cf ef df kf of)) after why
life_cut others set conf next entry now mark link clock clock' words capture out lf cf cf' ef df df' kf of after member new why is_set stood_for gave read disk is uncounted takes =
    let stood : Stood = record { mark = mark } in
    let same = rw (uncounted, is_set) at takes in
    let no_done : why ≢ Done = λ (done : why ≡ Done). cc (is, done) in
    record {
      stood = stood;
      stood_for = stood_for;
      runs = runs_takes conf (Start stood next) next [] (Life now mark) (record { clock = Read now ∷ []; words = []; link = [] }) []
          (living others link clock words capture out lf (faults cf ef df kf of)) (living others link clock' words capture out lf (faults cf' ef df' kf of)) after member mark mark (ended Done) (ended Done) why
          (does_read others conf [] link clock clock' words capture out lf (faults cf ef df kf of) (faults cf' ef df' kf of) now gave)
          (tallies_none conf [] (ended Done)) (λ i. faults (read i) ef (disk i) kf of) same (λ cs ls need s. life s) tt (λ tried posted some. tt) (λ done. absurd (no_done done));
    }

-- it was taken
pub life_taken : (others : Seen) (set conf : Conf) (next : Need) (entry : DiskTold) (now : ℤ) (mark : ℕ) (link : Option (List LinkCall)) (clock clock' : Option (List ClockCall)) (words capture out : Option (List ℕ))
    (lf cf cf' ef df df' kf of : ℕ) (after : Seen) (running : Running)
    → set ≡ conf → IfSome entry.content (λ c. mark ≡ mark_of_image c) → kept_of running ≡ mark → GaveReadings clock clock' (now ∷ []) → cf' ≡ cf → df' ≡ df
    → Takes set [] (Life now mark) [] (living others link clock' words capture out lf (faults cf' ef df' kf of)) after (member_of running) (ended Done) (totals_of running) Done
    → HasBegun conf next entry (living others link clock words capture out lf (faults cf ef df kf of)) after running
life_taken others set conf next entry now mark link clock clock' words capture out lf cf cf' ef df df' kf of after running is_set stood_for kept gave read disk taken =
    let takes = rw is_set at taken in
    let stood : Stood = record { mark = mark } in
    let whole : history_after [] (all_done takes.deeds takes.ending) ≡ Life now mark ∷ [] =
    whole_history [] (Life now mark) takes.deeds takes.ending (take_whole Done takes.ending _ _ takes.ends refl) takes.events in
    record {
      stood = stood;
      stood_for = stood_for;
      kept = kept;
      part = record {
        runs = runs_takes conf (Start stood next) next [] (Life now mark) (record { clock = Read now ∷ []; words = []; link = [] }) []
            (living others link clock words capture out lf (faults cf ef df kf of)) (living others link clock' words capture out lf (faults cf' ef df' kf of)) after (member_of running) mark mark (ended Done) (totals_of running) Done
            (does_read others conf [] link clock clock' words capture out lf (faults cf ef df kf of) (faults cf' ef df' kf of) now gave)
            (tallies_none conf [] (ended Done)) (λ i. faults (read i) ef (disk i) kf of) takes (λ cs ls need s. life s) tt (λ tried posted some. tt) (λ is was. life_reserved conf now mark);
        is_set = takes.is_set;
        stands = takes.stands;
      };
      reserved = rw (kept, whole) (life_reserved conf now mark);
    }

-- ---- What the run then knows

-- nothing was sent yet
fresh_words : (conf : Conf) → (words conf (told conf [])).greatest ≡ 0
unfolding words told
fresh_words conf = refl

pub fresh_greatest : (member : Member) → StandsForHistory member [] → (words_of member).greatest ≡ 0
fresh_greatest member stands = ap (λ (w : Words). w.greatest) stands.keeps ∙ fresh_words (conf_of member)

counts_none : (mark : ℕ) → mark ≡ mark + 0
counts_none mark = omega arith

-- a call may follow
pub going_begun : (disk : DiskTold) (fresh : Member) (running : Running) (now : ℤ) (mark : ℕ) → mark < 2 ^ 32 → StandsForHistory fresh [] → conf_of running.member ≡ conf_of fresh
    → StandsForHistory running.member (Life now mark ∷ []) → Some running.last ≡ Some mark → Fits disk running.keeper → kept_of running ≡ mark → IsGoing disk running
going_begun disk fresh running now mark low was same stands last fits kept =
    let is : words_of running.member ≡ after (conf_of fresh) (words_of fresh) (Life now mark) = words_step fresh running.member [] (Life now mark) was stands same in
    let last : running.last ≡ mark = cc last in
    let greatest : (words_of running.member).greatest ≡ 0 = ap (λ (w : Words). w.greatest) is ∙ fresh_greatest fresh was in
    record {
      begun = record {
        history = Life now mark ∷ [];
        stands = stands;
        begun = subst (λ (w : Words). IsSome w.mark) (sym is) refl;
        last = last ∙ counts_none mark ∙ ap last_count (sym is);
        greatest = omega (arith, greatest);
      };
      fits = fits;
      within = omega (arith, last, kept);
      below = omega (arith, low, kept);
    }
