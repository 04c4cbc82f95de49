-- The Life of a service, whatever calls come behind it.
use Rattle.std.proofs.Common.{◌≡◌, ℕ, ℤ, List, [], ◌∷◌, map, flat_map, IfSome, refl, sym, ◌∙◌, ap, subst}
use Rattle.edge_seen.specs.Seen.{Seen}
use Rattle.edge_traits.specs.Clock.{ClockCall}
use Rattle.edge_traits.specs.Link.{LinkCall}
use Rattle.capture_fmt.specs.declared.event.Event.{Event}
use Rattle.capture_fmt.specs.declared.event.Event.TheVariants.{Life}
use Rattle.slot_disk.specs.Told.{DiskTold}
use Rattle.stamp_keep.specs.Image.{mark_of_image}
use Rattle.time_machine.specs.declared.conf.Conf.{Conf}
use Rattle.time_machine.specs.Events.{History}
use Rattle.time_machine.specs.Machine.{told}
use Rattle.sntp_core.specs.Standing.{StandsForHistory, conf_of}
use Rattle.run_deeds.specs.declared.life_end.LifeEnd.{LifeEnd}
use Rattle.run_deeds.specs.declared.life_end.Why.TheVariants.{Done}
use Rattle.run_deeds.specs.Counting.{ended}
use Rattle.run_deeds.specs.Deeds.{Deed, Take, all_done, events_in, history_after}
use Rattle.run_deeds.specs.Marks.{Reserved}
use Rattle.run_deeds.specs.Weaving.{Calls, Need, Start, Stood, Weaves, none, acts, life}
use Rattle.member_run.specs.declared.running.Running.{Running}
use Rattle.member_run.specs.Running.{kept_of, member_of, totals_of}
use Rattle.member_run.specs.Starting.{HasBegun}
use Rattle.member_run.proofs.Ordered.{events_of}
use Rattle.service_run.proofs.Works.{Works, ran_of, works_of}

-- what was woven of a Life behind which nothing comes
life_of : {conf : Conf} {stood : Stood} {history : History} {cs : List ClockCall} {ws : List ℕ} {ls : List LinkCall} {es : List Event} {need : Need}
    → Weaves conf (Start stood (Calls [])) history cs ws ls es need → need ≡ Calls [] → (now : ℤ) × (es ≡ Life now stood.mark ∷ [])
life_of none is = absurd (let bad : ⊥ = cc is in bad)
life_of (life none) is = absurd (let bad : ⊥ = cc is in bad)
life_of (life {now = now} (acts tried are none)) is = (now, refl)

-- the same is woven where something comes
life_before : {conf : Conf} {stood : Stood} {next : Need} {history : History} {cs : List ClockCall} {ws : List ℕ} {ls : List LinkCall} {es : List Event} {need : Need}
    → Weaves conf (Start stood (Calls [])) history cs ws ls es need → need ≡ Calls [] → Weaves conf (Start stood next) history cs ws ls es next
life_before none is = absurd (let bad : ⊥ = cc is in bad)
life_before (life none) is = absurd (let bad : ⊥ = cc is in bad)
life_before (life (acts tried are none)) is = life (acts tried are none)

works_before : (conf : Conf) (stood : Stood) (next : Need) (a b : Seen) (kept kept' : ℕ) (old new : LifeEnd) (ds : List Deed)
    → Works conf (Start stood (Calls [])) (Calls []) [] a b kept kept' old new ds → Works conf (Start stood next) next [] a b kept kept' old new ds
works_before conf stood next a b kept kept' old new ds one = record {
  given = one.given;
  weaves = life_before one.weaves refl;
  does = one.does;
  grows = one.grows;
  tallies = one.tallies;
  same = one.same;
  reserved = one.reserved;
}

-- The Life was taken, whatever is needed behind it.
pub record Began (conf : Conf) (entry : DiskTold) (before now : Seen) (running : Running) : Type 0 where
  pub stood : Stood
  pub stood_for : IfSome entry.content (λ c. stood.mark ≡ mark_of_image c)
  pub life : ℤ
  pub works : (next : Need) → Works conf (Start stood next) next [] before now stood.mark stood.mark (ended Done) (totals_of running) (Take (Life life stood.mark) ∷ [])
  pub kept : kept_of running ≡ stood.mark
  pub is_set : conf_of (member_of running) ≡ conf
  pub stands : StandsForHistory (member_of running) (Life life stood.mark ∷ [])
  pub reserved : Reserved stood.mark (told conf (Life life stood.mark ∷ []))

pub began_of : (conf : Conf) (entry : DiskTold) (before now : Seen) (running : Running) → HasBegun conf (Calls []) entry before now running → Began conf entry before now running
began_of conf entry before now running begun =
    let stood = begun.stood in
    let mark = stood.mark in
    let from = Start stood (Calls []) in
    let r = begun.part.runs in
    let deeds = all_done r.deeds r.ending in
    let one = works_of conf from [] before now mark mark (ended Done) (totals_of running) r.given r.deeds r.ending r.need
    (ran_of conf from [] before now mark mark (ended Done) (totals_of running) Done r) in
    let taken : flat_map events_in deeds ≡ r.taken = ap (flat_map events_in) r.takes ∙ events_of r.taken in
    let first = life_of one.weaves refl in
    let are : deeds ≡ Take (Life first.0 mark) ∷ [] = r.takes ∙ ap (map Take) (sym taken ∙ first.1) in
    let Rest : List Deed → Type 0 = λ (ds : List Deed). Reserved mark (told conf (history_after [] ds)) in
    record {
      stood = stood;
      stood_for = begun.stood_for;
      life = first.0;
      works = λ next.
          let All : List Deed → Type 0 = λ (ds : List Deed). Works conf (Start stood next) next [] before now mark mark (ended Done) (totals_of running) ds in
          subst All are (works_before conf stood next before now mark mark (ended Done) (totals_of running) deeds one);
      kept = begun.kept;
      is_set = begun.part.is_set;
      stands = subst (λ (ds : List Deed). StandsForHistory (member_of running) (history_after [] ds)) are begun.part.stands;
      reserved = subst Rest are (subst (λ (k : ℕ). Reserved k (told conf (history_after [] deeds))) begun.kept begun.reserved);
    }
