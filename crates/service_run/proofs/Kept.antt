-- What the calls of a session did to the disk.
use Rattle.std.proofs.Common.{◌≡◌, ◌≢◌, ◌⊎◌, inl, inr, ◌<◌, ◌≤◌, ◌+◌, ◌*◌, ◌/◌, ◌^◌, ◌↔◌, ℕ, List, [], ◌∷◌, refl, sym, ap, subst, unwrap_or, arith}
use Rattle.capture_fmt.specs.declared.event.Event.{Event}
use Rattle.capture_fmt.specs.declared.event.Event.TheVariants.{Life, Tick, Resync, Arrive}
use Rattle.slot_disk.specs.Calls.{LeavesOnly}
use Rattle.slot_disk.specs.Told.{DiskTold, IsDisk}
use Rattle.stamp_keep.specs.Image.{mark_of_image}
use Rattle.stamp_keep.proofs.Moments.{started, weaker}
use Rattle.time_machine.specs.declared.conf.Conf.{Conf}
use Rattle.time_machine.specs.Events.{History}
use Rattle.time_machine.specs.Machine.{told}
use Rattle.time_machine.specs.Words.{life_at}
use Rattle.edge_seen.specs.Seen.{Seen}
use Rattle.sntp_core.specs.declared.member.Member.{Member}
use Rattle.run_deeds.specs.declared.life_end.LifeEnd.{LifeEnd}
use Rattle.run_deeds.specs.declared.life_end.Why.{Why}
use Rattle.run_deeds.specs.declared.life_end.Why.TheVariants.{Done, DiskFault, BadVersion, StampsSpent}
use Rattle.run_deeds.specs.Deeds.{all_done, history_after}
use Rattle.run_deeds.specs.Lives.{StandsForBlocks}
use Rattle.run_deeds.specs.Marks.{Reserved}
use Rattle.run_deeds.specs.Parts.{Part}
use Rattle.run_deeds.specs.Weaving.{Calls, SyncCall, followed_by}
use Rattle.member_run.specs.declared.running.Running.{Running}
use Rattle.member_run.specs.Running.{CallsWhereDue, IsGoing, IsUsedUp, RisesWhereDue, kept_of, member_of}
use Rattle.member_run.proofs.Blocks.{IsTurn, NoAsk, NoLife, blocks_in, blocks_low, mark_in, sends_in, turn_reserves}
use Rattle.member_run.proofs.Turning.{Counted, block_end, blocks_on, calls_fail, calls_on, due_by, moments_end, moments_on, room_on, some_or_none, spent_or_other}
use Rattle.w32t_calls.specs.declared.call.Call.{Call}
use Rattle.w32t_calls.specs.declared.call.Given.{Given}
use Rattle.service_run.specs.Answering.{AreArrivals, IsPartOf}
use Rattle.service_run.specs.One.{KeepsOne}
use Rattle.service_run.specs.Profile.{Profile}
use Rattle.service_run.proofs.Answered.{StoppedSo}

-- ---- The events of a call

arrivals_unasked : (es : List Event) → AreArrivals es → NoAsk es
arrivals_unasked [] are = tt
arrivals_unasked (Arrive now from bytes ∷ es) are = ((refl, refl), arrivals_unasked es are)
arrivals_unasked (Life now mark ∷ es) are = absurd are
arrivals_unasked (Tick now word ∷ es) are = absurd are
arrivals_unasked (Resync now word flags ∷ es) are = absurd are

arrivals_later : (es : List Event) → AreArrivals es → NoLife es
arrivals_later [] are = tt
arrivals_later (Arrive now from bytes ∷ es) are = (refl, arrivals_later es are)
arrivals_later (Life now mark ∷ es) are = absurd are
arrivals_later (Tick now word ∷ es) are = absurd are
arrivals_later (Resync now word flags ∷ es) are = absurd are

pub part_turn : (call : SyncCall) (es : List Event) → IsPartOf call es → IsTurn es
part_turn call [] is = absurd is
part_turn call (Resync now word flags ∷ es) is = (refl, arrivals_unasked es is.1)
part_turn call (Life now mark ∷ es) is = absurd is
part_turn call (Tick now word ∷ es) is = absurd is
part_turn call (Arrive now from bytes ∷ es) is = absurd is

pub part_later : (call : SyncCall) (es : List Event) → IsPartOf call es → NoLife es
part_later call [] is = absurd is
part_later call (Resync now word flags ∷ es) is = (refl, arrivals_later es is.1)
part_later call (Life now mark ∷ es) is = absurd is
part_later call (Tick now word ∷ es) is = absurd is
part_later call (Arrive now from bytes ∷ es) is = absurd is

-- a whole part reserves what it asks for
part_blocks : (conf : Conf) (history : History) (call : SyncCall) (es : List Event) → IsPartOf call es → 1 + sends_in conf history / 64 ≤ blocks_in conf (followed_by history es)
part_blocks conf history call es is = by_turn es is (turn_reserves conf history es (part_turn call es is))
  where
    by_turn : (es : List Event) → IsPartOf call es → (es ≡ []) ⊎ (blocks_in conf (followed_by history es) ≡ 1 + sends_in conf history / 64) → 1 + sends_in conf history / 64 ≤ blocks_in conf (followed_by history es)
    by_turn [] is more = absurd is
    by_turn (e ∷ es) is (inl nothing) = absurd (let no : e ∷ es ≡ [] = nothing in let bad : ⊥ = cc in bad)
    by_turn (e ∷ es) is (inr more) = omega (arith, more)

-- ---- The disk, call by call

-- after a history, in whose last life counts were reserved as they were due, up to another: the disk was called for the
-- blocks that were begun between them, and no image stands for more than these
pub record KeptSo (conf : Conf) (history later : History) (kept : ℕ) (entry exit : DiskTold) : Type 0 where
  pub calls : Reserved kept (told conf history) → exit.time + 5 * blocks_in conf history ≤ entry.time + 5 * blocks_in conf later
  pub most : Reserved kept (told conf history) → LeavesOnly entry exit (λ image. mark_of_image image ≤ block_end conf later)

pub kept_none : (conf : Conf) (history : History) (running : Running) (disk : DiskTold) → IsDisk disk → IsGoing disk running → KeptSo conf history history (kept_of running) disk disk
kept_none conf history running disk is going = record {
  calls = λ was. omega arith;
  most = λ was. started disk (λ image. mark_of_image image ≤ block_end conf history) is
      (λ image left. let blocks = was.blocks in omega (arith, going.fits.stands image left, blocks));
}

-- a call that asks for a request
pub kept_more : (conf : Conf) (history between : History) (kept : ℕ) (call : SyncCall) (events : List Event) (mid : Running) (e m x : DiskTold)
    → KeptSo conf history between kept e m → (Reserved kept (told conf history) → Counted mid conf between) → IsPartOf call events → CallsWhereDue mid m x → RisesWhereDue mid m x
    → KeptSo conf history (followed_by between events) kept e x
kept_more conf history between kept call events mid e m x was counted is calls rises = record {
  calls = λ reserved. calls_on conf between events mid e m x (blocks_in conf history) (part_later call events is) (counted reserved) calls (was.calls reserved) (part_blocks conf between call events is);
  most = λ reserved. moments_on conf between events mid e m x (part_later call events is) (counted reserved) (part_blocks conf between call events is) (was.most reserved) rises;
}

-- ---- Where a call stopped the run, or none did

begun_later : (at : SyncCall) (es : List Event) → (es ≡ []) ⊎ IsPartOf at es → NoLife es
begun_later at [] begins = tt
begun_later at (e ∷ es) (inl nothing) = absurd (let no : e ∷ es ≡ [] = nothing in let bad : ⊥ = cc in bad)
begun_later at (e ∷ es) (inr is) = part_later at (e ∷ es) is

begun_turn : (at : SyncCall) (es : List Event) → (es ≡ []) ⊎ IsPartOf at es → IsTurn es
begun_turn at [] begins = tt
begun_turn at (e ∷ es) (inl nothing) = absurd (let no : e ∷ es ≡ [] = nothing in let bad : ⊥ = cc in bad)
begun_turn at (e ∷ es) (inr is) = part_turn at (e ∷ es) is

pub kept_stopped : (conf : Conf) (profile : Profile) (history between : History) (a b : Seen) (member : Member) (kept kept' : ℕ) (old new : LifeEnd)
    (calls : List Call) (answers : List Given) (parts : List (List Event)) (at : SyncCall) (why : Why)
    (so : StoppedSo conf profile history a b member kept kept' old new calls answers parts at why between) (mid : Running) (e m x : DiskTold)
    → KeptSo conf history between kept e m → (Reserved kept (told conf history) → Counted mid conf between)
    → CallsWhereDue mid m x → RisesWhereDue mid m x → why ≢ BadVersion
    → (why ≡ DiskFault → IsUsedUp mid) → why ≡ StampsSpent ↔ (IsUsedUp mid × (4294967231 < kept_of mid)) → mid.last ≤ kept_of mid → kept_of mid < 2 ^ 32
    → (why ≡ StampsSpent → x ≡ m)
    → KeepsOne conf history so.part e x
kept_stopped conf profile history between a b member kept kept' old new calls answers parts at why so mid e m x was counted due rises never used spent covered below still =
    let later = begun_later at so.events so.begins in
    let reserves = turn_reserves conf between so.events (begun_turn at so.events so.begins) in
    record {
      disk = λ reserved.
          let c = counted reserved in
          let all = calls_fail conf between so.events mid e m x (blocks_in conf history) later c due (was.calls reserved) in
          let is = due_by why conf between so.events mid c so.disk so.spent never used spent.0 in
          let room = room_on why conf between so.events mid later c so.spent (λ full high. spent.1 (full, high)) covered below reserves (some_or_none so.events) in
          record { calls = rw so.ends all; within = rw so.ends room; due = rw so.ends is };
      blocks = λ reserved.
          let all = blocks_on why so.part.runs.ending so.part.runs.need conf between so.events mid e m x (blocks_in conf history) later (counted reserved) due (was.calls reserved)
          reserves so.first (λ is. ap (λ (d : DiskTold). d.time) (still is)) (spent_or_other why) in
          rw so.ends all;
      most = λ reserved.
          let P : History → Type 0 = λ (h : History). LeavesOnly e x (StandsForBlocks why so.part.runs.ending so.part.runs.need (life_at (told conf h)) (unwrap_or (mark_in conf h) 0)) in
          subst P (sym so.ends)
          (moments_end why so.part.runs.ending so.part.runs.need conf between so.events mid e m x later (counted reserved) (was.most reserved) rises reserves so.first still (spent_or_other why));
    }

-- where none did
pub kept_whole : (conf : Conf) (history : History) (asked : List SyncCall) (a b : Seen) (new : Running) (kept : ℕ) (start end : LifeEnd) (e x : DiskTold)
    (part : Part conf (Calls asked) (Calls []) history a b (member_of new) kept (kept_of new) start end Done)
    → KeptSo conf history (history_after history (all_done part.runs.deeds part.runs.ending)) kept e x → IsGoing x new
    → KeepsOne conf history part e x
kept_whole conf history asked a b new kept start end e x part was going = record {
  disk = λ reserved.
      let behind = history_after history (all_done part.runs.deeds part.runs.ending) in
      record {
        calls = omega (arith, was.calls reserved, blocks_low (life_at (told conf behind)));
        within = let blocks = (part.runs.reserved refl reserved).blocks in omega (arith, going.below, blocks);
        due = tt;
      };
  blocks = λ reserved. inl (was.calls reserved);
  most = λ reserved. weaker (was.most reserved) (λ image low. inl low);
}
