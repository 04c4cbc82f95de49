use Rattle.edge_seen.specs.Seen.{Seen, silent}
use Rattle.std.proofs.Common.{◌≡◌, [], Err, ap, refl}
use Rattle.run_deeds.specs.declared.life_end.Why.TheVariants.{BadVersion, DiskFault}
use Rattle.run_deeds.specs.Weaving.{Calls, Turns}
use Rattle.member_run.specs.Running.{totals_of}
use Rattle.member_run.proofs.Writes.{closes_version}
use Rattle.member_run.proofs.Living.{lives_closed, lives_never, lives_stopped}
use Rattle.member_run.proofs.Causes.{none_blamed, none_fell}
use Rattle.member_run.proofs.Enough.{done_within}
use Rattle.member_run.proofs.life.live.Goals as goal
use Rattle.member_run.proofs.life.live.Goals.{in-Ok-turned, in-Err-turned}

pub returns-in-Err-clause-lives : goal.returns-in-Err-clause-lives
returns-in-Err-clause-lives g c =
    let e = c.in-Err.ensures in
    let asked : Seen → Seen = λ others. record others { link = g.L.Link.told c.args.link.now; link_faults = g.L.Link.faults c.args.link.now; words = g.E.Entropy.words c.args.entropy.now; entropy_faults = g.E.Entropy.faults c.args.entropy.now } in
    rw c.nothing.ensures
    (λ others.
    lives_never c.args.conf c.args.turns (g.D.Disk.told c.args.disk.now) (g.D.Disk.told c.start.new.disk) _ _ c.in-Err.why e.never
    (e.begins (asked others) (Calls []))
    (λ is. e.version (ap Err is)) (λ is. e.refused (ap Err is))
    (λ version fault. e.loadable (λ is. version (let same : c.in-Err.why ≡ BadVersion = cc in same)) (λ is. fault (let same : c.in-Err.why ≡ DiskFault = cc in same)))
    e.calls e.least e.still_loads e.any_moment e.unused
    (λ version fault. e.loaded (λ is. version (let same : c.in-Err.why ≡ BadVersion = cc in same)) (λ is. fault (let same : c.in-Err.why ≡ DiskFault = cc in same)))
    (λ is. e.stopped (ap Err is)))

pub returns-in-Err-clause-complete : goal.returns-in-Err-clause-complete
returns-in-Err-clause-complete g c = let l = returns-in-Err-clause-lives g c silent in none_blamed _ l.woven.ending l.woven.need _ _ l.ended.ends

pub returns-in-Err-clause-enough : goal.returns-in-Err-clause-enough
returns-in-Err-clause-enough g c = done_within c.args.conf c.args.turns _ _ _ _ _ (returns-in-Err-clause-lives g c silent)

pub returns-in-Err-clause-clock_count : goal.returns-in-Err-clause-clock_count
returns-in-Err-clause-clock_count g c = let l = returns-in-Err-clause-lives g c silent in (none_fell _ l.woven.ending l.woven.need _ _ l.ended.ends).clock

pub returns-in-Err-clause-disk_count : goal.returns-in-Err-clause-disk_count
returns-in-Err-clause-disk_count g c = let l = returns-in-Err-clause-lives g c silent in (none_fell _ l.woven.ending l.woven.need _ _ l.ended.ends).disk

pub returns-in-Err-clause-out_count : goal.returns-in-Err-clause-out_count
returns-in-Err-clause-out_count g c = let l = returns-in-Err-clause-lives g c silent in (none_fell _ l.woven.ending l.woven.need _ _ l.ended.ends).out

pub returns-in-Err-clause-capture_count : goal.returns-in-Err-clause-capture_count
returns-in-Err-clause-capture_count g c = let l = returns-in-Err-clause-lives g c silent in (none_fell _ l.woven.ending l.woven.need _ _ l.ended.ends).capture

pub returns-clause-lives : goal.returns-clause-lives
returns-clause-lives g c =
    let e = c.in-Ok.ensures in
    let entry = g.D.Disk.told c.args.disk.now in
    let mid = g.D.Disk.told c.start.new.disk in
    let exit = g.D.Disk.told c.take_turns-turned.new.disk in
    let running = c.in-Ok.running in
    let after = c.take_turns-turned.new.self in
    let asked : Seen → Seen = λ others. record others { link = g.L.Link.told c.args.link.now; link_faults = g.L.Link.faults c.args.link.now; words = g.E.Entropy.words c.args.entropy.now; entropy_faults = g.E.Entropy.faults c.args.entropy.now } in
    let begun = λ (others : Seen). e.begins (asked others) (Turns c.args.turns) in
    let loads = e.loadable (λ is. let bad : ⊥ = cc in bad) (λ is. let bad : ⊥ = cc in bad) in
    rw c.end_of.ensures
    (elim c.match-turned.branch [
      | in-Ok-turned w ↦
          rw (w.ended-is, w.out-is)
          (λ others.
          lives_closed others c.args.conf c.args.turns entry mid exit _ _ _ _ _ _ _ _ _ _ _ _ _ _ _ running after _ (begun others) e.going (w.in-Ok-turned.ensures.turns others)
          (record {
            loads = loads;
            start = e.calls;
            first = e.least;
            next = w.in-Ok-turned.ensures.least;
            loads_first = e.still_loads;
            loads_next = w.in-Ok-turned.ensures.still_loads;
            stands = e.any_moment;
            unused_first = e.unused;
            unused_next = w.in-Ok-turned.ensures.unused;
            is_mid = g.D.Disk.is_disk c.start.new.disk;
            is_exit = g.D.Disk.is_disk c.take_turns-turned.new.disk;
          })
          w.in-Ok-turned.ensures.covers w.in-Ok-turned.ensures.going w.close-ended.ensures)
      | in-Err-turned w ↦
          rw (w.ended-is, w.out-is)
          (λ others.
          lives_stopped c.args.conf c.args.turns entry mid exit _ _ _ running after w.in-Err-turned.why (λ is. w.in-Err-turned.ensures.never.0 (ap Err is)) (begun others) e.going (w.in-Err-turned.ensures.turns others)
          (record {
            loads = loads;
            start = e.calls;
            first = e.least;
            next = w.in-Err-turned.ensures.least;
            loads_first = e.still_loads;
            loads_next = w.in-Err-turned.ensures.still_loads;
            stands = e.any_moment;
            unused_first = e.unused;
            unused_next = w.in-Err-turned.ensures.unused;
            is_mid = g.D.Disk.is_disk c.start.new.disk;
            is_exit = g.D.Disk.is_disk c.take_turns-turned.new.disk;
          })
          w.in-Err-turned.ensures.covers (λ is. w.in-Err-turned.ensures.stopped (ap Err is)))
    ])

pub returns-clause-complete : goal.returns-clause-complete
returns-clause-complete g c = let l = returns-clause-lives g c silent in none_blamed _ l.woven.ending l.woven.need _ _ l.ended.ends

pub returns-clause-enough : goal.returns-clause-enough
returns-clause-enough g c = done_within c.args.conf c.args.turns _ _ _ _ _ (returns-clause-lives g c silent)

pub returns-clause-clock_count : goal.returns-clause-clock_count
returns-clause-clock_count g c = let l = returns-clause-lives g c silent in (none_fell _ l.woven.ending l.woven.need _ _ l.ended.ends).clock

pub returns-clause-disk_count : goal.returns-clause-disk_count
returns-clause-disk_count g c = let l = returns-clause-lives g c silent in (none_fell _ l.woven.ending l.woven.need _ _ l.ended.ends).disk

pub returns-clause-out_count : goal.returns-clause-out_count
returns-clause-out_count g c = let l = returns-clause-lives g c silent in (none_fell _ l.woven.ending l.woven.need _ _ l.ended.ends).out

pub returns-clause-capture_count : goal.returns-clause-capture_count
returns-clause-capture_count g c = let l = returns-clause-lives g c silent in (none_fell _ l.woven.ending l.woven.need _ _ l.ended.ends).capture

pub returns-in-Err-clause-untouched : goal.returns-in-Err-clause-untouched
returns-in-Err-clause-untouched g c =
    rw c.nothing.ensures
    (λ is.
    let left = c.in-Err.ensures.untouched (ap Err is) in
    (refl, left.0, refl, left.1, left.2))

pub returns-clause-untouched : goal.returns-clause-untouched
returns-clause-untouched g c =
    rw c.end_of.ensures
    (λ is.
    absurd
    (elim c.match-turned.branch [
      | in-Ok-turned w ↦ closes_version (totals_of c.take_turns-turned.new.self) _ _ _ _ _ w.close-ended.ensures (rw w.ended-is at is)
      | in-Err-turned w ↦ w.in-Err-turned.ensures.never.1 (let version = rw w.ended-is at is in ap Err version)
    ]))

pub returns-clause-link_count : goal.returns-clause-link_count
returns-clause-link_count g c = (returns-clause-lives g c silent).ended.link_failed.later

pub returns-clause-entropy_count : goal.returns-clause-entropy_count
returns-clause-entropy_count g c = let l = returns-clause-lives g c silent in (none_fell _ l.woven.ending l.woven.need _ _ l.ended.ends).entropy
