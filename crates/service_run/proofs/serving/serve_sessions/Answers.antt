use Rattle.std.proofs.Common.{◌≡◌, [], Err, ap, refl}
use Rattle.edge_seen.specs.Seen.{Seen, silent}
use Rattle.run_deeds.specs.declared.life_end.Why.TheVariants.{Done, BadVersion, DiskFault}
use Rattle.run_deeds.specs.Devices.{faults, living}
use Rattle.run_deeds.specs.Weaving.{Calls}
use Rattle.service_run.specs.Profile.{profile_of}
use Rattle.service_run.proofs.Ended.{completes, fell, places_within, serves_closed, serves_stopped}
use Rattle.service_run.proofs.Whole.{serves_never}
use Rattle.service_run.proofs.serving.serve_sessions.Goals as goal

pub serve_all-served-requires-clause-places : goal.serve_all-served-requires-clause-places
serve_all-served-requires-clause-places g c = places_within c.args.settings.now.role c.args.settings.now.name c.args.settings.now.directory c.args.ranked.now c.requires.ranked

-- ---- The start failed

pub returns-in-Err-clause-serves : goal.returns-in-Err-clause-serves
returns-in-Err-clause-serves g c =
    let e = c.in-Err.ensures in
    let asked : Seen → Seen = λ others. record others { link = g.L.Link.told c.args.link.now; link_faults = g.L.Link.faults c.args.link.now; words = g.E.Entropy.words c.args.entropy.now; entropy_faults = g.E.Entropy.faults c.args.entropy.now } in
    rw c.status_of.ensures
    (λ others.
    serves_never c.args.conf (profile_of c.args.settings.now c.args.ranked.now) c.args.sessions (g.D.Disk.told c.args.disk.now) (g.D.Disk.told c.start.new.disk)
    (living others (g.L.Link.told c.args.link.now) (g.C.Clock.told c.args.clock.now) (g.E.Entropy.words c.args.entropy.now) (g.O.Sink.written c.args.capture.now) (g.O.Sink.written c.args.out.now) (g.L.Link.faults c.args.link.now)
    (faults (g.C.Clock.faults c.args.clock.now) (g.E.Entropy.faults c.args.entropy.now) (g.D.Disk.faults c.args.disk.now) (g.O.Sink.faults c.args.capture.now) (g.O.Sink.faults c.args.out.now)))
    (living others (g.L.Link.told c.args.link.now) (g.C.Clock.told c.start.new.clock) (g.E.Entropy.words c.args.entropy.now) (g.O.Sink.written c.start.new.capture) (g.O.Sink.written c.start.new.out) (g.L.Link.faults c.args.link.now)
    (faults (g.C.Clock.faults c.start.new.clock) (g.E.Entropy.faults c.args.entropy.now) (g.D.Disk.faults c.start.new.disk) (g.O.Sink.faults c.start.new.capture) (g.O.Sink.faults c.start.new.out)))
    (g.W.Wire.told c.args.wire.now) (g.W.Wire.faults c.args.wire.now) (g.W.Wire.write_faults c.args.wire.now) c.in-Err.why e.never
    (e.begins (asked others) (Calls []))
    (λ is. e.version (ap Err is)) (λ is. e.refused (ap Err is))
    (λ version fault. e.loadable (λ is. version (let same : c.in-Err.why ≡ BadVersion = cc in same)) (λ is. fault (let same : c.in-Err.why ≡ DiskFault = cc in same)))
    e.calls e.least e.still_loads e.any_moment e.unused
    (λ version fault. e.loaded (λ is. version (let same : c.in-Err.why ≡ BadVersion = cc in same)) (λ is. fault (let same : c.in-Err.why ≡ DiskFault = cc in same)))
    (λ is. e.stopped (ap Err is)))

pub returns-in-Err-clause-complete : goal.returns-in-Err-clause-complete
returns-in-Err-clause-complete g c = completes _ _ _ _ _ _ _ _ (returns-in-Err-clause-serves g c silent)

pub returns-in-Err-clause-clock_count : goal.returns-in-Err-clause-clock_count
returns-in-Err-clause-clock_count g c = (fell _ _ _ _ _ _ _ _ (returns-in-Err-clause-serves g c silent)).clock

pub returns-in-Err-clause-disk_count : goal.returns-in-Err-clause-disk_count
returns-in-Err-clause-disk_count g c = (fell _ _ _ _ _ _ _ _ (returns-in-Err-clause-serves g c silent)).disk

pub returns-in-Err-clause-out_count : goal.returns-in-Err-clause-out_count
returns-in-Err-clause-out_count g c = (fell _ _ _ _ _ _ _ _ (returns-in-Err-clause-serves g c silent)).out

pub returns-in-Err-clause-capture_count : goal.returns-in-Err-clause-capture_count
returns-in-Err-clause-capture_count g c = (fell _ _ _ _ _ _ _ _ (returns-in-Err-clause-serves g c silent)).capture

-- ---- A session, or the request for one, ended it

pub returns-in-Err-served-clause-serves : goal.returns-in-Err-served-clause-serves
returns-in-Err-served-clause-serves g c =
    let e = c.in-Ok.ensures in
    let s = c.in-Err-served.ensures in
    let asked : Seen → Seen = λ others. record others { link = g.L.Link.told c.args.link.now; link_faults = g.L.Link.faults c.args.link.now; words = g.E.Entropy.words c.args.entropy.now; entropy_faults = g.E.Entropy.faults c.args.entropy.now } in
    let loads = e.loadable (λ is. let bad : ⊥ = cc in bad) (λ is. let bad : ⊥ = cc in bad) in
    rw c.status_of-in-Err-served.ensures
    (λ others.
    serves_stopped c.args.conf (profile_of c.args.settings.now c.args.ranked.now) c.args.sessions (g.D.Disk.told c.args.disk.now) (g.D.Disk.told c.start.new.disk) (g.D.Disk.told c.serve_all-served.new.disk)
    (living others (g.L.Link.told c.args.link.now) (g.C.Clock.told c.args.clock.now) (g.E.Entropy.words c.args.entropy.now) (g.O.Sink.written c.args.capture.now) (g.O.Sink.written c.args.out.now) (g.L.Link.faults c.args.link.now)
    (faults (g.C.Clock.faults c.args.clock.now) (g.E.Entropy.faults c.args.entropy.now) (g.D.Disk.faults c.args.disk.now) (g.O.Sink.faults c.args.capture.now) (g.O.Sink.faults c.args.out.now)))
    (living others (g.L.Link.told c.args.link.now) (g.C.Clock.told c.start.new.clock) (g.E.Entropy.words c.args.entropy.now) (g.O.Sink.written c.start.new.capture) (g.O.Sink.written c.start.new.out) (g.L.Link.faults c.args.link.now)
    (faults (g.C.Clock.faults c.start.new.clock) (g.E.Entropy.faults c.args.entropy.now) (g.D.Disk.faults c.start.new.disk) (g.O.Sink.faults c.start.new.capture) (g.O.Sink.faults c.start.new.out)))
    (living others (g.L.Link.told c.serve_all-served.new.link) (g.C.Clock.told c.serve_all-served.new.clock) (g.E.Entropy.words c.serve_all-served.new.entropy) (g.O.Sink.written c.serve_all-served.new.capture) (g.O.Sink.written c.serve_all-served.new.out) (g.L.Link.faults c.serve_all-served.new.link)
    (faults (g.C.Clock.faults c.serve_all-served.new.clock) (g.E.Entropy.faults c.serve_all-served.new.entropy) (g.D.Disk.faults c.serve_all-served.new.disk) (g.O.Sink.faults c.serve_all-served.new.capture) (g.O.Sink.faults c.serve_all-served.new.out)))
    c.in-Ok.running c.serve_all-served.new.running (g.W.Wire.told c.args.wire.now) (g.W.Wire.told c.serve_all-served.new.wire) (g.W.Wire.faults c.args.wire.now) (g.W.Wire.faults c.serve_all-served.new.wire) (g.W.Wire.write_faults c.args.wire.now) (g.W.Wire.write_faults c.serve_all-served.new.wire) c.in-Err-served.stop
    (e.begins (asked others) (Calls [])) e.going (s.serves others) (λ is. s.never.0 (ap Err is))
    (record {
      loads = loads;
      start = e.calls;
      first = e.least;
      next = s.least;
      loads_first = e.still_loads;
      loads_next = s.still_loads;
      stands = e.any_moment;
      unused_first = e.unused;
      unused_next = s.unused;
      is_mid = g.D.Disk.is_disk c.start.new.disk;
      is_exit = g.D.Disk.is_disk c.serve_all-served.new.disk;
    })
    s.covers (λ is. s.stopped (ap Err is)) s.going)

pub returns-in-Err-served-clause-complete : goal.returns-in-Err-served-clause-complete
returns-in-Err-served-clause-complete g c = completes _ _ _ _ _ _ _ _ (returns-in-Err-served-clause-serves g c silent)

pub returns-in-Err-served-clause-link_count : goal.returns-in-Err-served-clause-link_count
returns-in-Err-served-clause-link_count g c = (returns-in-Err-served-clause-serves g c silent).ended.link_failed.later

pub returns-in-Err-served-clause-read_count : goal.returns-in-Err-served-clause-read_count
returns-in-Err-served-clause-read_count g c = (returns-in-Err-served-clause-serves g c silent).reads.later

pub returns-in-Err-served-clause-write_count : goal.returns-in-Err-served-clause-write_count
returns-in-Err-served-clause-write_count g c = (returns-in-Err-served-clause-serves g c silent).writes.later

pub returns-in-Err-served-clause-clock_count : goal.returns-in-Err-served-clause-clock_count
returns-in-Err-served-clause-clock_count g c = (fell _ _ _ _ _ _ _ _ (returns-in-Err-served-clause-serves g c silent)).clock

pub returns-in-Err-served-clause-entropy_count : goal.returns-in-Err-served-clause-entropy_count
returns-in-Err-served-clause-entropy_count g c = (fell _ _ _ _ _ _ _ _ (returns-in-Err-served-clause-serves g c silent)).entropy

pub returns-in-Err-served-clause-disk_count : goal.returns-in-Err-served-clause-disk_count
returns-in-Err-served-clause-disk_count g c = (fell _ _ _ _ _ _ _ _ (returns-in-Err-served-clause-serves g c silent)).disk

pub returns-in-Err-served-clause-out_count : goal.returns-in-Err-served-clause-out_count
returns-in-Err-served-clause-out_count g c = (fell _ _ _ _ _ _ _ _ (returns-in-Err-served-clause-serves g c silent)).out

pub returns-in-Err-served-clause-capture_count : goal.returns-in-Err-served-clause-capture_count
returns-in-Err-served-clause-capture_count g c = (fell _ _ _ _ _ _ _ _ (returns-in-Err-served-clause-serves g c silent)).capture

-- ---- The closing lines were written

pub returns-in-Ok-close-clause-serves : goal.returns-in-Ok-close-clause-serves
returns-in-Ok-close-clause-serves g c =
    let e = c.in-Ok.ensures in
    let s = c.in_default.ensures in
    let asked : Seen → Seen = λ others. record others { link = g.L.Link.told c.args.link.now; link_faults = g.L.Link.faults c.args.link.now; words = g.E.Entropy.words c.args.entropy.now; entropy_faults = g.E.Entropy.faults c.args.entropy.now } in
    let loads = e.loadable (λ is. let bad : ⊥ = cc in bad) (λ is. let bad : ⊥ = cc in bad) in
    (λ others.
    serves_closed others c.args.conf (profile_of c.args.settings.now c.args.ranked.now) c.args.sessions (g.D.Disk.told c.args.disk.now) (g.D.Disk.told c.start.new.disk) (g.D.Disk.told c.serve_all-served.new.disk)
    (living others (g.L.Link.told c.args.link.now) (g.C.Clock.told c.args.clock.now) (g.E.Entropy.words c.args.entropy.now) (g.O.Sink.written c.args.capture.now) (g.O.Sink.written c.args.out.now) (g.L.Link.faults c.args.link.now)
    (faults (g.C.Clock.faults c.args.clock.now) (g.E.Entropy.faults c.args.entropy.now) (g.D.Disk.faults c.args.disk.now) (g.O.Sink.faults c.args.capture.now) (g.O.Sink.faults c.args.out.now)))
    (living others (g.L.Link.told c.args.link.now) (g.C.Clock.told c.start.new.clock) (g.E.Entropy.words c.args.entropy.now) (g.O.Sink.written c.start.new.capture) (g.O.Sink.written c.start.new.out) (g.L.Link.faults c.args.link.now)
    (faults (g.C.Clock.faults c.start.new.clock) (g.E.Entropy.faults c.args.entropy.now) (g.D.Disk.faults c.start.new.disk) (g.O.Sink.faults c.start.new.capture) (g.O.Sink.faults c.start.new.out)))
    _ _ _ _ _ _ _ _ _ _ _ _ _
    c.in-Ok.running c.serve_all-served.new.running (g.W.Wire.told c.args.wire.now) (g.W.Wire.told c.serve_all-served.new.wire) (g.W.Wire.faults c.args.wire.now) (g.W.Wire.faults c.serve_all-served.new.wire) (g.W.Wire.write_faults c.args.wire.now) (g.W.Wire.write_faults c.serve_all-served.new.wire) Done
    (e.begins (asked others) (Calls [])) e.going (s.serves others)
    (record {
      loads = loads;
      start = e.calls;
      first = e.least;
      next = s.least;
      loads_first = e.still_loads;
      loads_next = s.still_loads;
      stands = e.any_moment;
      unused_first = e.unused;
      unused_next = s.unused;
      is_mid = g.D.Disk.is_disk c.start.new.disk;
      is_exit = g.D.Disk.is_disk c.serve_all-served.new.disk;
    })
    s.covers (s.going refl) c.in-Ok-close.ensures)

pub returns-in-Ok-close-clause-link_count : goal.returns-in-Ok-close-clause-link_count
returns-in-Ok-close-clause-link_count g c = (returns-in-Ok-close-clause-serves g c silent).ended.link_failed.later

pub returns-in-Ok-close-clause-read_count : goal.returns-in-Ok-close-clause-read_count
returns-in-Ok-close-clause-read_count g c = (returns-in-Ok-close-clause-serves g c silent).reads.later

pub returns-in-Ok-close-clause-write_count : goal.returns-in-Ok-close-clause-write_count
returns-in-Ok-close-clause-write_count g c = (returns-in-Ok-close-clause-serves g c silent).writes.later

pub returns-in-Ok-close-clause-clock_count : goal.returns-in-Ok-close-clause-clock_count
returns-in-Ok-close-clause-clock_count g c = (fell _ _ _ _ _ _ _ _ (returns-in-Ok-close-clause-serves g c silent)).clock

pub returns-in-Ok-close-clause-entropy_count : goal.returns-in-Ok-close-clause-entropy_count
returns-in-Ok-close-clause-entropy_count g c = (fell _ _ _ _ _ _ _ _ (returns-in-Ok-close-clause-serves g c silent)).entropy

pub returns-in-Ok-close-clause-disk_count : goal.returns-in-Ok-close-clause-disk_count
returns-in-Ok-close-clause-disk_count g c = (fell _ _ _ _ _ _ _ _ (returns-in-Ok-close-clause-serves g c silent)).disk

pub returns-in-Ok-close-clause-out_count : goal.returns-in-Ok-close-clause-out_count
returns-in-Ok-close-clause-out_count g c = (fell _ _ _ _ _ _ _ _ (returns-in-Ok-close-clause-serves g c silent)).out

pub returns-in-Ok-close-clause-capture_count : goal.returns-in-Ok-close-clause-capture_count
returns-in-Ok-close-clause-capture_count g c = (fell _ _ _ _ _ _ _ _ (returns-in-Ok-close-clause-serves g c silent)).capture

-- ---- One of them was not

pub returns-clause-serves : goal.returns-clause-serves
returns-clause-serves g c =
    let e = c.in-Ok.ensures in
    let s = c.in_default.ensures in
    let asked : Seen → Seen = λ others. record others { link = g.L.Link.told c.args.link.now; link_faults = g.L.Link.faults c.args.link.now; words = g.E.Entropy.words c.args.entropy.now; entropy_faults = g.E.Entropy.faults c.args.entropy.now } in
    let loads = e.loadable (λ is. let bad : ⊥ = cc in bad) (λ is. let bad : ⊥ = cc in bad) in
    rw c.status_of-in-Err-close.ensures
    (λ others.
    serves_closed others c.args.conf (profile_of c.args.settings.now c.args.ranked.now) c.args.sessions (g.D.Disk.told c.args.disk.now) (g.D.Disk.told c.start.new.disk) (g.D.Disk.told c.serve_all-served.new.disk)
    (living others (g.L.Link.told c.args.link.now) (g.C.Clock.told c.args.clock.now) (g.E.Entropy.words c.args.entropy.now) (g.O.Sink.written c.args.capture.now) (g.O.Sink.written c.args.out.now) (g.L.Link.faults c.args.link.now)
    (faults (g.C.Clock.faults c.args.clock.now) (g.E.Entropy.faults c.args.entropy.now) (g.D.Disk.faults c.args.disk.now) (g.O.Sink.faults c.args.capture.now) (g.O.Sink.faults c.args.out.now)))
    (living others (g.L.Link.told c.args.link.now) (g.C.Clock.told c.start.new.clock) (g.E.Entropy.words c.args.entropy.now) (g.O.Sink.written c.start.new.capture) (g.O.Sink.written c.start.new.out) (g.L.Link.faults c.args.link.now)
    (faults (g.C.Clock.faults c.start.new.clock) (g.E.Entropy.faults c.args.entropy.now) (g.D.Disk.faults c.start.new.disk) (g.O.Sink.faults c.start.new.capture) (g.O.Sink.faults c.start.new.out)))
    _ _ _ _ _ _ _ _ _ _ _ _ _
    c.in-Ok.running c.serve_all-served.new.running (g.W.Wire.told c.args.wire.now) (g.W.Wire.told c.serve_all-served.new.wire) (g.W.Wire.faults c.args.wire.now) (g.W.Wire.faults c.serve_all-served.new.wire) (g.W.Wire.write_faults c.args.wire.now) (g.W.Wire.write_faults c.serve_all-served.new.wire) c.in-Err-close.why
    (e.begins (asked others) (Calls [])) e.going (s.serves others)
    (record {
      loads = loads;
      start = e.calls;
      first = e.least;
      next = s.least;
      loads_first = e.still_loads;
      loads_next = s.still_loads;
      stands = e.any_moment;
      unused_first = e.unused;
      unused_next = s.unused;
      is_mid = g.D.Disk.is_disk c.start.new.disk;
      is_exit = g.D.Disk.is_disk c.serve_all-served.new.disk;
    })
    s.covers (s.going refl) c.in-Err-close.ensures)

pub returns-clause-complete : goal.returns-clause-complete
returns-clause-complete g c = completes _ _ _ _ _ _ _ _ (returns-clause-serves g c silent)

pub returns-clause-link_count : goal.returns-clause-link_count
returns-clause-link_count g c = (returns-clause-serves g c silent).ended.link_failed.later

pub returns-clause-read_count : goal.returns-clause-read_count
returns-clause-read_count g c = (returns-clause-serves g c silent).reads.later

pub returns-clause-write_count : goal.returns-clause-write_count
returns-clause-write_count g c = (returns-clause-serves g c silent).writes.later

pub returns-clause-clock_count : goal.returns-clause-clock_count
returns-clause-clock_count g c = (fell _ _ _ _ _ _ _ _ (returns-clause-serves g c silent)).clock

pub returns-clause-entropy_count : goal.returns-clause-entropy_count
returns-clause-entropy_count g c = (fell _ _ _ _ _ _ _ _ (returns-clause-serves g c silent)).entropy

pub returns-clause-disk_count : goal.returns-clause-disk_count
returns-clause-disk_count g c = (fell _ _ _ _ _ _ _ _ (returns-clause-serves g c silent)).disk

pub returns-clause-out_count : goal.returns-clause-out_count
returns-clause-out_count g c = (fell _ _ _ _ _ _ _ _ (returns-clause-serves g c silent)).out

pub returns-clause-capture_count : goal.returns-clause-capture_count
returns-clause-capture_count g c = (fell _ _ _ _ _ _ _ _ (returns-clause-serves g c silent)).capture
