use Rattle.std.proofs.Common.{◌≡◌, ◌+◌, ◌∙◌, Ok, Err, ap, refl, arith}
use Rattle.std.proofs.lemmas.Result.{err_from_is_err_and}
use Rattle.base_specs.proofs.Counting.{fails_none, fails_once, fails_still}
use Rattle.base_specs.proofs.Telling.{grew_none}
use Rattle.run_deeds.specs.declared.life_end.Why.TheVariants.{DiskFault, SinkFault}
use Rattle.member_run.proofs.Leaving.{stops_then, unused_then}
use Rattle.member_run.proofs.Turning.{going_covers, loads_then, marks_then}
use Rattle.service_run.specs.Profile.{profile_of}
use Rattle.service_run.specs.Sessions.{Nothing, Over, Unopened}
use Rattle.service_run.specs.declared.serving.Stop.TheVariants as stop
use Rattle.service_run.proofs.Served.{all_cut, all_ended, all_none, all_stopped, before_line, served_more}
use Rattle.service_run.proofs.serving.serve_all.Goals as goal

pub loop-served-init : goal.loop-served-init
loop-served-init g c =
    all_none (profile_of c.args.settings.now c.args.ranked.now) c.args.running.now (g.D.Disk.told c.args.disk.now) _ (g.W.Wire.told c.args.wire.now) _ _ (g.D.Disk.is_disk c.args.disk.now) c.requires.going

pub serve_session-requires-clause-going : goal.serve_session-requires-clause-going
serve_session-requires-clause-going g c = c.loop-served.invariant.going

-- ---- A session was stopped

pub returns-in_err-end-in-Session-clause-serves : goal.returns-in_err-end-in-Session-clause-serves
returns-in_err-end-in-Session-clause-serves g c =
    let p = err_from_is_err_and c.from_residual.result c.from_residual.ensures.1 in
    let e = c.in_err-end-in-Session.ensures in
    rw (p.1, p.2)
    (λ others history stands.
    all_stopped (profile_of c.args.settings.now c.args.ranked.now) c.args.sessions history c.args.running.now c.loop-served.running c.serve_session.new.running c.loop-served.served
    _ _ _ _ _ _ _ _ _ _ _ _ _ _ _ _ _ _ c.in_err-end-in-Session.field-0.0 (c.loop-served.invariant.so others history stands) c.loop-served-test.true
    c.in-Session.ensures.opens c.in-Session.ensures.cause c.in-Session.ensures.writes (e.serves others) e.counts)

pub returns-in_err-end-in-Session-clause-least : goal.returns-in_err-end-in-Session-clause-least
returns-in_err-end-in-Session-clause-least g c = marks_then c.loop-served.invariant.least c.in_err-end-in-Session.ensures.least

pub returns-in_err-end-in-Session-clause-still_loads : goal.returns-in_err-end-in-Session-clause-still_loads
returns-in_err-end-in-Session-clause-still_loads g c = loads_then c.loop-served.invariant.loads c.in_err-end-in-Session.ensures.still_loads

pub returns-in_err-end-in-Session-clause-unused : goal.returns-in_err-end-in-Session-clause-unused
returns-in_err-end-in-Session-clause-unused g c = unused_then (g.D.Disk.is_disk c.loop-served.disk) c.loop-served.invariant.unused c.in_err-end-in-Session.ensures.unused

pub returns-in_err-end-in-Session-clause-stopped : goal.returns-in_err-end-in-Session-clause-stopped
returns-in_err-end-in-Session-clause-stopped g c =
    let p = err_from_is_err_and c.from_residual.result c.from_residual.ensures.1 in
    rw (p.1, p.2)
    (λ is.
    let why : c.in_err-end-in-Session.field-0.0 ≡ DiskFault = cc is in
    stops_then _ c.loop-served.invariant.least (c.in_err-end-in-Session.ensures.stopped (ap Err why)))

-- ---- Its line could not be written

pub returns-in_err-write_session_line-in-Session-clause-serves : goal.returns-in_err-write_session_line-in-Session-clause-serves
returns-in_err-write_session_line-in-Session-clause-serves g c =
    let p = err_from_is_err_and c.from_residual-in_err-write_session_line-in-Session.result c.from_residual-in_err-write_session_line-in-Session.ensures.1 in
    let e = c.in_ok-end-in-Session.ensures in
    let fault : c.in_err-write_session_line-in-Session.field-0.0 ≡ SinkFault = cc c.in_err-write_session_line-in-Session.ensures.why in
    let wrote = rw fault at c.in_err-write_session_line-in-Session.ensures.bytes in
    rw (p.1, p.2, fault)
    (λ others history stands.
    all_cut others (profile_of c.args.settings.now c.args.ranked.now) c.args.sessions history c.args.running.now c.serve_session.new.running (c.loop-served.served + 1)
    _ _ _ _ _ _ _ _ _ _ _ _ _ _ _ _ _ _ _ _ _ _ c.in_ok-end-in-Session.end wrote.0
    (before_line (profile_of c.args.settings.now c.args.ranked.now) history c.args.running.now c.loop-served.running c.serve_session.new.running c.loop-served.served
    _ _ _ _ _ _ _ _ _ _ _ _ _ _ _ _ _ _ c.in_ok-end-in-Session.end (c.loop-served.invariant.so others history stands)
    c.in-Session.ensures.opens c.in-Session.ensures.cause c.in-Session.ensures.writes (e.serves others) e.counts)
    (omega (arith, c.loop-served-test.true)) e.going wrote.1 wrote.2)

pub returns-in_err-write_session_line-in-Session-clause-least : goal.returns-in_err-write_session_line-in-Session-clause-least
returns-in_err-write_session_line-in-Session-clause-least g c = marks_then c.loop-served.invariant.least c.in_ok-end-in-Session.ensures.least

pub returns-in_err-write_session_line-in-Session-clause-unused : goal.returns-in_err-write_session_line-in-Session-clause-unused
returns-in_err-write_session_line-in-Session-clause-unused g c = unused_then (g.D.Disk.is_disk c.loop-served.disk) c.loop-served.invariant.unused c.in_ok-end-in-Session.ensures.unused

-- ---- No session would come

pub returns-in-NoMore-clause-serves : goal.returns-in-NoMore-clause-serves
returns-in-NoMore-clause-serves g c others history stands =
    let i = c.loop-served.invariant in
    let was = i.so others history stands in
    all_ended (profile_of c.args.settings.now c.args.ranked.now) c.args.sessions history c.args.running.now c.loop-served.running c.loop-served.served _ _ _ _ _ _ _ _ _ _ _ _ _ Over (Ok tt)
    was i.going tt refl (omega (arith, c.loop-served-test.true)) (λ served size. tt) c.in-NoMore.ensures.opens
    (fails_still 0 _ _ _ (fails_none _) c.in-NoMore.ensures.cause) c.in-NoMore.ensures.writes

pub returns-in-NoMore-clause-going : goal.returns-in-NoMore-clause-going
returns-in-NoMore-clause-going g c done = c.loop-served.invariant.going

pub returns-in-NoMore-clause-least : goal.returns-in-NoMore-clause-least
returns-in-NoMore-clause-least g c = c.loop-served.invariant.least

pub returns-in-NoMore-clause-still_loads : goal.returns-in-NoMore-clause-still_loads
returns-in-NoMore-clause-still_loads g c = c.loop-served.invariant.loads

pub returns-in-NoMore-clause-unused : goal.returns-in-NoMore-clause-unused
returns-in-NoMore-clause-unused g c = c.loop-served.invariant.unused

pub returns-in-NoMore-clause-covers : goal.returns-in-NoMore-clause-covers
returns-in-NoMore-clause-covers g c = going_covers (g.D.Disk.told c.loop-served.disk) c.loop-served.running c.loop-served.invariant.going

-- ---- The request for a session failed

pub returns-in-Failed-clause-serves : goal.returns-in-Failed-clause-serves
returns-in-Failed-clause-serves g c others history stands =
    let i = c.loop-served.invariant in
    let was = i.so others history stands in
    all_ended (profile_of c.args.settings.now c.args.ranked.now) c.args.sessions history c.args.running.now c.loop-served.running c.loop-served.served _ _ _ _ _ _ _ _ _ _ _ _ _ Unopened (Err stop.Unopened)
    was i.going tt refl (omega (arith, c.loop-served-test.true)) (λ served size. refl) c.in-Failed.ensures.opens
    (fails_once _ _ c.in-Failed.ensures.cause) c.in-Failed.ensures.writes

pub returns-in-Failed-clause-going : goal.returns-in-Failed-clause-going
returns-in-Failed-clause-going g c done = c.loop-served.invariant.going

pub returns-in-Failed-clause-least : goal.returns-in-Failed-clause-least
returns-in-Failed-clause-least g c = c.loop-served.invariant.least

pub returns-in-Failed-clause-still_loads : goal.returns-in-Failed-clause-still_loads
returns-in-Failed-clause-still_loads g c = c.loop-served.invariant.loads

pub returns-in-Failed-clause-unused : goal.returns-in-Failed-clause-unused
returns-in-Failed-clause-unused g c = c.loop-served.invariant.unused

pub returns-in-Failed-clause-covers : goal.returns-in-Failed-clause-covers
returns-in-Failed-clause-covers g c = going_covers (g.D.Disk.told c.loop-served.disk) c.loop-served.running c.loop-served.invariant.going

-- ---- One session more, and its line

pub loop-served-preserved : goal.loop-served-preserved
loop-served-preserved g c =
    let i = c.loop-served.invariant in
    let e = c.in_ok-end-in-Session.ensures in
    let wrote = c.in_ok-write_session_line-in-Session.ensures.bytes in
    record {
      going = e.going;
      so = λ others history stands.
          served_more others (profile_of c.args.settings.now c.args.ranked.now) history c.args.running.now c.serve_session.new.running (c.loop-served.served + 1)
          _ _ _ _ _ _ _ _ _ _ _ _ _ _ _ _ _ _ _ _ _ _ c.in_ok-end-in-Session.end
          (before_line (profile_of c.args.settings.now c.args.ranked.now) history c.args.running.now c.loop-served.running c.serve_session.new.running c.loop-served.served
          _ _ _ _ _ _ _ _ _ _ _ _ _ _ _ _ _ _ c.in_ok-end-in-Session.end (i.so others history stands)
          c.in-Session.ensures.opens c.in-Session.ensures.cause c.in-Session.ensures.writes (e.serves others) e.counts)
          wrote.0 wrote.1;
      least = marks_then i.least e.least;
      loads = loads_then i.loads e.still_loads;
      unused = unused_then (g.D.Disk.is_disk c.loop-served.disk) i.unused e.unused;
    }

-- ---- All sessions were served

pub returns-clause-serves : goal.returns-clause-serves
returns-clause-serves g c others history stands =
    let i = c.loop-served.invariant in
    let was = i.so others history stands in
    let all : c.loop-served.served ≡ c.args.sessions = omega arith in
    all_ended (profile_of c.args.settings.now c.args.ranked.now) c.args.sessions history c.args.running.now c.loop-served.running c.loop-served.served _ _ _ _ _ _ _ _ _ _ _ _ _ Nothing (Ok tt)
    was i.going tt refl (omega (arith, all)) (λ served size. size ∙ all) (grew_none _) (fails_none _) refl

pub returns-clause-going : goal.returns-clause-going
returns-clause-going g c done = c.loop-served.invariant.going

pub returns-clause-least : goal.returns-clause-least
returns-clause-least g c = c.loop-served.invariant.least

pub returns-clause-still_loads : goal.returns-clause-still_loads
returns-clause-still_loads g c = c.loop-served.invariant.loads

pub returns-clause-unused : goal.returns-clause-unused
returns-clause-unused g c = c.loop-served.invariant.unused

pub returns-clause-covers : goal.returns-clause-covers
returns-clause-covers g c = going_covers (g.D.Disk.told c.loop-served.disk) c.loop-served.running c.loop-served.invariant.going
