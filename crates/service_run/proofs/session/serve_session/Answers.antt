use Rattle.std.proofs.Common.{◌≡◌, ◌∙◌, inl, refl, ap, Err, arith}
use Rattle.std.proofs.lemmas.Result.{err_from_is_err_and}
use Rattle.run_deeds.specs.declared.life_end.Why.TheVariants.{DiskFault}
use Rattle.member_run.proofs.Leaving.{stops_then, unused_then}
use Rattle.member_run.proofs.Turning.{loads_then, marks_then}
use Rattle.w32t_calls.proofs.Going.{opens_none_both}
use Rattle.service_run.specs.Profile.{profile_of}
use Rattle.service_run.proofs.Goings.{cut_so, ended_so, goes_none, goes_on, stopped_call}
use Rattle.service_run.proofs.Wired.{is_new}
use Rattle.service_run.proofs.session.serve_session.Goals as goal

pub loop-call-init : goal.loop-call-init
loop-call-init g c = (
  goes_none (profile_of c.args.settings.now c.args.ranked.now) c.args.running.now c.new-session.result (g.D.Disk.told c.args.disk.now) _ (g.W.Wire.told c.args.wire.now) (g.D.Disk.is_disk c.args.disk.now) c.requires.going
      c.new-session.ensures.idle c.requires.fresh (c.new-session.ensures.fresh _ (is_new _ c.requires.fresh)),
  c.requires.open,
  refl,
  refl,
  inl refl,
)

pub returns-in-Err-clause-serves : goal.returns-in-Err-clause-serves
returns-in-Err-clause-serves g c others history stands =
    let i = c.loop-call.invariant.0 in
    ended_so (profile_of c.args.settings.now c.args.ranked.now) history c.args.running.now c.loop-call.running c.loop-call.session c.next.new.self _ _ _ _ _ _ _ c.in-Err.end (i.so others history stands) i.going
    (λ answers served. c.in-Err.ensures.run answers c.loop-call.invariant.1 served)

pub returns-in-Err-clause-sessions : goal.returns-in-Err-clause-sessions
returns-in-Err-clause-sessions g c = opens_none_both _ _ _ c.loop-call.invariant.4 c.in-Err.ensures.sessions

pub returns-in_err-given-clause-serves : goal.returns-in_err-given-clause-serves
returns-in_err-given-clause-serves g c =
    let p = err_from_is_err_and c.from_residual.result c.from_residual.ensures.1 in
    let i = c.loop-call.invariant.0 in
    let e = c.in_err-given.ensures in
    rw (p.1, p.2)
    (λ others history stands.
    stopped_call (profile_of c.args.settings.now c.args.ranked.now) history c.args.running.now c.loop-call.running c.answer.new.running c.loop-call.session c.next.new.self _ _ _ _ _ _ _ _ _ c.in-Ok.call c.in_err-given.field-0.0
    (i.so others history stands) i.going (λ answers served. c.in-Ok.ensures.run answers c.loop-call.invariant.1 served) c.in-Ok.ensures.waits (e.answers others) e.calls e.most
    (λ is. e.never.1 (ap Err is)) (λ is. (e.disk (ap Err is)).1) (λ is. e.spent.0 (ap Err is), λ full. let same = e.spent.1 full in cc same) (λ is. ap g.D.Disk.told (e.spent_still (ap Err is))))

pub returns-in_err-given-clause-sessions : goal.returns-in_err-given-clause-sessions
returns-in_err-given-clause-sessions g c = opens_none_both _ _ _ c.loop-call.invariant.4 c.in-Ok.ensures.sessions

pub returns-in_err-given-clause-least : goal.returns-in_err-given-clause-least
returns-in_err-given-clause-least g c = marks_then c.loop-call.invariant.0.least c.in_err-given.ensures.least

pub returns-in_err-given-clause-still_loads : goal.returns-in_err-given-clause-still_loads
returns-in_err-given-clause-still_loads g c = loads_then c.loop-call.invariant.0.loads c.in_err-given.ensures.still_loads

pub returns-in_err-given-clause-unused : goal.returns-in_err-given-clause-unused
returns-in_err-given-clause-unused g c = unused_then (g.D.Disk.is_disk c.loop-call.disk) c.loop-call.invariant.0.unused c.in_err-given.ensures.unused

pub returns-in_err-given-clause-stopped : goal.returns-in_err-given-clause-stopped
returns-in_err-given-clause-stopped g c =
    let p = err_from_is_err_and c.from_residual.result c.from_residual.ensures.1 in
    rw (p.1, p.2)
    (λ is.
    let why : c.in_err-given.field-0.0 ≡ DiskFault = cc is in
    stops_then _ c.loop-call.invariant.0.least (c.in_err-given.ensures.stopped (ap Err why)))

pub returns-in-Err-reply-clause-serves : goal.returns-in-Err-reply-clause-serves
returns-in-Err-reply-clause-serves g c =
    let i = c.loop-call.invariant.0 in
    let e = c.in_ok-given.ensures in
    let why = c.in-Err-reply.ensures.cause.0 in
    let awaits = c.in-Ok.ensures.waits c.in_ok-given.given e.kind in
    rw why
    (λ others history stands.
    cut_so (profile_of c.args.settings.now c.args.ranked.now) history c.args.running.now c.loop-call.running c.answer.new.running c.loop-call.session c.next.new.self c.reply.new.self _ _ _ _ _ _ _ _ _ _ c.in-Ok.call c.in_ok-given.given awaits.1.0
    (i.so others history stands) i.going e.going (λ answers served. c.in-Ok.ensures.run answers c.loop-call.invariant.1 served) awaits.1.1 (e.answers others) e.calls e.most
    (λ no. ap g.D.Disk.told (e.idle no).0) (λ answers served. rw why at c.in-Err-reply.ensures.run answers (c.in-Ok.ensures.open ∙ c.loop-call.invariant.1) served))

pub returns-in-Err-reply-clause-sessions : goal.returns-in-Err-reply-clause-sessions
returns-in-Err-reply-clause-sessions g c =
    opens_none_both _ _ _ (opens_none_both _ _ _ c.loop-call.invariant.4 c.in-Ok.ensures.sessions) c.in-Err-reply.ensures.sessions

pub returns-in-Err-reply-clause-least : goal.returns-in-Err-reply-clause-least
returns-in-Err-reply-clause-least g c = marks_then c.loop-call.invariant.0.least c.in_ok-given.ensures.least

pub returns-in-Err-reply-clause-still_loads : goal.returns-in-Err-reply-clause-still_loads
returns-in-Err-reply-clause-still_loads g c = loads_then c.loop-call.invariant.0.loads c.in_ok-given.ensures.still_loads

pub returns-in-Err-reply-clause-unused : goal.returns-in-Err-reply-clause-unused
returns-in-Err-reply-clause-unused g c = unused_then (g.D.Disk.is_disk c.loop-call.disk) c.loop-call.invariant.0.unused c.in_ok-given.ensures.unused

pub loop-call-smaller : goal.loop-call-smaller
loop-call-smaller g c = omega (arith, c.in-Ok.ensures.later, c.in-Ok.ensures.within, c.in_default.ensures.same_pdus)

pub loop-call-preserved : goal.loop-call-preserved
loop-call-preserved g c =
    let i = c.loop-call.invariant.0 in
    let e = c.in_ok-given.ensures in
    let r = c.in_default.ensures in
    let awaits = c.in-Ok.ensures.waits c.in_ok-given.given e.kind in (
      goes_on (profile_of c.args.settings.now c.args.ranked.now) c.args.running.now c.loop-call.running c.answer.new.running c.loop-call.session c.next.new.self c.reply.new.self _ _ _ _ _ _ _ _ _ _ c.in-Ok.call c.in_ok-given.given awaits.1.0
          i (λ answers served. c.in-Ok.ensures.run answers c.loop-call.invariant.1 served) awaits.1.1 e.answers e.going e.calls e.most e.least e.still_loads
          (g.D.Disk.is_disk c.loop-call.disk) e.unused (λ no. ap g.D.Disk.told (e.idle no).0) (λ answers served. r.run answers (c.in-Ok.ensures.open ∙ c.loop-call.invariant.1) served) r.idle,
      r.open ∙ c.in-Ok.ensures.open ∙ c.loop-call.invariant.1,
      r.reads ∙ c.in-Ok.ensures.cause.no_read (λ is. let bad : ⊥ = cc is in bad) ∙ c.loop-call.invariant.2,
      r.cause ∙ c.in-Ok.ensures.cause.no_write (λ is. let bad : ⊥ = cc is in bad) ∙ c.loop-call.invariant.3,
      opens_none_both _ _ _ (opens_none_both _ _ _ c.loop-call.invariant.4 c.in-Ok.ensures.sessions) r.sessions,
    )
