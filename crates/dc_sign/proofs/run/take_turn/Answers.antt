use Rattle.std.proofs.Common.{rules, w64, refl}
use Rattle.std.proofs.lemmas.Int.{to_z-of_z}
use Rattle.dc_sign.specs.Serving.{serving}
use Rattle.dc_sign.proofs.Exchanges.{answered_turn, lost_turn, quiet_turn}
use Rattle.dc_sign.proofs.run.take_turn.Goals as goal

pub returns-in_ok-t2-in-Got-clause-turn : goal.returns-in_ok-t2-in-Got-clause-turn
returns-in_ok-t2-in-Got-clause-turn g c =
    let received = to_z-of_z w64 c.in_ok-t2-in-Got.t2 (search rules) in
    let sent = to_z-of_z w64 c.in_ok-t2-in-Got.t3 (search rules) in
    λ others. answered_turn (g.K.Keys.accounts c.args.keys.now) c.local-info.result c.in-Got.from c.in-Got.request c.in_ok-t2-in-Got.t2 c.in_ok-t2-in-Got.t3
    c.answer-answer.result c.send_answer.result
    (serving others (g.L.Link.told c.args.link.now) (g.L.Link.faults c.args.link.now) (g.C.Clock.told c.args.clock.now) (g.C.Clock.faults c.args.clock.now))
    (serving others (g.L.Link.told c.send_answer.new.link) (g.L.Link.faults c.send_answer.new.link) (g.C.Clock.told c.two_readings.new.clock) (g.C.Clock.faults c.two_readings.new.clock))
    (g.L.Link.told c.recv.new.self) (g.L.Link.faults c.recv.new.self)
    c.in-Got.ensures.gives c.in-Got.ensures.cause c.in_ok-t2-in-Got.ensures.given c.in_ok-t2-in-Got.ensures.no_fault
    (rw received at c.local-info.ensures.local)
    (rw (received, sent, c.as_slice.ensures.bytes) at c.answer-answer.ensures.answers)
    c.send_answer.ensures

pub returns-in-Quiet-clause-turn : goal.returns-in-Quiet-clause-turn
returns-in-Quiet-clause-turn g c = λ others. quiet_turn (g.K.Keys.accounts c.args.keys.now) _ _ c.in-Quiet.ensures.gives c.in-Quiet.ensures.cause refl refl

pub returns-in-Failed-clause-turn : goal.returns-in-Failed-clause-turn
returns-in-Failed-clause-turn g c = λ others. lost_turn (g.K.Keys.accounts c.args.keys.now) _ _ c.in-Failed.ensures.gives c.in-Failed.ensures.cause refl refl
