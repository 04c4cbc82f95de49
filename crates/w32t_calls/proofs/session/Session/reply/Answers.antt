use Rattle.std.proofs.Common.{sym, ◌∙◌, ap, subst, Option, false}
use Rattle.w32t_calls.specs.declared.asked.Asked.{Asked}
use Rattle.w32t_calls.specs.Standing.{HasServed, Server}
use Rattle.w32t_calls.proofs.Replying.{reply_done, reply_failed}
use Rattle.w32t_calls.proofs.session.Session.reply.Goals as goal

pub returns-in-Done-clause-run : goal.returns-in-Done-clause-run
returns-in-Done-clause-run g c answers is_open served =
    let s = c.self.inside in
    let view = ap (λ (w : Option Asked). record { alive = s.alive; reader = s.reader; accepted = s.accepted; pdus = s.pdus; waiting = w }) (sym c.in-Some.is) ∙ c.self.view_is in
    reply_done s.alive s.alive s.reader s.accepted s.pdus c.in-Some.asked c.args.given.now answers _ _ _ c.response.result c.response.ensures
    (subst (λ (server : Server). HasServed answers server (g.W.Wire.told c.args.wire.now)) (sym view) served) c.in-Done.ensures.bytes

pub returns-in-Failed-clause-run : goal.returns-in-Failed-clause-run
returns-in-Failed-clause-run g c answers is_open served =
    let s = c.self.inside in
    let view = ap (λ (w : Option Asked). record { alive = s.alive; reader = s.reader; accepted = s.accepted; pdus = s.pdus; waiting = w }) (sym c.in-Some.is) ∙ c.self.view_is in
    reply_failed s.alive false s.reader s.accepted s.pdus c.in-Some.asked c.args.given.now answers _ _ _ c.response.result is_open c.response.ensures
    (subst (λ (server : Server). HasServed answers server (g.W.Wire.told c.args.wire.now)) (sym view) served) c.in-Failed.ensures.bytes
