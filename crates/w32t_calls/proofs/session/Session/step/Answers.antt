use Rattle.std.proofs.Common.{◌≡◌, ◌+◌, ◌<◌, false, [], Option, Some, None, Ok, Err, refl, sym, subst, rules}
use Rattle.std.specs.Option.{unwrap_or}
use Rattle.rpc_pdu.specs.declared.pdu.Pdu.{Pdu}
use Rattle.rpc_pdu.specs.Reader.{Nexts}
use Rattle.w32t_calls.specs.declared.end.SessionEnd.TheVariants as end
use Rattle.w32t_calls.specs.Standing.{HasServed, IsIdle, Server, goes_on}
use Rattle.w32t_calls.specs.Steps.{StepTells}
use Rattle.w32t_calls.proofs.Firsts.{Idle}
use Rattle.w32t_calls.proofs.Going.{opens_none_both}
use Rattle.w32t_calls.proofs.Taking.{end_runs, end_tells, fault_not_none, fault_runs, fault_tells, pdu_runs, pdu_tells, took_pdu}
use Rattle.w32t_calls.proofs.session.Session.step.Goals as goal

pub returns-in-Ok-Some-clause-told : goal.returns-in-Ok-Some-clause-told
returns-in-Ok-Some-clause-told g c bytes leaves no_read no_write =
    let s = c.self.inside in
    let old : Server = record { alive = s.alive; reader = s.reader; accepted = s.accepted; pdus = s.pdus; waiting = s.waiting } in
    let mid : Server = record { alive = s.alive; reader = c.next.new.self; accepted = s.accepted; pdus = s.pdus + 1; waiting = s.waiting } in
    let idle = subst IsIdle (sym c.self.view_is) c.requires.idle in
    let free : Idle old = record { waiting = idle.1; more = subst (λ (server : Server). server.pdus < 10000) (sym c.self.view_is) c.requires.more } in
    let field : c.in-Ok-Some.field-0 ≡ Some c.in-Ok-Some.pdu = search rules in
    let next = subst (λ (found : Option Pdu). Nexts (Ok found) s.reader c.next.new.self (g.W.Wire.is_open c.args.wire.now) (g.W.Wire.told c.args.wire.now) (g.W.Wire.told c.next.new.wire)) field c.in-Ok-Some.ensures.next in
    subst (λ (server : Server). StepTells c.take.result server bytes c.take.new.self (g.W.Wire.is_open c.take.new.wire) (g.W.Wire.told c.take.new.wire)) c.self.view_is
    (pdu_tells old mid c.take.new.self c.in-Ok-Some.pdu c.take.result _ _ _ _ _ _ bytes free next (took_pdu old mid c.in-Ok-Some.pdu _ _ _ idle next refl refl refl refl)
    c.take.ensures.reacts c.next.ensures.open c.take.ensures.open leaves no_write)

pub returns-in-Ok-Some-clause-run : goal.returns-in-Ok-Some-clause-run
returns-in-Ok-Some-clause-run g c answers is_open served =
    let s = c.self.inside in
    let old : Server = record { alive = s.alive; reader = s.reader; accepted = s.accepted; pdus = s.pdus; waiting = s.waiting } in
    let mid : Server = record { alive = s.alive; reader = c.next.new.self; accepted = s.accepted; pdus = s.pdus + 1; waiting = s.waiting } in
    let idle = subst IsIdle (sym c.self.view_is) c.requires.idle in
    let free : Idle old = record { waiting = idle.1; more = subst (λ (server : Server). server.pdus < 10000) (sym c.self.view_is) c.requires.more } in
    let field : c.in-Ok-Some.field-0 ≡ Some c.in-Ok-Some.pdu = search rules in
    let next = subst (λ (found : Option Pdu). Nexts (Ok found) s.reader c.next.new.self (g.W.Wire.is_open c.args.wire.now) (g.W.Wire.told c.args.wire.now) (g.W.Wire.told c.next.new.wire)) field c.in-Ok-Some.ensures.next in
    pdu_runs old mid c.take.new.self c.in-Ok-Some.pdu c.take.result _ _ _ _ _ answers free next (took_pdu old mid c.in-Ok-Some.pdu _ _ _ idle next refl refl refl refl)
    c.take.ensures.reacts c.next.ensures.open is_open
    (subst (λ (server : Server). HasServed answers server (g.W.Wire.told c.args.wire.now)) (sym c.self.view_is) served)

pub returns-in-Ok-None-clause-told : goal.returns-in-Ok-None-clause-told
returns-in-Ok-None-clause-told g c bytes leaves no_read no_write =
    let s = c.self.inside in
    let old : Server = record { alive = s.alive; reader = s.reader; accepted = s.accepted; pdus = s.pdus; waiting = s.waiting } in
    let idle = subst IsIdle (sym c.self.view_is) c.requires.idle in
    let free : Idle old = record { waiting = idle.1; more = subst (λ (server : Server). server.pdus < 10000) (sym c.self.view_is) c.requires.more } in
    let field : c.in-Ok-None.field-0 ≡ None = search rules in
    let next = subst (λ (found : Option Pdu). Nexts (Ok found) s.reader c.next.new.self (g.W.Wire.is_open c.args.wire.now) (g.W.Wire.told c.args.wire.now) (g.W.Wire.told c.next.new.wire)) field c.in-Ok-None.ensures.next in
    subst (λ (server : Server). (goes_on server bytes []).end ≡ Err end.Ended) c.self.view_is (end_tells old c.next.new.self _ _ _ bytes free next leaves)

pub returns-in-Ok-None-clause-run : goal.returns-in-Ok-None-clause-run
returns-in-Ok-None-clause-run g c answers is_open served =
    let s = c.self.inside in
    let old : Server = record { alive = s.alive; reader = s.reader; accepted = s.accepted; pdus = s.pdus; waiting = s.waiting } in
    let idle = subst IsIdle (sym c.self.view_is) c.requires.idle in
    let free : Idle old = record { waiting = idle.1; more = subst (λ (server : Server). server.pdus < 10000) (sym c.self.view_is) c.requires.more } in
    let field : c.in-Ok-None.field-0 ≡ None = search rules in
    let next = subst (λ (found : Option Pdu). Nexts (Ok found) s.reader c.next.new.self (g.W.Wire.is_open c.args.wire.now) (g.W.Wire.told c.args.wire.now) (g.W.Wire.told c.next.new.wire)) field c.in-Ok-None.ensures.next in
    end_runs old _ c.next.new.self _ _ _ answers free next is_open
    (subst (λ (server : Server). HasServed answers server (g.W.Wire.told c.args.wire.now)) (sym c.self.view_is) served)

pub returns-in-Err-clause-told : goal.returns-in-Err-clause-told
returns-in-Err-clause-told g c bytes leaves no_read no_write =
    let s = c.self.inside in
    let old : Server = record { alive = s.alive; reader = s.reader; accepted = s.accepted; pdus = s.pdus; waiting = s.waiting } in
    let new : Server = record { alive = false; reader = c.next.new.self; accepted = s.accepted; pdus = s.pdus; waiting = s.waiting } in
    let idle = subst IsIdle (sym c.self.view_is) c.requires.idle in
    let free : Idle old = record { waiting = idle.1; more = subst (λ (server : Server). server.pdus < 10000) (sym c.self.view_is) c.requires.more } in
    let id : c.unwrap_or-call_id.result ≡ unwrap_or c.next.new.self.last_call 0 = search rules in
    subst (λ (server : Server). StepTells c.refuse.result server bytes new (g.W.Wire.is_open c.refuse.new.wire) (g.W.Wire.told c.refuse.new.wire)) c.self.view_is
    (fault_tells old new c.in-Err.fault c.next.new.self c.unwrap_or-call_id.result c.refuse.result _ _ _ _ _ _ bytes free c.in-Err.ensures.next
    (λ closed. fault_not_none c.in-Err.fault (c.in-Err.ensures.no_session closed)) id c.refuse.ensures.ends c.next.ensures.open c.refuse.ensures.open leaves no_read no_write)

pub returns-in-Err-clause-run : goal.returns-in-Err-clause-run
returns-in-Err-clause-run g c answers is_open served =
    let s = c.self.inside in
    let old : Server = record { alive = s.alive; reader = s.reader; accepted = s.accepted; pdus = s.pdus; waiting = s.waiting } in
    let new : Server = record { alive = false; reader = c.next.new.self; accepted = s.accepted; pdus = s.pdus; waiting = s.waiting } in
    let idle = subst IsIdle (sym c.self.view_is) c.requires.idle in
    let free : Idle old = record { waiting = idle.1; more = subst (λ (server : Server). server.pdus < 10000) (sym c.self.view_is) c.requires.more } in
    let id : c.unwrap_or-call_id.result ≡ unwrap_or c.next.new.self.last_call 0 = search rules in
    fault_runs old new c.in-Err.fault c.next.new.self c.unwrap_or-call_id.result c.refuse.result _ _ _ _ _ answers free c.in-Err.ensures.next
    id c.refuse.ensures.ends c.next.ensures.open is_open
    (subst (λ (server : Server). HasServed answers server (g.W.Wire.told c.args.wire.now)) (sym c.self.view_is) served)

pub returns-in-Err-clause-sessions : goal.returns-in-Err-clause-sessions
returns-in-Err-clause-sessions g c = opens_none_both _ _ _ c.next.ensures.sessions c.refuse.ensures.sessions
