use Rattle.std.proofs.Common.{◌≡◌, ℕ, ◌+◌, ◌-◌, ◌≤◌, ◌<◌, length, drop, get_or, sym, ◌∙◌, ap, arith, rules}
use Rattle.rpc_pdu.specs.Bind.{bind_need, context_at, context_len, contexts_of, offered_of}
use Rattle.rpc_pdu.proofs.Contexts.{at_none, at_later, rest_more, end_more}
use Rattle.rpc_pdu.proofs.bind.contexts_fit.Goals as goal

pub loop-init : goal.loop-init
loop-init c =
    let none = at_none (contexts_of c.args.body.now) in
    record {
      within = omega (arith, none);
      rest = c.split_at.ensures.back ∙ ap (λ (k : ℕ). drop k (contexts_of c.args.body.now)) (sym none);
    }

pub loop-preserved : goal.loop-preserved
loop-preserved c =
    let found : context_len c.loop.rest.now ≤ length c.loop.rest.now = search rules in
    let more = end_more c.loop.counter (contexts_of c.args.body.now) c.loop.rest.now c.loop.invariant.rest c.loop.invariant.within in
    record {
      within = omega (arith, found, more);
      rest = rest_more c.loop.counter (contexts_of c.args.body.now) c.loop.rest.now c.in-Some.behind.now c.loop.invariant.rest c.in-Some.ensures.found;
    }

pub returns-in_default : goal.returns-in_default
returns-in_default c =
    let bytes = contexts_of c.args.body.now in
    let cut : length c.loop.rest.now < context_len c.loop.rest.now = search rules in
    let more = end_more c.loop.counter bytes c.loop.rest.now c.loop.invariant.rest c.loop.invariant.within in
    let offered : get_or c.split_at.result.0.now 8 0 ≡ offered_of c.args.body.now = search rules in
    let after : (c.loop.counter + 1) + (offered_of c.args.body.now - (c.loop.counter + 1)) ≡ offered_of c.args.body.now = omega (arith, offered, c.loop-test.true) in
    let later = at_later (c.loop.counter + 1) (offered_of c.args.body.now - (c.loop.counter + 1)) bytes in
    let same = ap (λ (k : ℕ). context_at k bytes) after in
    let short : length c.args.body.now < bind_need c.args.body.now = omega (arith, cut, more, later, same, c.split_at.ensures.back_len, ap length c.split_at.ensures.back) in
    search (rules, short)
