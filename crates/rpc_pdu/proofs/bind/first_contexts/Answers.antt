use Rattle.std.proofs.Common.{◌≡◌, ◌+◌, ◌<◌, ℕ, List, [], drop, sym, ap, subst, rules, arith}
use Rattle.rpc_pdu.specs.declared.bind.Context.{Context}
use Rattle.rpc_pdu.specs.Bind.{AreContexts}
use Rattle.rpc_pdu.proofs.Contexts.{at_none, no_contexts, contexts_more, rest_more, whole_context}
use Rattle.rpc_pdu.proofs.bind.first_contexts.Goals as goal

pub loop-init : goal.loop-init
loop-init c =
    let none : [] ≡ c.new-contexts.result.items = search rules in
    record {
      kept = subst (λ (l : List Context). AreContexts 0 l c.args.bytes.now) none (no_contexts c.args.bytes.now);
      rest = ap (λ (k : ℕ). drop k c.args.bytes.now) (sym (at_none c.args.bytes.now));
    }

pub read_context-requires : goal.read_context-requires
read_context-requires c =
    let below : c.loop.counter < c.args.offered = omega (arith, c.loop-test.true, c.min-end.ensures) in
    whole_context c.loop.counter c.args.offered c.args.bytes.now c.loop.rest.now below c.requires c.loop.invariant.rest

pub loop-preserved : goal.loop-preserved
loop-preserved c =
    let below : c.loop.counter < 8 = omega (arith, c.loop-test.true, c.min-end.ensures) in
    let more = contexts_more c.loop.counter c.loop.contexts.items c.read_context.result.0 c.args.bytes.now c.loop.rest.now below c.loop.invariant.kept c.loop.invariant.rest c.read_context.ensures.context in
    record {
      kept = subst (λ (l : List Context). AreContexts (c.loop.counter + 1) l c.args.bytes.now) (sym c.push.ensures.items) more;
      rest = rest_more c.loop.counter c.args.bytes.now c.loop.rest.now c.read_context.result.1.now c.loop.invariant.rest c.read_context.ensures.rest;
    }
