use Rattle.std.proofs.Common.{arith}
use Rattle.edge_seen.specs.Seen.{Seen, silent}
use Rattle.dc_sign.proofs.Taking.{broke_off, cause, clock_count, complete, link_count, served_all, served_more, served_none}
use Rattle.dc_sign.proofs.run.serve.Goals as goal

pub loop-init : goal.loop-init
loop-init g c = rw c.nothing-end.ensures (λ (others : Seen). served_none (g.K.Keys.accounts c.args.keys.now) _)

pub loop-preserved : goal.loop-preserved
loop-preserved g c = rw c.count.ensures (λ (others : Seen). served_more (g.K.Keys.accounts c.args.keys.now) c.loop.counter _ _ _ c.loop.end c.in-Some.outcome (c.loop.invariant others) (c.in-Some.ensures.turn others))

-- a reading failed
pub returns-in_default-clause-serves : goal.returns-in_default-clause-serves
returns-in_default-clause-serves g c = λ others.
    broke_off (g.K.Keys.accounts c.args.keys.now) c.args.turns c.loop.counter _ _ _ c.loop.end (c.loop.invariant others) c.loop-test.true (c.in_default.ensures.broken_off others)

pub returns-in_default-clause-cause : goal.returns-in_default-clause-cause
returns-in_default-clause-cause g c = cause (g.K.Keys.accounts c.args.keys.now) c.args.turns _ _ _ (returns-in_default-clause-serves g c silent)

pub returns-in_default-clause-complete : goal.returns-in_default-clause-complete
returns-in_default-clause-complete g c = complete (g.K.Keys.accounts c.args.keys.now) c.args.turns _ _ _ (returns-in_default-clause-serves g c silent)

pub returns-in_default-clause-link_count : goal.returns-in_default-clause-link_count
returns-in_default-clause-link_count g c = link_count (g.K.Keys.accounts c.args.keys.now) c.args.turns _ _ _ (returns-in_default-clause-serves g c silent)

pub returns-in_default-clause-clock_count : goal.returns-in_default-clause-clock_count
returns-in_default-clause-clock_count g c = clock_count (g.K.Keys.accounts c.args.keys.now) c.args.turns _ _ _ (returns-in_default-clause-serves g c silent)

-- all turns were taken
pub returns-clause-serves : goal.returns-clause-serves
returns-clause-serves g c = λ others.
    served_all (g.K.Keys.accounts c.args.keys.now) c.args.turns c.loop.counter _ _ c.loop.end (c.loop.invariant others) (omega (arith, c.loop.auto.counter-end, c.loop-test.false))

pub returns-clause-cause : goal.returns-clause-cause
returns-clause-cause g c = cause (g.K.Keys.accounts c.args.keys.now) c.args.turns _ _ _ (returns-clause-serves g c silent)

pub returns-clause-complete : goal.returns-clause-complete
returns-clause-complete g c = complete (g.K.Keys.accounts c.args.keys.now) c.args.turns _ _ _ (returns-clause-serves g c silent)

pub returns-clause-link_count : goal.returns-clause-link_count
returns-clause-link_count g c = link_count (g.K.Keys.accounts c.args.keys.now) c.args.turns _ _ _ (returns-clause-serves g c silent)

pub returns-clause-clock_count : goal.returns-clause-clock_count
returns-clause-clock_count g c = clock_count (g.K.Keys.accounts c.args.keys.now) c.args.turns _ _ _ (returns-clause-serves g c silent)
