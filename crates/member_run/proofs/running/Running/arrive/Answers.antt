use Rattle.std.proofs.Common.{ℤ, rules, w64}
use Rattle.std.proofs.lemmas.Int.{to_z-of_z}
use Rattle.capture_fmt.specs.declared.event.Event.TheVariants.{Arrive}
use Rattle.member_run.proofs.Following.{arrived_begun, arrived_sends_none, sink_of_receipt}
use Rattle.member_run.proofs.Receiving.{led_to, takes_read}
use Rattle.member_run.proofs.running.Running.arrive.Goals as goal

pub returns-clause-takes : goal.returns-clause-takes
returns-clause-takes g c = λ others history stands.
    let gives = c.in_ok-now.ensures.gives in
    let read = to_z-of_z w64 c.in_ok-now.now (search rules) in
    let takes = rw read at c.take.ensures.takes others history stands in
    takes_read others _ history (λ (now : ℤ). Arrive now c.args.from c.args.bytes) c.take.new.self.member _ _ _ _ _ _ _ _ _ _ _ _ _ _ _ _ _ c.in_ok-now.now gives.0 gives.1 takes

pub returns-clause-outcome : goal.returns-clause-outcome
returns-clause-outcome g c =
    let gives = c.in_ok-now.ensures.gives in
    let read = to_z-of_z w64 c.in_ok-now.now (search rules) in
    rw (c.take.ensures.disk_alone, c.take.ensures.entropy_alone)
    (led_to c.take.result c.args.self.now c.take.new.self c.in_ok-now.now c.args.from c.args.bytes _ _ _ _ _ _ _ _ _ _ _ _ _ _ _ _ _ _ _ _ _ gives.0 gives.1
    (rw (read, c.take.ensures.disk_alone, c.take.ensures.entropy_alone) at c.take.ensures.takes) (rw read at c.take.ensures.taken))

pub returns-clause-begun : goal.returns-clause-begun
returns-clause-begun g c =
    let read = to_z-of_z w64 c.in_ok-now.now (search rules) in
    arrived_begun c.take.result c.args.self.now c.take.new.self c.in_ok-now.now c.args.from c.args.bytes c.requires.begun
    (rw read at c.take.ensures.taken) (rw read at c.take.ensures.cut)

pub returns-clause-sends_none : goal.returns-clause-sends_none
returns-clause-sends_none g c =
    let read = to_z-of_z w64 c.in_ok-now.now (search rules) in
    arrived_sends_none c.take.result c.args.self.now c.take.new.self c.in_ok-now.now c.args.from c.args.bytes c.requires.begun
    (rw read at c.take.ensures.taken) (rw read at c.take.ensures.cut)

pub returns-clause-never : goal.returns-clause-never
returns-clause-never g c = sink_of_receipt c.take.result c.take.ensures.why
