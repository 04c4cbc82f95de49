use Rattle.std.proofs.Common.{refl}
use Rattle.edge_traits.specs.declared.sink.Put.TheVariants as write
use Rattle.member_run.proofs.Sends.{sends}
use Rattle.member_run.proofs.running.Running.send.Goals as goal

pub returns-in-Done-clause-sent : goal.returns-in-Done-clause-sent
returns-in-Done-clause-sent g c =
    sends c.args.to c.as_slice.result.now c.args.bytes.now write.Done _ _ _ _ _ _ c.as_slice.ensures.bytes c.as_slice.ensures.within
    c.in-Done.ensures.sends c.in-Done.ensures.cause refl

pub returns-in-Failed-clause-sent : goal.returns-in-Failed-clause-sent
returns-in-Failed-clause-sent g c =
    sends c.args.to c.as_slice.result.now c.args.bytes.now write.Failed _ _ _ _ _ _ c.as_slice.ensures.bytes c.as_slice.ensures.within
    c.in-Failed.ensures.sends c.in-Failed.ensures.cause c.count_lost.ensures
