use Rattle.edge_seen.specs.Seen.{silent}
use Rattle.replay_run.proofs.Judging.{told_by, one_end, complete, whole, reads, writes}
use Rattle.replay_run.proofs.run.replay.Goals as goal

pub returns : goal.returns
returns g c = record {
  replays = c.step_through.ensures;
  told = λ bytes is not_read not_written. told_by c.args.conf _ _ c.step_through.result bytes (c.step_through.ensures silent) is not_read not_written;
  exact = λ bytes why is stands not_read not_written.
      one_end c.args.conf bytes c.step_through.result.why why (told_by c.args.conf _ _ c.step_through.result bytes (c.step_through.ensures silent) is not_read not_written) stands;
  complete = λ bytes events is spells short grows no_read no_write.
      complete c.args.conf _ _ c.step_through.result bytes events (c.step_through.ensures silent) is spells short grows no_read no_write;
  whole = λ bytes events is spells done. whole c.args.conf _ _ c.step_through.result bytes events (c.step_through.ensures silent) is spells done;
  read_cause = (reads c.args.conf _ _ c.step_through.result (c.step_through.ensures silent)).1;
  write_cause = (writes c.args.conf _ _ c.step_through.result (c.step_through.ensures silent)).1;
  read_count = (reads c.args.conf _ _ c.step_through.result (c.step_through.ensures silent)).0;
  write_count = (writes c.args.conf _ _ c.step_through.result (c.step_through.ensures silent)).0;
}
