use Rattle.replay_run.proofs.Judging.{one_end, is_done, done_spells}
use Rattle.replay_run.proofs.laws.laws_of_replays.Goals as goal

pub returns : goal.returns
returns c = record {
  one_end = one_end;
  done = λ conf bytes. (λ is. done_spells conf bytes is, λ is. is_done conf bytes is.events is.spells is.short is.grows);
}
