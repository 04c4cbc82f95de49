use Rattle.time_machine.proofs.Begins.{begin_at, leaving_at, moved_at}
use Rattle.time_machine.proofs.Positions.{since_at, this_life_at, life_words_at, base_at, source_at, nothing_at, changes_at, poll_law, eight_at, greatest_at, first_at, prefix_at}
use Rattle.time_machine.proofs.Sent.{sent_at}
use Rattle.time_machine.proofs.Open.{open_at}
use Rattle.time_machine.proofs.laws.laws_of_positions.Goals as goal

pub returns : goal.returns
returns c =
    record {
      since = since_at;
      life = this_life_at;
      life_words = life_words_at;
      sent = sent_at;
      moved = moved_at;
      base = base_at;
      leaving = leaving_at;
      nothing = nothing_at;
      source = source_at;
      changes = changes_at;
      poll = poll_law;
      open_requests = open_at;
      eight = eight_at;
      greatest = greatest_at;
      first = first_at;
      begin = begin_at;
      prefix = prefix_at;
    }
