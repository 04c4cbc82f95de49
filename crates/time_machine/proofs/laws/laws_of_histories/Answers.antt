use Rattle.time_machine.proofs.Joins.{histories_join}
use Rattle.time_machine.proofs.Counting.{counts_rise, moves_once, moves_live}
use Rattle.time_machine.proofs.Earlier.{earlier_refused, below_refused}
use Rattle.time_machine.proofs.Room.{room_is_left, one_open}
use Rattle.time_machine.proofs.Gathers.{none_leads, more_leads}
use Rattle.time_machine.proofs.Answered.{answers_open, reply_accepted, accepted_right, one_answered, one_time, is_time, sends_so}
use Rattle.time_machine.proofs.laws.laws_of_histories.Goals as goal

pub returns : goal.returns
returns c =
    record {
      counts = counts_rise;
      reply = reply_accepted;
      right = accepted_right;
      accepted = answers_open;
      moves = moves_once;
      lives = moves_live;
      earlier = earlier_refused;
      below = below_refused;
      room = room_is_left;
      one = one_open;
      answer = one_answered;
      times = λ stamp near t. (one_time stamp near t, is_time stamp near t);
      joins = histories_join;
      sends = sends_so;
      none = none_leads;
      more = more_leads;
    }
