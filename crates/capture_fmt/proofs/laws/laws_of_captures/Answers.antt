use Rattle.capture_fmt.proofs.OneRecord.{one_record, no_flaw_of_event}
use Rattle.capture_fmt.proofs.Histories.{one_history, joined_histories, one_fault, no_fault}
use Rattle.capture_fmt.proofs.Whole.{begins, judged}
use Rattle.capture_fmt.proofs.laws.laws_of_captures.Goals as goal

pub returns : goal.returns
returns c = record {
  one_record = one_record;
  one_history = one_history;
  joined = joined_histories;
  one_fault = one_fault;
  no_fault = no_fault;
  whole = no_flaw_of_event;
  begins = λ bytes are none. let b = begins bytes are none in (b.event, b.rest, b.fits, b.written);
  judged = judged;
}
