use Rattle.rpc_pdu.proofs.Cuts.{fault_stays, joined, len_within, no_fault, one_cut, one_fault, pdu_stays, pdus_or_fault}
use Rattle.rpc_pdu.proofs.Flaws.{first_whole}
use Rattle.rpc_pdu.proofs.Written.{length-pdu_bytes, whole_written}
use Rattle.rpc_pdu.proofs.laws.laws_of_pdus.Goals as goal

pub returns : goal.returns
returns c = record {
  written = λ place pdu rest fits. first_whole place _ pdu (whole_written pdu rest fits);
  length = length-pdu_bytes;
  within = len_within;
  pdu_stays = pdu_stays;
  fault_stays = fault_stays;
  one_cut = one_cut;
  joined = joined;
  judged = pdus_or_fault;
  one_fault = one_fault;
  no_fault = no_fault;
}
