use Rattle.std.proofs.Common.{refl, rules, inl, inr}
use Rattle.replay_run.specs.declared.end.ReplayWhy.TheVariants as why
use Rattle.w32tm_cmd.proofs.Configuring.{stops, stops_cause}
use Rattle.w32tm_cmd.proofs.Replaying.{judged, partnerless, replayed, stopped}
use Rattle.w32tm_cmd.proofs.replay.replay_capture.Goals as goal

-- no settings
pub returns-in-Err-clause-replay : goal.returns-in-Err-clause-replay
returns-in-Err-clause-replay g c =
    rw c.status_of.ensures (stopped _ _ _ (stops _ _ c.in-Err.fault c.in-Err.ensures.reads refl))

pub returns-in-Err-clause-causes : goal.returns-in-Err-clause-causes
returns-in-Err-clause-causes g c = record {
  counts = search rules;
  cause = rw c.status_of.ensures (stops_cause _ _ _ (stops _ _ c.in-Err.fault c.in-Err.ensures.reads refl));
}

-- no candidate
pub returns-in-Err-NoPartner-clause-replay : goal.returns-in-Err-NoPartner-clause-replay
returns-in-Err-NoPartner-clause-replay g c =
    let is_none = c.in-Err-NoPartner.field-0-is in
    partnerless _ _ (record {
      settings = c.in-Ok.settings;
      configured = c.in-Ok.ensures.reads;
      none = c.in-Err-NoPartner.ensures.no_partner.0 (cc is_none);
      alone = refl;
    }) (λ conf is. elim (c.in-Err-NoPartner.ensures.exact conf is) [
      | inl wrong ↦ cc wrong
      | inr wrong ↦ cc (wrong, is_none)
    ])

-- each end of the replay
pub returns-in-Done-clause-replay : goal.returns-in-Done-clause-replay
returns-in-Done-clause-replay g c = judged _ _ why.Done
    (replayed _ _ why.Done c.in-Ok.settings c.in-Ok-conf_of.conf c.replay.result c.in-Ok.ensures.reads c.in-Ok-conf_of.ensures.answer c.replay.ensures.replays c.in-Done.is refl)
    (record {
      some = λ none. let wrong = c.in-Ok-conf_of.ensures.no_partner.1 none in cc wrong;
      one = λ other is. c.in-Ok-conf_of.ensures.one _ other c.in-Ok-conf_of.ensures.answer is;
      exact = c.replay.ensures.exact;
      complete = c.replay.ensures.complete;
      whole = c.replay.ensures.whole;
      read_cause = c.replay.ensures.read_cause;
      write_cause = c.replay.ensures.write_cause;
    })

pub returns-in-BadCapture-clause-replay : goal.returns-in-BadCapture-clause-replay
returns-in-BadCapture-clause-replay g c = judged _ _ (why.BadCapture c.in-BadCapture.at)
    (replayed _ _ (why.BadCapture c.in-BadCapture.at) c.in-Ok.settings c.in-Ok-conf_of.conf c.replay.result c.in-Ok.ensures.reads c.in-Ok-conf_of.ensures.answer c.replay.ensures.replays c.in-BadCapture.is refl)
    (record {
      some = λ none. let wrong = c.in-Ok-conf_of.ensures.no_partner.1 none in cc wrong;
      one = λ other is. c.in-Ok-conf_of.ensures.one _ other c.in-Ok-conf_of.ensures.answer is;
      exact = c.replay.ensures.exact;
      complete = c.replay.ensures.complete;
      whole = c.replay.ensures.whole;
      read_cause = c.replay.ensures.read_cause;
      write_cause = c.replay.ensures.write_cause;
    })

pub returns-in-ReadFault-clause-replay : goal.returns-in-ReadFault-clause-replay
returns-in-ReadFault-clause-replay g c = judged _ _ why.ReadFault
    (replayed _ _ why.ReadFault c.in-Ok.settings c.in-Ok-conf_of.conf c.replay.result c.in-Ok.ensures.reads c.in-Ok-conf_of.ensures.answer c.replay.ensures.replays c.in-ReadFault.is refl)
    (record {
      some = λ none. let wrong = c.in-Ok-conf_of.ensures.no_partner.1 none in cc wrong;
      one = λ other is. c.in-Ok-conf_of.ensures.one _ other c.in-Ok-conf_of.ensures.answer is;
      exact = c.replay.ensures.exact;
      complete = c.replay.ensures.complete;
      whole = c.replay.ensures.whole;
      read_cause = c.replay.ensures.read_cause;
      write_cause = c.replay.ensures.write_cause;
    })

pub returns-clause-replay : goal.returns-clause-replay
returns-clause-replay g c = judged _ _ why.WriteFault
    (replayed _ _ why.WriteFault c.in-Ok.settings c.in-Ok-conf_of.conf c.replay.result c.in-Ok.ensures.reads c.in-Ok-conf_of.ensures.answer c.replay.ensures.replays c.in-WriteFault.is refl)
    (record {
      some = λ none. let wrong = c.in-Ok-conf_of.ensures.no_partner.1 none in cc wrong;
      one = λ other is. c.in-Ok-conf_of.ensures.one _ other c.in-Ok-conf_of.ensures.answer is;
      exact = c.replay.ensures.exact;
      complete = c.replay.ensures.complete;
      whole = c.replay.ensures.whole;
      read_cause = c.replay.ensures.read_cause;
      write_cause = c.replay.ensures.write_cause;
    })
