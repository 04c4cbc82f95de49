use Rattle.std.proofs.Common.{refl, rules}
use Rattle.run_deeds.specs.declared.life_end.Why.TheVariants as why
use Rattle.w32tm_cmd.proofs.Configuring.{stops, stops_cause}
use Rattle.w32tm_cmd.proofs.Living.{causes, disk_alone, judged, lived, partnerless, stopped}
use Rattle.w32tm_cmd.proofs.member.keep_clock.Goals as goal

-- no settings
pub returns-in-Err-clause-member : goal.returns-in-Err-clause-member
returns-in-Err-clause-member g c =
    rw c.status_of.ensures (stopped c.args.turns _ _ _ _ _ (stops _ _ c.in-Err.fault c.in-Err.ensures.reads refl))

pub returns-in-Err-clause-causes : goal.returns-in-Err-clause-causes
returns-in-Err-clause-causes g c = record {
  counts = search rules;
  cause = rw c.status_of.ensures (stops_cause _ _ _ (stops _ _ c.in-Err.fault c.in-Err.ensures.reads refl));
}

-- no candidate
pub returns-in-Err-NoPartner-clause-member : goal.returns-in-Err-NoPartner-clause-member
returns-in-Err-NoPartner-clause-member g c =
    let is_none = c.in-Err-NoPartner.field-0-is in
    partnerless c.args.turns _ _ _ _ (record {
      settings = c.in-Ok.settings;
      configured = c.in-Ok.ensures.reads;
      none = c.in-Err-NoPartner.ensures.no_partner.0 (cc is_none);
      alone = refl;
    })

-- each end of the run
pub returns-in-Done-clause-member : goal.returns-in-Done-clause-member
returns-in-Done-clause-member g c = judged c.args.turns _ _ _ _ why.Done
    (lived c.args.turns _ _ _ _ why.Done c.in-Ok.settings c.in-Ok-conf_of.conf c.live-end.result c.in-Ok.ensures.reads c.in-Ok-conf_of.ensures.answer c.live-end.ensures.lives c.in-Done.is refl refl refl)
    (record {
      some = λ none. let wrong = c.in-Ok-conf_of.ensures.no_partner.1 none in cc wrong;
      complete = c.live-end.ensures.complete;
    })

pub returns-in-DiskFault-clause-member : goal.returns-in-DiskFault-clause-member
returns-in-DiskFault-clause-member g c = judged c.args.turns _ _ _ _ why.DiskFault
    (lived c.args.turns _ _ _ _ why.DiskFault c.in-Ok.settings c.in-Ok-conf_of.conf c.live-end.result c.in-Ok.ensures.reads c.in-Ok-conf_of.ensures.answer c.live-end.ensures.lives c.in-DiskFault.is refl refl refl)
    (record {
      some = λ none. let wrong = c.in-Ok-conf_of.ensures.no_partner.1 none in cc wrong;
      complete = c.live-end.ensures.complete;
    })

pub returns-in-BadVersion-clause-member : goal.returns-in-BadVersion-clause-member
returns-in-BadVersion-clause-member g c = judged c.args.turns _ _ _ _ why.BadVersion
    (lived c.args.turns _ _ _ _ why.BadVersion c.in-Ok.settings c.in-Ok-conf_of.conf c.live-end.result c.in-Ok.ensures.reads c.in-Ok-conf_of.ensures.answer c.live-end.ensures.lives c.in-BadVersion.is refl refl refl)
    (record {
      some = λ none. let wrong = c.in-Ok-conf_of.ensures.no_partner.1 none in cc wrong;
      complete = c.live-end.ensures.complete;
    })

pub returns-in-StampsSpent-clause-member : goal.returns-in-StampsSpent-clause-member
returns-in-StampsSpent-clause-member g c = judged c.args.turns _ _ _ _ why.StampsSpent
    (lived c.args.turns _ _ _ _ why.StampsSpent c.in-Ok.settings c.in-Ok-conf_of.conf c.live-end.result c.in-Ok.ensures.reads c.in-Ok-conf_of.ensures.answer c.live-end.ensures.lives c.in-StampsSpent.is refl refl refl)
    (record {
      some = λ none. let wrong = c.in-Ok-conf_of.ensures.no_partner.1 none in cc wrong;
      complete = c.live-end.ensures.complete;
    })

pub returns-in-ClockFault-clause-member : goal.returns-in-ClockFault-clause-member
returns-in-ClockFault-clause-member g c = judged c.args.turns _ _ _ _ why.ClockFault
    (lived c.args.turns _ _ _ _ why.ClockFault c.in-Ok.settings c.in-Ok-conf_of.conf c.live-end.result c.in-Ok.ensures.reads c.in-Ok-conf_of.ensures.answer c.live-end.ensures.lives c.in-ClockFault.is refl refl refl)
    (record {
      some = λ none. let wrong = c.in-Ok-conf_of.ensures.no_partner.1 none in cc wrong;
      complete = c.live-end.ensures.complete;
    })

pub returns-in-EntropyFault-clause-member : goal.returns-in-EntropyFault-clause-member
returns-in-EntropyFault-clause-member g c = judged c.args.turns _ _ _ _ why.EntropyFault
    (lived c.args.turns _ _ _ _ why.EntropyFault c.in-Ok.settings c.in-Ok-conf_of.conf c.live-end.result c.in-Ok.ensures.reads c.in-Ok-conf_of.ensures.answer c.live-end.ensures.lives c.in-EntropyFault.is refl refl refl)
    (record {
      some = λ none. let wrong = c.in-Ok-conf_of.ensures.no_partner.1 none in cc wrong;
      complete = c.live-end.ensures.complete;
    })

pub returns-clause-member : goal.returns-clause-member
returns-clause-member g c = judged c.args.turns _ _ _ _ why.SinkFault
    (lived c.args.turns _ _ _ _ why.SinkFault c.in-Ok.settings c.in-Ok-conf_of.conf c.live-end.result c.in-Ok.ensures.reads c.in-Ok-conf_of.ensures.answer c.live-end.ensures.lives c.in-SinkFault.is refl refl refl)
    (record {
      some = λ none. let wrong = c.in-Ok-conf_of.ensures.no_partner.1 none in cc wrong;
      complete = c.live-end.ensures.complete;
    })

-- a disk of another version: no device but the settings' and the disk was touched
pub returns-in-BadVersion-clause-touches : goal.returns-in-BadVersion-clause-touches
returns-in-BadVersion-clause-touches g c =
    let same = c.live-end.ensures.untouched c.in-BadVersion.is in
    disk_alone c.args.outside.now _ refl same.0 same.1 same.2 same.3 same.4 refl

-- each fault has its cause
pub returns-in-DiskFault-clause-causes : goal.returns-in-DiskFault-clause-causes
returns-in-DiskFault-clause-causes g c = causes c.args.turns _ _ _ _ why.DiskFault
    (lived c.args.turns _ _ _ _ why.DiskFault c.in-Ok.settings c.in-Ok-conf_of.conf c.live-end.result c.in-Ok.ensures.reads c.in-Ok-conf_of.ensures.answer c.live-end.ensures.lives c.in-DiskFault.is refl refl refl)
    (search rules)

pub returns-in-ClockFault-clause-causes : goal.returns-in-ClockFault-clause-causes
returns-in-ClockFault-clause-causes g c = causes c.args.turns _ _ _ _ why.ClockFault
    (lived c.args.turns _ _ _ _ why.ClockFault c.in-Ok.settings c.in-Ok-conf_of.conf c.live-end.result c.in-Ok.ensures.reads c.in-Ok-conf_of.ensures.answer c.live-end.ensures.lives c.in-ClockFault.is refl refl refl)
    (search rules)

pub returns-in-EntropyFault-clause-causes : goal.returns-in-EntropyFault-clause-causes
returns-in-EntropyFault-clause-causes g c = causes c.args.turns _ _ _ _ why.EntropyFault
    (lived c.args.turns _ _ _ _ why.EntropyFault c.in-Ok.settings c.in-Ok-conf_of.conf c.live-end.result c.in-Ok.ensures.reads c.in-Ok-conf_of.ensures.answer c.live-end.ensures.lives c.in-EntropyFault.is refl refl refl)
    (search rules)

pub returns-clause-causes : goal.returns-clause-causes
returns-clause-causes g c = causes c.args.turns _ _ _ _ why.SinkFault
    (lived c.args.turns _ _ _ _ why.SinkFault c.in-Ok.settings c.in-Ok-conf_of.conf c.live-end.result c.in-Ok.ensures.reads c.in-Ok-conf_of.ensures.answer c.live-end.ensures.lives c.in-SinkFault.is refl refl refl)
    (search rules)
