use Rattle.std.proofs.Common.{refl}
use Rattle.edge_seen.specs.Seen.{silent}
use Rattle.w32tm_cmd.proofs.Configuring.{stops}
use Rattle.w32tm_cmd.proofs.Living.{disk_alone}
use Rattle.w32tm_cmd.proofs.Servicing.{judged, opened_well, partnerless, served, stopped, touched, unchanged}
use Rattle.w32tm_cmd.proofs.service.serve_calls.Goals as goal

-- no settings
pub returns-in-Err-clause-service : goal.returns-in-Err-clause-service
returns-in-Err-clause-service g c =
    rw c.status_of.ensures (stopped c.args.sessions _ _ _ _ _ (unchanged _) (stops _ _ c.in-Err.fault c.in-Err.ensures.reads refl))

-- no candidate
pub returns-in-Err-NoPartner-clause-service : goal.returns-in-Err-NoPartner-clause-service
returns-in-Err-NoPartner-clause-service g c =
    let is_none = c.in-Err-NoPartner.field-0-is in
    partnerless c.args.sessions _ _ _ _ (record {
      settings = c.in-Ok.settings;
      configured = c.in-Ok.ensures.reads;
      none = c.in-Err-NoPartner.ensures.no_partner.0 (cc is_none);
      alone = refl;
    })

-- the end of a run
pub returns-clause-service : goal.returns-clause-service
returns-clause-service g c = judged c.args.sessions _ _ _ _ c.serve_sessions.result
    (served c.args.sessions _ _ _ _ c.in-Ok.settings c.in-Ok-conf_of.conf c.as_slice.result.now c.serve_sessions.result c.in-Ok.ensures.reads c.in-Ok-conf_of.ensures.answer
    (rw c.as_slice.ensures.value c.in-Ok-rank.ensures.ranked) c.serve_sessions.ensures.serves refl refl refl)
    (record {
      some = λ none. let wrong = c.in-Ok-conf_of.ensures.no_partner.1 none in cc wrong;
      version = c.serve_sessions.ensures.version;
      complete = c.serve_sessions.ensures.complete;
    })

-- a disk of another version: no device but the settings' and the disk was touched
pub returns-clause-touches : goal.returns-clause-touches
returns-clause-touches g c = touched c.args.outside.now _ c.serve_sessions.result (c.serve_sessions.ensures.serves silent) refl (λ version.
    let same = c.serve_sessions.ensures.untouched version in
    disk_alone c.args.outside.now _ refl same.0 same.1 same.2 same.3 same.4 same.5)

-- a request for a session that failed raised the count of the wire
pub returns-clause-config_fault : goal.returns-clause-config_fault
returns-clause-config_fault g c is none = absurd (opened_well c.serve_sessions.result (c.serve_sessions.ensures.serves silent) is none)
