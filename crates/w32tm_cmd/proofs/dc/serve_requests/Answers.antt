use Rattle.std.proofs.Common.{refl, rules}
use Rattle.dc_sign.specs.declared.tally.ServeWhy.TheVariants as why
use Rattle.w32tm_cmd.proofs.Configuring.{stops, stops_cause}
use Rattle.w32tm_cmd.proofs.Controlling.{promises, served, stopped}
use Rattle.w32tm_cmd.proofs.dc.serve_requests.Goals as goal

-- no settings
pub returns-in-Err-clause-dc : goal.returns-in-Err-clause-dc
returns-in-Err-clause-dc g c =
    rw c.status_of.ensures (stopped c.args.turns _ _ _ (stops _ _ c.in-Err.fault c.in-Err.ensures.reads refl))

pub returns-in-Err-clause-causes : goal.returns-in-Err-clause-causes
returns-in-Err-clause-causes g c = record {
  counts = search rules;
  cause = rw c.status_of.ensures (stops_cause _ _ _ (stops _ _ c.in-Err.fault c.in-Err.ensures.reads refl));
}

-- a reading failed
pub returns-in-ClockFault-clause-dc : goal.returns-in-ClockFault-clause-dc
returns-in-ClockFault-clause-dc g c = promises c.args.turns _ _ _ (record {
  end = c.serve-end.result;
  served = served c.args.turns _ _ why.ClockFault c.serve-end.result c.in-Ok.settings c.in-Ok.ensures.reads c.serve-end.ensures.serves c.in-ClockFault.is refl;
  out = record { bytes = refl; no_fault = refl };
}) (λ is. c.serve-end.ensures.cause c.in-ClockFault.is)

-- the closing lines were written
pub returns-in-Done-write_lines-clause-dc : goal.returns-in-Done-write_lines-clause-dc
returns-in-Done-write_lines-clause-dc g c = promises c.args.turns _ _ _ (record {
  end = c.serve-end.result;
  served = served c.args.turns _ _ why.Done c.serve-end.result c.in-Ok.settings c.in-Ok.ensures.reads c.serve-end.ensures.serves c.in-Done.is refl;
  closed = rw c.dc_lines.ensures.lines at c.in-Done-write_lines.ensures.bytes;
  no_fault = c.in-Done-write_lines.ensures.cause;
}) (λ is. cc is)

-- a closing line broke off
pub returns-clause-dc : goal.returns-clause-dc
returns-clause-dc g c =
    let breaks = rw c.dc_lines.ensures.lines at c.in-Failed.ensures.bytes in
    promises c.args.turns _ _ _ (record {
      end = c.serve-end.result;
      text = breaks.0;
      served = served c.args.turns _ _ why.Done c.serve-end.result c.in-Ok.settings c.in-Ok.ensures.reads c.serve-end.ensures.serves c.in-Done.is refl;
      breaks_off = breaks.1;
      written = breaks.2;
      cause = c.in-Failed.ensures.cause;
    }) (λ is. cc is)
