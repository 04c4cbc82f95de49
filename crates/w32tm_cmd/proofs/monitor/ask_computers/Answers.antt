use Rattle.std.proofs.Common.{refl, rules}
use Rattle.monitor_run.specs.declared.why.MonitorWhy.TheVariants as why
use Rattle.w32tm_cmd.proofs.Configuring.{stops, stops_cause}
use Rattle.w32tm_cmd.proofs.Monitoring.{monitored, promises, stopped}
use Rattle.w32tm_cmd.proofs.monitor.ask_computers.Goals as goal

-- no settings
pub returns-in-Err-clause-monitor : goal.returns-in-Err-clause-monitor
returns-in-Err-clause-monitor g c =
    rw c.status_of.ensures (stopped _ _ _ (stops _ _ c.in-Err.fault c.in-Err.ensures.reads refl))

pub returns-in-Err-clause-causes : goal.returns-in-Err-clause-causes
returns-in-Err-clause-causes g c = record {
  counts = search rules;
  cause = rw c.status_of.ensures (stops_cause _ _ _ (stops _ _ c.in-Err.fault c.in-Err.ensures.reads refl));
}

-- each end of the run
pub returns-in-Done-clause-monitor : goal.returns-in-Done-clause-monitor
returns-in-Done-clause-monitor g c = promises _ _ _ (monitored _ _ why.Done c.in-Ok.settings c.in-Ok.ensures.reads (rw c.in-Done.is at c.monitor-why.ensures.monitors) refl) (record { write = λ is. cc is; clock = λ is. cc is; entropy = λ is. cc is })

pub returns-in-ClockFault-clause-monitor : goal.returns-in-ClockFault-clause-monitor
returns-in-ClockFault-clause-monitor g c = promises _ _ _ (monitored _ _ why.ClockFault c.in-Ok.settings c.in-Ok.ensures.reads (rw c.in-ClockFault.is at c.monitor-why.ensures.monitors) refl) (record { write = λ is. cc is; clock = λ is. c.monitor-why.ensures.clock_cause c.in-ClockFault.is; entropy = λ is. cc is })

pub returns-in-EntropyFault-clause-monitor : goal.returns-in-EntropyFault-clause-monitor
returns-in-EntropyFault-clause-monitor g c = promises _ _ _ (monitored _ _ why.EntropyFault c.in-Ok.settings c.in-Ok.ensures.reads (rw c.in-EntropyFault.is at c.monitor-why.ensures.monitors) refl) (record { write = λ is. cc is; clock = λ is. cc is; entropy = λ is. c.monitor-why.ensures.entropy_cause c.in-EntropyFault.is })

pub returns-clause-monitor : goal.returns-clause-monitor
returns-clause-monitor g c = promises _ _ _ (monitored _ _ why.WriteFault c.in-Ok.settings c.in-Ok.ensures.reads (rw c.in-WriteFault.is at c.monitor-why.ensures.monitors) refl) (record { write = λ is. c.monitor-why.ensures.write_cause c.in-WriteFault.is; clock = λ is. cc is; entropy = λ is. cc is })
