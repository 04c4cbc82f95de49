use Rattle.edge_seen.specs.Seen.{silent}
use Rattle.monitor_run.proofs.Runs.{clock_later, clock_rose, complete, entropy_later, entropy_rose, link_later, write_later, write_rose}
use Rattle.monitor_run.proofs.run.monitor.Goals as goal

pub returns-clause-clock_cause : goal.returns-clause-clock_cause
returns-clause-clock_cause g c = clock_rose c.args.directory.now _ _ c.ask_all.result (c.ask_all.ensures silent)

pub returns-clause-entropy_cause : goal.returns-clause-entropy_cause
returns-clause-entropy_cause g c = entropy_rose c.args.directory.now _ _ c.ask_all.result (c.ask_all.ensures silent)

pub returns-clause-write_cause : goal.returns-clause-write_cause
returns-clause-write_cause g c = write_rose c.args.directory.now _ _ c.ask_all.result (c.ask_all.ensures silent)

pub returns-clause-complete : goal.returns-clause-complete
returns-clause-complete g c = complete c.args.directory.now _ _ c.ask_all.result (c.ask_all.ensures silent)

pub returns-clause-link_count : goal.returns-clause-link_count
returns-clause-link_count g c = link_later c.args.directory.now _ _ c.ask_all.result (c.ask_all.ensures silent)

pub returns-clause-clock_count : goal.returns-clause-clock_count
returns-clause-clock_count g c = clock_later c.args.directory.now _ _ c.ask_all.result (c.ask_all.ensures silent)

pub returns-clause-entropy_count : goal.returns-clause-entropy_count
returns-clause-entropy_count g c = entropy_later c.args.directory.now _ _ c.ask_all.result (c.ask_all.ensures silent)

pub returns-clause-write_count : goal.returns-clause-write_count
returns-clause-write_count g c = write_later c.args.directory.now _ _ c.ask_all.result (c.ask_all.ensures silent)
