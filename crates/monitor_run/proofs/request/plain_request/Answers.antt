use Rattle.std.proofs.Common.{◌∙◌}
use Rattle.monitor_run.proofs.Requests.{plain_header}
use Rattle.monitor_run.proofs.request.plain_request.Goals as goal

pub returns : goal.returns
returns c = c.write_header.ensures.written ∙ plain_header 0 c.args.stamp c.request-signed.result c.request-signed.ensures.spells
