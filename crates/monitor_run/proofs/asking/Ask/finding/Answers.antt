use Rattle.std.proofs.Common.{◌≡◌, rules, subst, sym, w64}
use Rattle.std.proofs.lemmas.Int.{to_z-of_z}
use Rattle.monitor_run.specs.declared.asking.Heard.{Heard}
use Rattle.monitor_run.specs.Asking.{finding_by}
use Rattle.monitor_run.proofs.asking.Ask.finding.Goals as goal

pub returns-in-Came : goal.returns-in-Came
returns-in-Came c =
    let reading = to_z-of_z w64 c.in-Came.at (search rules) in
    let found = rw (reading, c.as_slice.ensures.bytes) at c.finding_of.ensures in
    let Found : Heard → Type 0 = λ (h : Heard). c.finding_of.result ≡ finding_by c.args.to c.args.self.now.stamp c.args.self.now.at h in
    subst Found (sym c.in-Came.is) found
