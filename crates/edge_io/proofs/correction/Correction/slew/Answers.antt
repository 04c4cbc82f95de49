use Rattle.std.proofs.Common.{◌≡◌, ap, ◌∙◌, to_z, of_z, rules}
use Rattle.std.specs.Int.{w64, w128}
use Rattle.edge_io.specs.Correction.{Correction, ahead_of, slewed_by}
use Rattle.edge_io.proofs.Slews.{ahead_of-slewed_by}
use Rattle.edge_io.proofs.correction.Correction.slew.Goals as goal

pub returns-clause-kept : goal.returns-clause-kept
returns-clause-kept c =
    let new : Correction = record {
      moved = to_z w128 (of_z w128 c.ahead-self-inside.result);
      slew = to_z w64 (of_z w64 c.args.amount);
      passed = 0;
      seen = c.self.inside.seen;
    } in
    let same : new ≡ slewed_by c.args.amount c.args.self.now = search rules in
    λ fits. ap ahead_of same ∙ ahead_of-slewed_by c.args.amount c.args.self.now fits
