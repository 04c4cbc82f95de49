use Rattle.std.proofs.Common.{rules, ◌<◌, ℕ, List, length, All, subst, sym}
use Rattle.w32tm_text.proofs.Shown.{dc_some}
use Rattle.w32tm_text.proofs.dc.dc_lines.Goals as goal

pub returns-clause-lines : goal.returns-clause-lines
returns-clause-lines c = search rules

pub returns-clause-some : goal.returns-clause-some
returns-clause-some c =
    subst (λ (lines : List (List ℕ)). All (λ (line : List ℕ). 0 < length line) lines) (sym (returns-clause-lines c)) (dc_some c.args.end.now)
