use Rattle.std.proofs.Common.{◌≡◌, ◌+◌, ◌*◌, ◌++◌, take}
use Rattle.std.specs.Prelude.{flat_map}
use Rattle.arrayvec.specs.ArrayVec.{array_vec_len}
use Rattle.w32t_calls.specs.Answers.{result_bytes}
use Rattle.w32t_calls.proofs.answers.add_results.Given as goal

-- the results of so many contexts are added
abbrev pub invariant-loop-i : goal.invariant-loop-i
invariant-loop-i l = record {
  items : l.body.items ≡ l.fn.body.items ++ flat_map result_bytes (take l.i l.contexts);
  size : array_vec_len l.body ≡ array_vec_len l.fn.body + 24 * l.i;
}
