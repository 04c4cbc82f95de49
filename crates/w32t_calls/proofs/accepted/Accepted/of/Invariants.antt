use Rattle.std.proofs.Common.{◌≡◌, ◌≤◌, take}
use Rattle.arrayvec.specs.ArrayVec.{array_vec_len}
use Rattle.w32t_calls.specs.Contexts.{accepted_of}
use Rattle.w32t_calls.proofs.accepted.Accepted.of.Given as goal

-- those of so many contexts are kept
abbrev pub invariant-loop-i : goal.invariant-loop-i
invariant-loop-i l = record {
  kept : l.ids.items ≡ accepted_of (take l.i l.contexts);
  few : array_vec_len l.ids ≤ l.i;
}
