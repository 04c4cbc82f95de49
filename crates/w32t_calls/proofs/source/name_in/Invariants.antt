use Rattle.std.proofs.Common.{◌≡◌, ◌+◌, ◌*◌, ◌≤◌, ◌++◌, length}
use Rattle.std.specs.Prelude.{All}
use Rattle.arrayvec.specs.ArrayVec.{array_vec_len}
use Rattle.w32t_calls.proofs.Sources.{IsPrinted, units_of}
use Rattle.w32t_calls.proofs.source.name_in.Given as goal

-- the units read so far, and those that are left
abbrev pub invariant-loop-left : goal.invariant-loop-left
invariant-loop-left l = record {
  read : l.units ≡ units_of l.name.items ++ l.left;
  printed : All IsPrinted l.name.items;
  room : 2 * array_vec_len l.name + length l.left ≤ 128;
}

abbrev pub decreases-loop-left : goal.decreases-loop-left
decreases-loop-left l = length l.left
