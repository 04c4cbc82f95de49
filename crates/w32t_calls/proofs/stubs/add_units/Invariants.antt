use Rattle.std.proofs.Common.{◌≡◌, ℕ, ◌+◌, ◌*◌, ◌++◌, [], ◌∷◌, take}
use Rattle.std.specs.Prelude.{flat_map}
use Rattle.arrayvec.specs.ArrayVec.{array_vec_len}
use Rattle.w32t_calls.proofs.stubs.add_units.Given as goal

-- so many bytes of the name are added as units
abbrev pub invariant-loop-byte : goal.invariant-loop-byte
invariant-loop-byte l = record {
  items : l.stub.items ≡ l.fn.stub.items ++ flat_map (λ (byte : ℕ). byte ∷ 0 ∷ []) (take l.byte-index l.name);
  size : array_vec_len l.stub ≡ array_vec_len l.fn.stub + 2 * l.byte-index;
}
