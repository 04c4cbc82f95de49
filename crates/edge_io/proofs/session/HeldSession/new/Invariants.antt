use Rattle.std.proofs.Common.{◌≡◌, ◌<◌, All, length, map, take}
use Rattle.std.specs.List.{flat_map}
use Rattle.edge_io.proofs.session.HeldSession.new.Given as goal

-- the bytes and the sizes are those of the pieces so far
abbrev pub invariant-loop-piece : goal.invariant-loop-piece
invariant-loop-piece l = record {
  bytes : l.bytes.items ≡ flat_map (λ piece. piece) (map (λ piece. piece.items) (take l.piece-index l.pieces));
  sizes : l.sizes.items ≡ map length (map (λ piece. piece.items) (take l.piece-index l.pieces));
  some : All (λ size. 0 < size) l.sizes.items;
}
