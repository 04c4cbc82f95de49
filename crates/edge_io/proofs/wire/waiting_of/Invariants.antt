use Rattle.std.proofs.Common.{◌≡◌, All, map, take}
use Rattle.edge_io.specs.SessionScript.{session_of, IsFresh}
use Rattle.edge_io.proofs.wire.waiting_of.Given as goal

-- the sessions so far wait
abbrev pub invariant-loop-pieces : goal.invariant-loop-pieces
invariant-loop-pieces l = record {
  sessions : l.waiting.items ≡ map (λ pieces. session_of l.room (map (λ piece. piece.items) pieces.items)) (take l.pieces-index l.sessions);
  fresh : All IsFresh l.waiting.items;
}
