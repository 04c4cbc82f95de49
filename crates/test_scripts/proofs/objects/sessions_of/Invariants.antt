use Rattle.std.proofs.Common.{◌<◌, All, length}
use Rattle.test_scripts.proofs.objects.sessions_of.Given as goal

-- no piece of a session so far is empty
abbrev pub invariant-loop-bytes : goal.invariant-loop-bytes
invariant-loop-bytes l = All (λ pieces. All (λ piece. 0 < length piece.items) pieces.items) l.sessions.items
