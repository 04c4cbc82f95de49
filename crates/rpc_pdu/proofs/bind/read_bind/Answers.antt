use Rattle.std.proofs.Common.{◌≤◌, ℕ, List, length, sym, subst}
use Rattle.rpc_pdu.specs.Bind.{bind_need}
use Rattle.rpc_pdu.proofs.Written.{bind_asks}
use Rattle.rpc_pdu.proofs.bind.read_bind.Goals as goal

pub bind_of-requires : goal.bind_of-requires
bind_of-requires c =
    subst (λ (l : List ℕ). bind_need l ≤ length l) (sym c.as_slice.ensures.bytes) (bind_asks c.args.pdu.now c.requires.kind c.requires.fits)
