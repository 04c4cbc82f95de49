-- The request that a computer is asked with.
use Rattle.std.specs.Prelude.{ℕ, List, ◌∷◌, ◌++◌, replicate}
use Rattle.ntp_wire.specs.declared.stamp.Stamp.{Stamp}
use Rattle.ntp_wire.specs.Stamp.{stamp_bytes}

-- A header alone: a client of version 3 whose clock is not synchronized, stratum 0, poll exponent 0 and precision -23.
-- All other fields are zero but the last one, which is the timestamp.
abbrev pub plain_request : Stamp → List ℕ
plain_request stamp = 0xDB ∷ 0 ∷ 0 ∷ 0xE9 ∷ replicate 36 0 ++ stamp_bytes stamp
