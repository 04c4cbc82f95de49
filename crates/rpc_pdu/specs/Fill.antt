-- How a buffer is filled from a wire.
use Rattle.std.specs.Prelude.{◌≡◌, ◌⊎◌, ◌<◌, ⊤, ℕ, Bool, true, false, List, [], ◌++◌, length, take, Option}
use Rattle.base_specs.specs.Counts.{Fails}
use Rattle.base_specs.specs.Told.{LastIs, LastTold}
use Rattle.edge_traits.specs.Wire.{Entry, SessionChanged, SessionIs, SessionTold, WireTook}
use Rattle.rpc_pdu.specs.declared.fill.Filled.{Filled}
use Rattle.rpc_pdu.specs.declared.fill.Filled.TheVariants as filled

-- these bytes were taken of a session, and then a read of it failed
abbrev pub TakesThenFails : List ℕ → SessionTold → SessionTold → Type 0
TakesThenFails bytes before now =
    (before.left ≡ bytes ++ now.left)
    × (now ≡ record before { taken = before.taken ++ bytes; left = now.left; read_failed = true })

-- these bytes were taken of the open session, then a read of it failed, and nothing else was done
abbrev pub WireFailed : List ℕ → Option (List Entry) → Option (List Entry) → Type 0
WireFailed bytes old new = LastTold (SessionChanged (TakesThenFails bytes)) old new

-- no session was opened: there are as many entries as before, and all but the last are the same
abbrev pub OpensNone : Option (List Entry) → Option (List Entry) → Type 0
OpensNone old new = (new ≡ old) ⊎ LastTold (λ before now. ⊤) old new

-- nothing is left of the session, if one is open
abbrev pub IsAtEnd : Bool → Option (List Entry) → Type 0
IsAtEnd is_open told = is_open ≡ true → LastIs (SessionIs (λ told. told.left ≡ [])) told

-- The bytes taken fill the buffer, or nothing is left behind them, or a read failed behind them. In the last two cases
-- they are fewer than the buffer has room for. Where no session is open there are none.
abbrev pub Fills : Filled → List ℕ → Bool → Option (List Entry) → Option (List Entry) → Type 0
Fills filled.Whole buf is_open old new = WireTook buf old new × (is_open ≡ false → buf ≡ [])
Fills (filled.End n) buf is_open old new =
    (n < length buf) × WireTook (take n buf) old new × (is_open ≡ false → n ≡ 0) × IsAtEnd is_open new
Fills filled.Failed buf is_open old new =
    (taken : List ℕ) × (length taken < length buf) × WireFailed taken old new × (is_open ≡ true)

-- a read that failed raises the count, and nothing else does
abbrev pub FillCounts : Filled → ℕ → ℕ → Type 0
FillCounts filled.Whole before now = now ≡ before
FillCounts (filled.End n) before now = now ≡ before
FillCounts filled.Failed before now = Fails before now
