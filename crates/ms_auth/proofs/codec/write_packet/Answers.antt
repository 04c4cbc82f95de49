use Rattle.std.proofs.Common.{◌≡◌, List, ℕ, ◌∙◌, sym, subst}
use Rattle.std.proofs.lemmas.List.{take_all}
use Rattle.ms_auth.specs.Packet.{SpellsPacket}
use Rattle.ms_auth.proofs.codec.write_packet.Goals as goal

-- the datagram holds all of the bytes
pub returns-clause-spells : goal.returns-clause-spells
returns-clause-spells c =
    let whole : c.from_slice.result ≡ c.spelling_of.result.items = c.from_slice.ensures ∙ take_all 256 c.as_slice.result.now c.as_slice.ensures.fits ∙ c.as_slice.ensures.value in
    let Spells : List ℕ → Type 0 = λ (bytes : List ℕ). SpellsPacket c.args.packet.now bytes in
    subst Spells (sym whole) c.spelling_of.ensures

pub returns-clause-written : goal.returns-clause-written
returns-clause-written c = (returns-clause-spells c).written

pub returns-clause-again : goal.returns-clause-again
returns-clause-again c bytes spells = returns-clause-written c ∙ sym spells.written
