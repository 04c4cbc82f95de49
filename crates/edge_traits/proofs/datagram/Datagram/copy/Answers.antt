use Rattle.std.proofs.Common.{◌∙◌}
use Rattle.std.proofs.lemmas.List.{take_all}
use Rattle.edge_traits.proofs.datagram.Datagram.copy.Goals as goal

pub returns : goal.returns
returns c = let bytes = c.as_slice.ensures.bytes in
    c.from_slice.ensures ∙ take_all 256 c.as_slice.result.now c.as_slice.ensures.within ∙ bytes
