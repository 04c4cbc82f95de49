use Rattle.std.proofs.Common.{rules, ◌<◌, length, get_or, bit_xor}
use Rattle.std.proofs.lemmas.List.{get_or_default}
use Rattle.std.proofs.lemmas.List.Edits.{map_over_more}
use Rattle.mac_kdf.proofs.hmac.masked.Goals as goal

pub loop-byte-preserved : goal.loop-byte-preserved
loop-byte-preserved c =
    let i = c.loop-byte.byte-index in
    let in_block : i < length c.args.block = search rules in
    let in_items : i < length c.loop-byte.byte-items = search rules in
    map_over_more (λ byte. bit_xor byte c.args.mask) c.args.block c.loop-byte.byte-items i
    (get_or c.loop-byte.byte-items i 0) in_block c.loop-byte.invariant
    (get_or_default c.loop-byte.byte-items i 0 (get_or c.loop-byte.byte-items i 0) in_items)
