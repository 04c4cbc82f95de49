use Rattle.std.proofs.Common.{◌≡◌, ◌∙◌, take}
use Rattle.std.proofs.lemmas.List.{take_all}
use Rattle.dc_sign.proofs.run.send_reply.Goals as goal

-- a datagram has no more bytes than a link sends
pub returns-clause-told : goal.returns-clause-told
returns-clause-told g c =
    let whole : take 256 c.as_slice.result.now ≡ c.args.reply.now = take_all 256 c.as_slice.result.now c.as_slice.ensures.within ∙ c.as_slice.ensures.bytes in
    rw whole at c.send.ensures.sends
