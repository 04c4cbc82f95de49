use Rattle.std.proofs.Common.{arith, length, ap}
use Rattle.w32t_calls.proofs.Parts.{request_asks, request_long}
use Rattle.w32t_calls.proofs.answers.request_of.Goals as goal

pub split_at-requires : goal.split_at-requires
split_at-requires c =
    omega (arith, c.stub_place.ensures, request_asks c.args.pdu.now c.requires.kind c.requires.fits, ap length c.as_slice-body.ensures.bytes)

pub half_word_at-requires : goal.half_word_at-requires
half_word_at-requires c = omega (arith, request_long c.args.pdu.now c.requires.kind c.requires.fits, ap length c.as_slice-body.ensures.bytes)

pub half_word_at-requires-2 : goal.half_word_at-requires-2
half_word_at-requires-2 c = omega (arith, request_long c.args.pdu.now c.requires.kind c.requires.fits, ap length c.as_slice-body.ensures.bytes)
