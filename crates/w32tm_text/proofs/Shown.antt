-- The lines of a message, and those with which `/dc` ends, have bytes in them.
use Rattle.std.proofs.Common.{◌<◌, ℕ, zero, suc, List, length, All, arith}
use Rattle.ntp_wire.specs.declared.header.Header.{Header}
use Rattle.ms_auth.specs.declared.packet.Packet.{Packet}
use Rattle.ms_auth.specs.declared.packet.Tail.{Tail}
use Rattle.ms_auth.specs.declared.packet.Tail.TheVariants.{Plain, Short68, Ext120}
use Rattle.dc_sign.specs.declared.tally.ServeEnd.{ServeEnd}
use Rattle.w32tm_text.specs.Dc.{replies_line, refused_line, link_line, dc_lines}
use Rattle.w32tm_text.specs.Show.{clock_line, root_line, reference_line, receive_line, tail_line, show_lines}

clock_some : (h : Header) → 0 < length (clock_line h)
unfolding clock_line
clock_some h = omega arith

root_some : (h : Header) → 0 < length (root_line h)
unfolding root_line
root_some h = omega arith

reference_some : (h : Header) → 0 < length (reference_line h)
unfolding reference_line
reference_some h = omega arith

receive_some : (h : Header) → 0 < length (receive_line h)
unfolding receive_line
receive_some h = omega arith

tail_some : (t : Tail) → 0 < length (tail_line t)
unfolding tail_line
tail_some Plain = omega arith
tail_some (Short68 key_id sum) = omega arith
tail_some (Ext120 rid reserved flags hints hash sum) = omega arith

-- none of the five is empty
pub lines_some : (p : Packet) → All (λ (line : List ℕ). 0 < length line) (show_lines p)
lines_some p zero d lt = clock_some p.header
lines_some p (suc zero) d lt = root_some p.header
lines_some p (suc (suc zero)) d lt = reference_some p.header
lines_some p (suc (suc (suc zero))) d lt = receive_some p.header
lines_some p (suc (suc (suc (suc zero)))) d lt = tail_some p.tail
lines_some p (suc (suc (suc (suc (suc k))))) d lt = absurd (omega arith)

replies_some : (e : ServeEnd) → 0 < length (replies_line e)
unfolding replies_line
replies_some e = omega arith

refused_some : (e : ServeEnd) → 0 < length (refused_line e)
unfolding refused_line
refused_some e = omega arith

link_some : (e : ServeEnd) → 0 < length (link_line e)
unfolding link_line
link_some e = omega arith

-- none of the three is empty
pub dc_some : (e : ServeEnd) → All (λ (line : List ℕ). 0 < length line) (dc_lines e)
dc_some e zero d lt = replies_some e
dc_some e (suc zero) d lt = refused_some e
dc_some e (suc (suc zero)) d lt = link_some e
dc_some e (suc (suc (suc k))) d lt = absurd (omega arith)
