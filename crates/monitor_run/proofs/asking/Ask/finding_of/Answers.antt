use Rattle.std.proofs.Common.{◌≡◌, w64, sym, ◌∙◌}
use Rattle.std.proofs.lemmas.Int.{to_z-of_z}
use Rattle.ntp_wire.specs.Stamp.{ticks_of}
use Rattle.monitor_run.specs.Finding.{finding_of_times}
use Rattle.monitor_run.proofs.Fields.{by_times, near_fits, reading_fits}
use Rattle.monitor_run.proofs.asking.Ask.finding_of.Goals as goal

pub returns-else-is_other_stamp : goal.returns-else-is_other_stamp
returns-else-is_other_stamp c =
    let header = c.in-Ok.header in
    let now = c.args.now in
    let at = c.args.self.now.at in
    let reading = to_z-of_z w64 now c.ranges.now in
    let before = to_z-of_z w64 at (reading_fits at c.requires.sent) in
    let received : c.to_ticks-received.result ≡ ticks_of header.receive now = rw reading at c.to_ticks-received.ensures.value in
    let sent : c.to_ticks-sent.result ≡ ticks_of header.transmit now = rw reading at c.to_ticks-sent.ensures.value in
    let first = to_z-of_z w64 c.to_ticks-received.result (near_fits header.receive now c.to_ticks-received.result c.requires.now received) in
    let second = to_z-of_z w64 c.to_ticks-sent.result (near_fits header.transmit now c.to_ticks-sent.result c.requires.now sent) in
    let times : c.finding_of_times.result ≡ finding_of_times at c.to_ticks-received.result c.to_ticks-sent.result now header.stratum =
    rw (reading, before, first, second) at c.finding_of_times.ensures in
    let bytes =
    by_times c.args.to c.args.self.now.stamp at c.args.from c.args.bytes.now now header c.in-Ok.ensures.fields
    (sym c.is_bad_length.ensures ∙ c.if-is_bad_length.false) (sym c.is_bad_source.ensures ∙ c.if-is_bad_source.false) (sym c.is_bad_mode.ensures ∙ c.if-is_bad_mode.false)
    (sym c.is_bad_stratum.ensures ∙ c.if-is_bad_stratum.false) (sym c.is_other_stamp.ensures ∙ c.if-is_other_stamp.false) in
    times ∙ (λ i. finding_of_times at (received i) (sent i) now header.stratum) ∙ sym bytes
