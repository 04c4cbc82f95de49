use Rattle.std.proofs.Common.{rules, ◌≡◌, ◌++◌, ◌<◌, length, Some, sym, ap, ◌∙◌, arith, length-append}
use Rattle.capture_fmt.specs.declared.fault.Flaw.TheVariants.{Torn}
use Rattle.capture_fmt.specs.Event.{EventFits}
use Rattle.capture_fmt.specs.Record.{event_bytes, record_flaw}
use Rattle.capture_fmt.proofs.Growing.{cut_is_short}
use Rattle.capture_fmt.proofs.gather.gather.Goals as goal

pub returns-in-Ok-clause-sees : goal.returns-in-Ok-clause-sees
returns-in-Ok-clause-sees g c =
    let found : EventFits c.in-Ok.event × (c.as_slice-bytes.result.now ≡ event_bytes c.in-Ok.event ++ c.in-Ok.rest.now) = search rules in
    record {
      rest = c.in-Ok.rest.now;
      fits = found.0;
      written = sym c.as_slice-bytes.ensures.value ∙ found.1;
      len_is = omega (arith, ap length found.1, length-append (event_bytes c.in-Ok.event) c.in-Ok.rest.now);
      short = omega (arith, c.as_slice-bytes.ensures.bound);
    }

pub fill-requires : goal.fill-requires
fill-requires g c =
    let cut : record_flaw c.as_slice-bytes.result.now ≡ Some Torn = c.in-Err-Torn.ensures.flaw ∙ ap Some c.in-Err-Torn.field-0-is in
    omega (arith, cut_is_short c.as_slice-bytes.result.now cut, ap length c.as_slice-bytes.ensures.value)

pub loop-event-smaller : goal.loop-event-smaller
loop-event-smaller g c =
    let cut : record_flaw c.as_slice-bytes.result.now ≡ Some Torn = c.in-Err-Torn.ensures.flaw ∙ ap Some c.in-Err-Torn.field-0-is in
    omega (arith, cut_is_short c.as_slice-bytes.result.now cut, ap length c.as_slice-bytes.ensures.value, c.in-Bytes.ensures.fills.0)
