-- An answer is judged by its header as by its bytes.
use Rattle.std.proofs.Common.{◌≡◌, ℕ, Bool, false, List, ℤ, FitsSigned, w64, arith, if◌then◌else◌, refl, sym, subst, ◌∙◌}
use Rattle.std.proofs.lemmas.Int.{ints}
use Rattle.base_specs.specs.Time.{IsReading, IsTicksNear}
use Rattle.edge_traits.specs.declared.datagram.Addr.{Addr}
use Rattle.ntp_wire.specs.declared.header.Header.{Header}
use Rattle.ntp_wire.specs.declared.stamp.Stamp.{Stamp}
use Rattle.ntp_wire.specs.Fields.{IsHeaderAt}
use Rattle.ntp_wire.specs.Stamp.{ticks_of}
use Rattle.ntp_wire.proofs.Moments.{ticks_of_is_near}
use Rattle.time_machine.specs.Verdict.{is_bad_mode, is_bad_stratum}
use Rattle.monitor_run.specs.declared.finding.Finding.{Finding}
use Rattle.monitor_run.specs.declared.finding.Finding.TheVariants.{Wrong}
use Rattle.monitor_run.specs.declared.finding.Word.TheVariants.{BadLength, BadSource, BadMode, BadStratum, NoRequest}
use Rattle.monitor_run.specs.Finding.{finding_of, finding_of_times, is_bad_length, is_bad_source, is_other_stamp}

-- the first of five tests that is passed, or the rest
first_of : (length source mode stratum stamp : Bool) → Finding → Finding
first_of length source mode stratum stamp rest =
    if length then Wrong BadLength
    else if source then Wrong BadSource
    else if mode then Wrong BadMode
    else if stratum then Wrong BadStratum
    else if stamp then Wrong NoRequest
    else rest

none_passed : (a b c d e : Bool) (rest : Finding) → a ≡ false → b ≡ false → c ≡ false → d ≡ false → e ≡ false → first_of a b c d e rest ≡ rest
unfolding first_of
none_passed a b c d e rest la lb lc ld le = rw (la, lb, lc, ld, le) refl

by_header : (asked : Addr) (sent : Stamp) (t1 : ℤ) (from : Addr) (bytes : List ℕ) (t4 : ℤ) (h : Header) → IsHeaderAt bytes h
    → finding_of asked sent t1 from bytes t4
    ≡ first_of (is_bad_length bytes) (is_bad_source asked from) (is_bad_mode h.mode) (is_bad_stratum h.leap h.stratum) (is_other_stamp sent h.originate)
    (finding_of_times t1 (ticks_of h.receive t4) (ticks_of h.transmit t4) t4 h.stratum)
unfolding first_of
by_header asked sent t1 from bytes t4 h at =
    let leap = at.leap in
    let mode = at.mode in
    let stratum = at.stratum in
    let originate = at.originate in
    let receive = at.receive in
    let transmit = at.transmit in
    λ i. first_of (is_bad_length bytes) (is_bad_source asked from) (is_bad_mode (mode i)) (is_bad_stratum (leap i) (stratum i)) (is_other_stamp sent (originate i))
    (finding_of_times t1 (ticks_of (receive i) t4) (ticks_of (transmit i) t4) t4 (stratum i))

-- where no word but BadTimes applies, the times decide
pub by_times : (asked : Addr) (sent : Stamp) (t1 : ℤ) (from : Addr) (bytes : List ℕ) (t4 : ℤ) (h : Header) → IsHeaderAt bytes h
    → is_bad_length bytes ≡ false → is_bad_source asked from ≡ false → is_bad_mode h.mode ≡ false → is_bad_stratum h.leap h.stratum ≡ false → is_other_stamp sent h.originate ≡ false
    → finding_of asked sent t1 from bytes t4 ≡ finding_of_times t1 (ticks_of h.receive t4) (ticks_of h.transmit t4) t4 h.stratum
by_times asked sent t1 from bytes t4 h at length source mode stratum stamp =
    by_header asked sent t1 from bytes t4 h at ∙ none_passed _ _ _ _ _ _ length source mode stratum stamp

in_reach_fits : (stamp : Stamp) (near t : ℤ) → IsReading near → IsTicksNear stamp.seconds stamp.fraction near t → FitsSigned w64 t
in_reach_fits stamp near t reading is =
    let least = reading.0 in
    let most = reading.1 in
    let low = is.low in
    let high = is.high in
    omega (arith, ints)

-- a moment that is read near a reading fits its type
pub near_fits : (stamp : Stamp) (near t : ℤ) → IsReading near → t ≡ ticks_of stamp near → FitsSigned w64 t
near_fits stamp near t reading is =
    let Near : ℤ → Type 0 = λ (x : ℤ). IsTicksNear stamp.seconds stamp.fraction near x in
    in_reach_fits stamp near t reading (subst Near (sym is) (ticks_of_is_near stamp near))

pub reading_fits : (t : ℤ) → IsReading t → FitsSigned w64 t
reading_fits t reading =
    let least = reading.0 in
    let most = reading.1 in
    omega (arith, ints)
