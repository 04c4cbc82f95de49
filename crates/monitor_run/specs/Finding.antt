-- What an answer says: the first word that applies, or how far the asked clock is.
use Rattle.std.specs.Prelude.{ℕ, Bool, not, ◌&&◌, ◌==◌, List, length, ℤ, if◌then◌else◌}
use Rattle.edge_traits.specs.declared.datagram.Addr.{Addr}
use Rattle.ntp_wire.specs.declared.stamp.Stamp.{Stamp}
use Rattle.ntp_wire.specs.Stamp.{ticks_of}
use Rattle.ntp_wire.specs.Fields.{leap_of, mode_of, stratum_of, originate_of, receive_of, transmit_of}
use Rattle.time_machine.specs.Verdict.{is_bad_mode, is_bad_stratum, is_same_addr, has_bad_times, offset_of, delay_of}
use Rattle.monitor_run.specs.declared.finding.Finding.{Finding}
use Rattle.monitor_run.specs.declared.finding.Finding.TheVariants.{Answered, Wrong}
use Rattle.monitor_run.specs.declared.finding.Word.TheVariants.{BadLength, BadSource, BadMode, BadStratum, NoRequest, BadTimes}

-- no header alone
abbrev pub is_bad_length : List ℕ → Bool
is_bad_length bytes = not (length bytes == 48)

-- another sender than the one that was asked
abbrev pub is_bad_source : (asked from : Addr) → Bool
is_bad_source asked from = not (is_same_addr from asked)

-- another timestamp than that of the request
abbrev pub is_other_stamp : (sent originate : Stamp) → Bool
is_other_stamp sent originate = not (originate.seconds == sent.seconds && originate.fraction == sent.fraction)

-- what the four times say: the request left and arrived, the answer left and arrived
abbrev pub finding_of_times : (t1 t2 t3 t4 : ℤ) → (stratum : ℕ) → Finding
finding_of_times t1 t2 t3 t4 stratum =
    if has_bad_times t1 t2 t3 t4 then Wrong BadTimes
    else Answered (offset_of t1 t2 t3 t4) (delay_of t1 t2 t3 t4) stratum

-- What a datagram says that came from a sender at the reading `t4`, after this address was asked at the reading `t1`
-- with this timestamp. Its two times are read near `t4`; no window and no limit is applied.
abbrev pub finding_of : (asked : Addr) → (stamp : Stamp) → (t1 : ℤ) → (from : Addr) → List ℕ → (t4 : ℤ) → Finding
finding_of asked stamp t1 from bytes t4 =
    if is_bad_length bytes then Wrong BadLength
    else if is_bad_source asked from then Wrong BadSource
    else if is_bad_mode (mode_of bytes) then Wrong BadMode
    else if is_bad_stratum (leap_of bytes) (stratum_of bytes) then Wrong BadStratum
    else if is_other_stamp stamp (originate_of bytes) then Wrong NoRequest
    else finding_of_times t1 (ticks_of (receive_of bytes) t4) (ticks_of (transmit_of bytes) t4) t4 (stratum_of bytes)
