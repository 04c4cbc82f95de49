-- What an arrival leads to: it is refused for the first reason that applies, or accepted.
use Rattle.std.specs.Prelude.{ℕ, ◌%◌, Bool, false, not, ◌&&◌, ◌||◌, ◌==◌, nat_lt, List, length, find, Option, Some, None, unwrap_or, slice_get, ℤ, pos, ◌+ℤ◌, ◌-ℤ◌, int_lt, int_le, int_div, if◌then◌else◌}
use Rattle.std.specs.Option.{option_map_or}
use Rattle.std.specs.Str.{bytes_eq}
use Rattle.edge_traits.specs.declared.datagram.Addr.{Addr}
use Rattle.ntp_wire.specs.declared.stamp.Stamp.{Stamp}
use Rattle.ntp_wire.specs.Stamp.{ticks_of}
use Rattle.ntp_wire.specs.Fields.{leap_of, mode_of, stratum_of, originate_of, receive_of, transmit_of}
use Rattle.ms_auth.specs.declared.packet.Kind.{Kind}
use Rattle.ms_auth.specs.declared.packet.Kind.TheVariants.{Short, Extended}
use Rattle.ms_auth.specs.Fields.{key_id_of, short_rid_of, hash_of, kind_length, sum_at, digest_at}
use Rattle.key_book.specs.declared.account.Account.{Account}
use Rattle.phase_rule.specs.declared.limits.Limits.{Limits}
use Rattle.phase_rule.specs.declared.rule.Judged.{Judged}
use Rattle.phase_rule.specs.declared.rule.Judged.TheVariants as judgement
use Rattle.phase_rule.specs.Rule.{judged}
use Rattle.time_machine.specs.declared.outcome.Request.{Request}
use Rattle.time_machine.specs.declared.outcome.How.TheVariants.{Slew, Step}
use Rattle.time_machine.specs.declared.outcome.Reason.TheVariants.{BadLength, BadSource, BadMode, BadStratum, NoRequest, BadKeyId, BadDigest, BadTimes, TooBig}
use Rattle.time_machine.specs.declared.outcome.Outcome.{Outcome}
use Rattle.time_machine.specs.declared.outcome.Outcome.TheVariants.{Moved, Refused}
use Rattle.time_machine.specs.declared.conf.Conf.{Conf}
use Rattle.time_machine.specs.Words.{Words}

-- ---- The bytes of a reply

-- the length is not that of a message of this kind
abbrev pub is_bad_length : Kind → List ℕ → Bool
is_bad_length kind bytes = not (length bytes == kind_length kind)

-- the mode is not 4, server
abbrev pub is_bad_mode : ℕ → Bool
is_bad_mode mode = not (mode == 4)

-- the sender's clock is not synchronized: the stratum is not 1 to 15, or the leap indicator is 3
abbrev pub is_bad_stratum : (leap stratum : ℕ) → Bool
is_bad_stratum leap stratum = nat_lt stratum 1 || nat_lt 15 stratum || leap == 3

-- Another account is named, or in an extended reply a SignatureHashID other than 1. What else stands in the tail is
-- not looked at, bit 31 of a short key identifier neither.
abbrev pub is_bad_key_id : Kind → ℕ → List ℕ → Bool
is_bad_key_id Short rid bytes = not (short_rid_of bytes == rid)
is_bad_key_id Extended rid bytes = not (key_id_of bytes == rid) || not (hash_of bytes == 1)

-- the checksum is the digest under a key
abbrev pub has_digest : Kind → List ℕ → List ℕ → Bool
has_digest kind key bytes = bytes_eq (sum_at kind bytes) (digest_at kind key bytes)

-- the checksum is the digest under neither the current nor the previous key, whichever the key identifier asks for
abbrev pub is_bad_digest : Kind → Account → List ℕ → Bool
is_bad_digest kind account bytes =
    not (has_digest kind account.current bytes)
    && not (option_map_or (λ key. has_digest kind key bytes) account.previous false)

-- ---- The partner and the request

-- the address at a place in rank
abbrev pub address_at : Conf → ℕ → Addr
address_at conf place = unwrap_or (slice_get conf.partners place) (record { ip = 0; port = 0 })

-- the place in rank of the present partner: after the last one comes the first one again
abbrev pub present_partner : Conf → Words → ℕ
present_partner conf w = w.changes % length conf.partners

-- address and port are the same
abbrev pub is_same_addr : Addr → Addr → Bool
is_same_addr a b = a.ip == b.ip && a.port == b.port

-- the sender isn't the present partner
abbrev pub is_bad_source : Conf → Words → Addr → Bool
is_bad_source conf w from = not (is_same_addr from (address_at conf (present_partner conf w)))

-- the timestamp is the request's, which can be answered at this reading: from its sending to ten seconds after, both
-- ends included
abbrev pub is_answered : ℤ → Stamp → Request → Bool
is_answered now stamp r =
    r.count == stamp.seconds && r.word == stamp.fraction && int_le r.at now && int_le now (r.at +ℤ pos 100000000)

-- ---- The four times: the request left and arrived, the reply left and arrived

-- how far the partner's clock is ahead: half the sum of the two differences, truncated toward zero
abbrev pub offset_of : (t1 t2 t3 t4 : ℤ) → ℤ
offset_of t1 t2 t3 t4 = int_div ((t2 -ℤ t1) +ℤ (t3 -ℤ t4)) (pos 2)

-- how long both messages were on their way
abbrev pub delay_of : (t1 t2 t3 t4 : ℤ) → ℤ
delay_of t1 t2 t3 t4 = (t4 -ℤ t1) -ℤ (t3 -ℤ t2)

-- the reply left before the request arrived, or the delay is negative
abbrev pub has_bad_times : (t1 t2 t3 t4 : ℤ) → Bool
has_bad_times t1 t2 t3 t4 = int_lt t3 t2 || int_lt (delay_of t1 t2 t3 t4) (pos 0)

-- ---- The verdict

-- the correction by an offset, as it was judged
abbrev pub moved_by : ℕ → ℤ → Judged → Outcome
moved_by count offset judgement.TooBig = Refused TooBig
moved_by count offset judgement.Step = Moved count offset Step
moved_by count offset judgement.Slew = Moved count offset Slew

-- the reasons that are left once a reply is known to be signed, which answers this request and has these two times
abbrev pub verdict_by_times : Limits → ℤ → Request → (t2 t3 : ℤ) → Outcome
verdict_by_times limits now r t2 t3 =
    if has_bad_times r.at t2 t3 now then Refused BadTimes
    else moved_by r.count (offset_of r.at t2 t3 now) (judged limits (offset_of r.at t2 t3 now))

-- The reasons from NoRequest on, for the open request that is answered, if there is one. Both times are read near
-- this arrival.
abbrev pub verdict_on : Conf → ℤ → List ℕ → Option Request → Outcome
verdict_on conf now bytes None = Refused NoRequest
verdict_on conf now bytes (Some r) =
    if is_bad_key_id conf.kind conf.account.rid bytes then Refused BadKeyId
    else if is_bad_digest conf.kind conf.account bytes then Refused BadDigest
    else verdict_by_times conf.limits now r (ticks_of (receive_of bytes) now) (ticks_of (transmit_of bytes) now)

-- The first reason that applies, or the correction. A new reason also changes `Reason` of src/outcome.rt, `IsRight` of
-- Laws.antt (and `IsLookedUp`, if asked before NoRequest), `reason_text` of Report.antt, and After, Answered and Earlier of
-- proofs/; in `sntp_core` the same verdict on a read message, specs/Packets.antt, src/arriving.rt, src/report.rt and tests' rows.
abbrev pub verdict_at : Conf → Words → ℤ → Addr → List ℕ → Outcome
verdict_at conf w now from bytes =
    if is_bad_length conf.kind bytes then Refused BadLength
    else if is_bad_source conf w from then Refused BadSource
    else if is_bad_mode (mode_of bytes) then Refused BadMode
    else if is_bad_stratum (leap_of bytes) (stratum_of bytes) then Refused BadStratum
    else verdict_on conf now bytes (find (is_answered now (originate_of bytes)) w.open_requests)
