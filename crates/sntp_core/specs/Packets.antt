-- The verdict on a message that was read from an arrival's bytes. It is the verdict on the bytes: no contract that
-- callers see cites it.
use Rattle.std.specs.Prelude.{ℕ, Bool, true, false, not, ◌||◌, ◌==◌, List, find, Option, Some, None, ℤ, if◌then◌else◌}
use Rattle.std.specs.Option.{option_map_or}
use Rattle.std.specs.Str.{bytes_eq}
use Rattle.edge_traits.specs.declared.datagram.Addr.{Addr}
use Rattle.ntp_wire.specs.Stamp.{ticks_of}
use Rattle.ms_auth.specs.declared.packet.Kind.{Kind}
use Rattle.ms_auth.specs.declared.packet.Kind.TheVariants.{Short, Extended}
use Rattle.ms_auth.specs.declared.packet.Packet.{Packet}
use Rattle.ms_auth.specs.declared.packet.Tail.{Tail}
use Rattle.ms_auth.specs.declared.packet.Tail.TheVariants.{Plain, Short68, Ext120}
use Rattle.ms_auth.specs.Digest.{digest_of, sum_of}
use Rattle.ms_auth.specs.Fields.{short_rid_in}
use Rattle.key_book.specs.declared.account.Account.{Account}
use Rattle.time_machine.specs.declared.outcome.Request.{Request}
use Rattle.time_machine.specs.declared.outcome.Reason.TheVariants.{BadLength, BadSource, BadMode, BadStratum, NoRequest, BadKeyId, BadDigest}
use Rattle.time_machine.specs.declared.outcome.Outcome.{Outcome}
use Rattle.time_machine.specs.declared.outcome.Outcome.TheVariants.{Refused}
use Rattle.time_machine.specs.declared.conf.Conf.{Conf}
use Rattle.time_machine.specs.Words.{Words}
use Rattle.time_machine.specs.Verdict.{is_bad_source, is_bad_mode, is_bad_stratum, is_answered, verdict_by_times}

-- the tail is that of a message of this kind
abbrev pub is_tail_of : Kind → Tail → Bool
is_tail_of Short (Short68 key_id sum) = true
is_tail_of Short other = false
is_tail_of Extended (Ext120 rid reserved flags hints hash sum) = true
is_tail_of Extended other = false

-- the tail names another account, or another digest
abbrev pub names_another : ℕ → Tail → Bool
names_another rid Plain = true
names_another rid (Short68 key_id sum) = not (short_rid_in key_id == rid)
names_another rid (Ext120 other reserved flags hints hash sum) = not (other == rid) || not (hash == 1)

-- both checksums are there, and they are the same
abbrev pub is_same_sum : Option (List ℕ) → Option (List ℕ) → Bool
is_same_sum (Some a) (Some b) = bytes_eq a b
is_same_sum (Some a) None = false
is_same_sum None other = false

-- the message carries its checksum under a key
abbrev pub carries : List ℕ → Packet → Bool
carries key p = is_same_sum (sum_of p.tail) (digest_of p key)

-- the message carries its checksum under the current or the previous key
abbrev pub carries_either : Account → Packet → Bool
carries_either account p = carries account.current p || option_map_or (λ key. carries key p) account.previous false

-- the reasons from NoRequest on
abbrev pub verdict_on_packet : Conf → ℤ → Packet → Option Request → Outcome
verdict_on_packet conf now p None = Refused NoRequest
verdict_on_packet conf now p (Some r) =
    if names_another conf.account.rid p.tail then Refused BadKeyId
    else if not (carries_either conf.account p) then Refused BadDigest
    else verdict_by_times conf.limits now r (ticks_of p.header.receive now) (ticks_of p.header.transmit now)

-- what a message leads to
abbrev pub packet_verdict : Conf → Words → ℤ → Addr → Packet → Outcome
packet_verdict conf w now from p =
    if not (is_tail_of conf.kind p.tail) then Refused BadLength
    else if is_bad_source conf w from then Refused BadSource
    else if is_bad_mode p.header.mode then Refused BadMode
    else if is_bad_stratum p.header.leap p.header.stratum then Refused BadStratum
    else verdict_on_packet conf now p (find (is_answered now p.header.originate) w.open_requests)
