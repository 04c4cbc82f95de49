-- The verdict on the message that was read is the verdict on its bytes.
use Rattle.std.proofs.Common.{◌≡◌, ◌≢◌, ℕ, List, length, Bool, true, false, Option, Some, None, inl, inr, refl, ◌∙◌, ap, arith, if◌then◌else◌, ℤ, find}
use Rattle.std.specs.Prelude.{not, ◌&&◌, ◌||◌, ◌==◌}
use Rattle.std.specs.Option.{option_map_or}
use Rattle.edge_traits.specs.declared.datagram.Addr.{Addr}
use Rattle.ms_auth.specs.declared.packet.Kind.{Kind}
use Rattle.ms_auth.specs.declared.packet.Kind.TheVariants.{Short, Extended}
use Rattle.ms_auth.specs.declared.packet.Packet.{Packet}
use Rattle.ms_auth.specs.declared.packet.Tail.{Tail}
use Rattle.ms_auth.specs.declared.packet.Tail.TheVariants.{Plain, Short68, Ext120}
use Rattle.ms_auth.specs.Fields.{IsTailAt, IsChecksumAt, IsPacketAt, kind_length}
use Rattle.ms_auth.specs.Packet.{IsPacketLength}
use Rattle.key_book.specs.declared.account.Account.{Account}
use Rattle.ntp_wire.specs.Fields.{stratum_of, transmit_of}
use Rattle.ntp_wire.specs.Stamp.{ticks_of}
use Rattle.time_machine.specs.declared.outcome.Request.{Request}
use Rattle.time_machine.specs.declared.outcome.Outcome.{Outcome}
use Rattle.time_machine.specs.declared.outcome.Outcome.TheVariants.{Refused}
use Rattle.time_machine.specs.declared.outcome.Reason.TheVariants.{BadLength}
use Rattle.time_machine.specs.declared.conf.Conf.{Conf}
use Rattle.time_machine.specs.Words.{Words}
use Rattle.time_machine.specs.Verdict.{is_bad_length, is_bad_source, is_bad_mode, is_bad_stratum, is_bad_key_id, is_bad_digest, has_digest, is_answered, verdict_by_times, verdict_on, verdict_at}
use Rattle.sntp_core.specs.Packets.{is_tail_of, names_another, carries, carries_either, verdict_on_packet, packet_verdict}

if_same : (b b' : Bool) (r x x' : Outcome) → b ≡ b' → (b' ≡ false → x ≡ x') → (if b then r else x) ≡ (if b' then r else x')
if_same true true r x x' e f = refl
if_same true false r x x' e f = cc
if_same false true r x x' e f = cc
if_same false false r x x' e f = f refl

-- ---- The length

not_equal : (m n : ℕ) → m ≢ n → not (m == n) ≡ true
not_equal m n h = grind (arith, h)

equal : (m n : ℕ) → m ≡ n → not (m == n) ≡ false
equal m n h = grind (arith, h)

length_is : (kind : Kind) (bytes : List ℕ) (t : Tail) → IsTailAt bytes t → is_bad_length kind bytes ≡ not (is_tail_of kind t)
length_is Short bytes Plain h = not_equal (length bytes) 68 (omega arith)
length_is Short bytes (Short68 key_id sum) h = let long = h.0 in equal (length bytes) 68 long
length_is Short bytes (Ext120 rid reserved flags hints hash sum) h = let long = h.size in not_equal (length bytes) 68 (omega arith)
length_is Extended bytes Plain h = not_equal (length bytes) 120 (omega arith)
length_is Extended bytes (Short68 key_id sum) h = let long = h.0 in not_equal (length bytes) 120 (omega arith)
length_is Extended bytes (Ext120 rid reserved flags hints hash sum) h = let long = h.size in equal (length bytes) 120 long

-- the bytes of a message of a kind have that length
has_length : (kind : Kind) (bytes : List ℕ) (t : Tail) → IsTailAt bytes t → is_tail_of kind t ≡ true → length bytes ≡ kind_length kind
has_length Short bytes Plain h e = cc
has_length Short bytes (Short68 key_id sum) h e = h.0
has_length Short bytes (Ext120 rid reserved flags hints hash sum) h e = cc
has_length Extended bytes Plain h e = cc
has_length Extended bytes (Short68 key_id sum) h e = cc
has_length Extended bytes (Ext120 rid reserved flags hints hash sum) h e = h.size

-- no message has another length
pub other_length : (kind : Kind) (bytes : List ℕ) → (IsPacketLength (length bytes) → ⊥) → is_bad_length kind bytes ≡ true
other_length Short bytes h = not_equal (length bytes) 68 (λ e. h (inr (inl e)))
other_length Extended bytes h = not_equal (length bytes) 120 (λ e. h (inr (inr e)))

-- ---- The tail

names_is : (kind : Kind) (rid : ℕ) (bytes : List ℕ) (t : Tail) → IsTailAt bytes t → is_tail_of kind t ≡ true → is_bad_key_id kind rid bytes ≡ names_another rid t
names_is Short rid bytes Plain h e = cc
names_is Short rid bytes (Short68 key_id sum) h e = rw h.1 refl
names_is Short rid bytes (Ext120 other reserved flags hints hash sum) h e = cc
names_is Extended rid bytes Plain h e = cc
names_is Extended rid bytes (Short68 key_id sum) h e = cc
names_is Extended rid bytes (Ext120 other reserved flags hints hash sum) h e = rw (h.key_id_is, h.hash_is) refl

digest_is : (kind : Kind) (bytes : List ℕ) (p : Packet) (key : List ℕ) → IsChecksumAt kind bytes p → has_digest kind key bytes ≡ carries key p
digest_is kind bytes p key h = rw (h.carried, h.due key) refl

previous_is : (kind : Kind) (bytes : List ℕ) (p : Packet) (o : Option (List ℕ)) → IsChecksumAt kind bytes p →
    option_map_or (λ key. has_digest kind key bytes) o false ≡ option_map_or (λ key. carries key p) o false
previous_is kind bytes p None h = refl
previous_is kind bytes p (Some key) h = digest_is kind bytes p key h

neither : (a b : Bool) → (not a && not b) ≡ not (a || b)
neither true b = refl
neither false b = refl

signed_is : (kind : Kind) (account : Account) (bytes : List ℕ) (p : Packet) → IsChecksumAt kind bytes p → is_bad_digest kind account bytes ≡ not (carries_either account p)
signed_is kind account bytes p h =
    rw (digest_is kind bytes p account.current h, previous_is kind bytes p account.previous h) (neither (carries account.current p) (option_map_or (λ key. carries key p) account.previous false))

-- ---- The verdict

from_not : (b : Bool) → not b ≡ false → b ≡ true
from_not true e = refl
from_not false e = cc

verdict_on_is : (conf : Conf) (now : ℤ) (bytes : List ℕ) (p : Packet) (o : Option Request) → IsPacketAt bytes p → is_tail_of conf.kind p.tail ≡ true →
    verdict_on conf now bytes o ≡ verdict_on_packet conf now p o
verdict_on_is conf now bytes p None h k = refl
verdict_on_is conf now bytes p (Some r) h k =
    let sum = h.checksum conf.kind (has_length conf.kind bytes p.tail h.tail k) in
    if_same _ _ _ _ _ (names_is conf.kind conf.account.rid bytes p.tail h.tail k)
    (λ e. if_same _ _ _ _ _ (signed_is conf.kind conf.account bytes p sum)
    (λ f. ap (λ s. verdict_by_times conf.limits now r (ticks_of s now) (ticks_of (transmit_of bytes) now)) h.header.receive
    ∙ ap (λ s. verdict_by_times conf.limits now r (ticks_of p.header.receive now) (ticks_of s now)) h.header.transmit))

pub verdict_is : (conf : Conf) (w : Words) (now : ℤ) (from : Addr) (bytes : List ℕ) (p : Packet) → IsPacketAt bytes p →
    verdict_at conf w now from bytes ≡ packet_verdict conf w now from p
verdict_is conf w now from bytes p h =
    if_same _ _ _ _ _ (length_is conf.kind bytes p.tail h.tail)
    (λ k. if_same (is_bad_source conf w from) _ _ _ _ refl
    (λ e. if_same _ _ _ _ _ (ap is_bad_mode h.header.mode)
    (λ f. if_same _ _ _ _ _ (ap (λ leap. is_bad_stratum leap (stratum_of bytes)) h.header.leap ∙ ap (λ stratum. is_bad_stratum p.header.leap stratum) h.header.stratum)
    (λ g. ap (λ s. verdict_on conf now bytes (find (is_answered now s) w.open_requests)) h.header.originate
    ∙ verdict_on_is conf now bytes p (find (is_answered now p.header.originate) w.open_requests) h (from_not (is_tail_of conf.kind p.tail) k)))))

-- bytes that are no message are refused for their length
pub no_message : (conf : Conf) (w : Words) (now : ℤ) (from : Addr) (bytes : List ℕ) → (IsPacketLength (length bytes) → ⊥) →
    verdict_at conf w now from bytes ≡ Refused BadLength
no_message conf w now from bytes h = rw (other_length conf.kind bytes h) refl
