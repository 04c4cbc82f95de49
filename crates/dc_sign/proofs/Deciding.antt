-- A request is decided by its bytes as by what was read of it.
use Rattle.std.proofs.Common.{◌≡◌, ◌==◌, false, ℕ, List, length, Some, refl, inl, inr}
use Rattle.std.proofs.lemmas.Bool.{ne_eqb}
use Rattle.ms_auth.specs.declared.packet.Packet.{Packet}
use Rattle.ms_auth.specs.declared.packet.Tail.{Tail}
use Rattle.ms_auth.specs.declared.packet.Tail.TheVariants.{Plain, Short68, Ext120}
use Rattle.ms_auth.specs.Fields.{IsPacketAt, IsTailAt}
use Rattle.ms_auth.specs.Packet.{IsPacketLength}
use Rattle.key_book.specs.declared.account.Account.{Account}
use Rattle.dc_sign.specs.declared.outcome.Refusal.TheVariants.{BadLength}
use Rattle.dc_sign.specs.Asked.{asked_at, asked_in}
use Rattle.dc_sign.specs.Reply.{refusal_of, first_refusal, is_bad_length}

-- the key that the bytes ask for is the one that the tail asks for
asked_same : (bytes : List ℕ) (t : Tail) → IsTailAt bytes t → asked_at bytes ≡ asked_in t
asked_same bytes Plain at = rw at refl
asked_same bytes (Short68 key_id sum) at =
    let same = at.1 in
    rw (at.0, same) refl
asked_same bytes (Ext120 rid reserved flags hints hash sum) at =
    let rid_is = at.key_id_is in
    let flags_is = at.flags_is in
    rw (at.size, rid_is, flags_is) refl

-- what has a tail has the length of a message
good_length : (bytes : List ℕ) (t : Tail) → IsTailAt bytes t → is_bad_length bytes ≡ false
good_length bytes Plain at = rw at refl
good_length bytes (Short68 key_id sum) at = rw (at.0) refl
good_length bytes (Ext120 rid reserved flags hints hash sum) at = rw (at.size) refl

-- a request is refused by its bytes as by what was read
pub refusal_read : (accounts : List Account) (p : Packet) (bytes : List ℕ) → IsPacketAt bytes p
    → refusal_of accounts bytes ≡ first_refusal accounts p.header.version p.header.mode (asked_in p.tail)
unfolding refusal_of
refusal_read accounts p bytes at =
    let good = good_length bytes p.tail at.tail in
    let asked = asked_same bytes p.tail at.tail in
    let version = at.header.version in
    let mode = at.header.mode in
    rw (good, asked, version, mode) refl

-- bytes of another length are refused for it
pub wrong_length : (accounts : List Account) (bytes : List ℕ) → ¬ IsPacketLength (length bytes) → refusal_of accounts bytes ≡ Some BadLength
unfolding refusal_of
wrong_length accounts bytes other =
    let plain : (length bytes == 48) ≡ false = ne_eqb (length bytes) 48 (λ same. other (inl same)) in
    let short : (length bytes == 68) ≡ false = ne_eqb (length bytes) 68 (λ same. other (inr (inl same))) in
    let extended : (length bytes == 120) ≡ false = ne_eqb (length bytes) 120 (λ same. other (inr (inr same))) in
    rw (plain, short, extended) refl
