-- What a message asks for and carries, by its bytes and as it was read.
use Rattle.std.proofs.Common.{◌≡◌, ℕ, ◌≤◌, List, length, Some, inl, inr, ap, refl, sym, ◌∙◌, arith}
use Rattle.std.proofs.lemmas.Slice.Eq.{bytes_eq-Decides}
use Rattle.ms_auth.specs.declared.packet.Kind.{Kind}
use Rattle.ms_auth.specs.declared.packet.Kind.TheVariants.{Short, Extended}
use Rattle.ms_auth.specs.declared.packet.Packet.{Packet}
use Rattle.ms_auth.specs.declared.packet.Tail.{Tail}
use Rattle.ms_auth.specs.declared.packet.Tail.TheVariants.{Plain, Short68, Ext120}
use Rattle.ms_auth.specs.Digest.{HasDigest, sum_of}
use Rattle.ms_auth.specs.Fields.{IsPacketAt, IsTailAt, digest_at, kind_length, rid_at, short_rid_in, sum_at}
use Rattle.ms_auth.specs.Packet.{IsPacketLength}
use Rattle.sntp_world.specs.Due.{NamesAccount}
use Rattle.sntp_world.specs.Setting.{world_key, world_rid}
use Rattle.sntp_world.specs.Steps.{AsksForMember, HasAccountDigest}

-- ---- The account

pub asks : (bytes : List ℕ) (t : Tail) → IsTailAt bytes t → NamesAccount t → AsksForMember bytes
asks bytes Plain at names = absurd names
asks bytes (Short68 key_id sum) at names = record { kind = Short; size = at.0; account = ap short_rid_in at.1 ∙ names }
asks bytes (Ext120 rid reserved flags hints hash sum) at names = record { kind = Extended; size = at.size; account = at.key_id_is ∙ names }

names_by : (bytes : List ℕ) (t : Tail) (kind : Kind) → IsTailAt bytes t → length bytes ≡ kind_length kind → rid_at kind bytes ≡ world_rid → NamesAccount t
names_by bytes Plain Short at size names = absurd (omega (arith, at, size))
names_by bytes Plain Extended at size names = absurd (omega (arith, at, size))
names_by bytes (Short68 key_id sum) Short at size names = sym (ap short_rid_in at.1) ∙ names
names_by bytes (Short68 key_id sum) Extended at size names = absurd (omega (arith, at.0, size))
names_by bytes (Ext120 rid reserved flags hints hash sum) Short at size names = absurd (omega (arith, at.size, size))
names_by bytes (Ext120 rid reserved flags hints hash sum) Extended at size names = sym at.key_id_is ∙ names

pub names : (bytes : List ℕ) (t : Tail) → IsTailAt bytes t → AsksForMember bytes → NamesAccount t
names bytes t at asks = names_by bytes t asks.kind at asks.size asks.account

-- ---- Lengths

-- a message of a kind has the length of one, and a header
kind_whole : (kind : Kind) → 48 ≤ kind_length kind
kind_whole Short = omega arith
kind_whole Extended = omega arith

kind_is_length : (kind : Kind) (n : ℕ) → n ≡ kind_length kind → IsPacketLength n
kind_is_length Short n same = inr (inl same)
kind_is_length Extended n same = inr (inr same)

pub asks_whole : (bytes : List ℕ) → AsksForMember bytes → 48 ≤ length bytes
asks_whole bytes asks = let low = kind_whole asks.kind in omega (arith, low, asks.size)

pub no_length_asks : (bytes : List ℕ) → (IsPacketLength (length bytes) → ⊥) → AsksForMember bytes → ⊥
no_length_asks bytes none asks = none (kind_is_length asks.kind (length bytes) asks.size)

pub no_length_signed : (bytes : List ℕ) → (IsPacketLength (length bytes) → ⊥) → HasAccountDigest bytes → ⊥
no_length_signed bytes none signed = none (kind_is_length signed.kind (length bytes) signed.size)

-- ---- The digest

signed_by : (bytes : List ℕ) (p : Packet) (kind : Kind) → IsPacketAt bytes p → length bytes ≡ kind_length kind → HasDigest world_key p → HasAccountDigest bytes
signed_by bytes p kind at size has =
    let checksum = at.checksum kind size in
    let carried = checksum.carried in
    let due = checksum.due world_key in
    let sum = has.carried in
    let digest = has.is_digest in
    let one : sum_at kind bytes ≡ digest_at kind world_key bytes = cc in
    record { kind = kind; size = size; digest = (bytes_eq-Decides (sum_at kind bytes) (digest_at kind world_key bytes)).1 one }

signed_tail : (bytes : List ℕ) (p : Packet) (t : Tail) → p.tail ≡ t → IsTailAt bytes t → IsPacketAt bytes p → HasDigest world_key p → HasAccountDigest bytes
signed_tail bytes p Plain is tail at has =
    let carried = sym (ap sum_of is) ∙ has.carried in
    absurd (let no : ⊥ = cc in no)
signed_tail bytes p (Short68 key_id sum) is tail at has = signed_by bytes p Short at tail.0 has
signed_tail bytes p (Ext120 rid reserved flags hints hash sum) is tail at has = signed_by bytes p Extended at tail.size has

pub signed : (bytes : List ℕ) (p : Packet) → IsPacketAt bytes p → HasDigest world_key p → HasAccountDigest bytes
signed bytes p at has = signed_tail bytes p p.tail refl at.tail at has

pub has_digest_of : (bytes : List ℕ) (p : Packet) → IsPacketAt bytes p → HasAccountDigest bytes → HasDigest world_key p
has_digest_of bytes p at signed =
    let checksum = at.checksum signed.kind signed.size in
    let same = (bytes_eq-Decides (sum_at signed.kind bytes) (digest_at signed.kind world_key bytes)).0 signed.digest in
    record { sum = sum_at signed.kind bytes; carried = checksum.carried; is_digest = checksum.due world_key ∙ ap Some (sym same) }
