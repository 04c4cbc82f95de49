-- What a controller answers to a request: the first refusal that applies, or the one reply.
use Rattle.std.specs.Prelude.{◌≡◌, ◌==◌, ◌||◌, ◌&&◌, ◌%◌, ◌⊎◌, nat_lt, not, false, ℕ, ℤ, List, [], ◌∷◌, ◌++◌, length, if◌then◌else◌, Bool, Option, Some, None, is_none}
use Rattle.byte_codec.specs.Numbers.{low_word_bytes}
use Rattle.mac_kdf.specs.Digests.{ext_digest, md5_digest}
use Rattle.ntp_wire.specs.declared.header.Header.{Header}
use Rattle.ntp_wire.specs.Fields.{version_of, mode_of, poll_of, transmit_of}
use Rattle.ntp_wire.specs.Header.{HeaderFits, header_bytes}
use Rattle.ntp_wire.specs.Stamp.{IsStampOf}
use Rattle.ms_auth.specs.declared.packet.Kind.{Kind}
use Rattle.ms_auth.specs.declared.packet.Kind.TheVariants.{Short, Extended}
use Rattle.ms_auth.specs.Fields.{key_id_of, flags_of, kind_length, rid_at, old_at}
use Rattle.key_book.specs.declared.account.Account.{Account}
use Rattle.key_book.specs.AccountBook.{account_of, key_of}
use Rattle.dc_sign.specs.declared.info.ServerInfo.{ServerInfo}
use Rattle.dc_sign.specs.declared.keys.Asked.{Asked}
use Rattle.dc_sign.specs.declared.outcome.Answer.{Answer}
use Rattle.dc_sign.specs.declared.outcome.Answer.TheVariants.{Signed, Plain, Refused}
use Rattle.dc_sign.specs.declared.outcome.Refusal.{Refusal}
use Rattle.dc_sign.specs.declared.outcome.Refusal.TheVariants.{BadLength, BadVersion, BadMode, UnknownAccount, NoOldKey}
use Rattle.dc_sign.specs.Asked.{asked_at}

-- ---- Refusals

-- the length is not that of a message
abbrev pub is_bad_length : List ℕ → Bool
is_bad_length bytes = not (length bytes == 48) && not (length bytes == 68) && not (length bytes == 120)

-- the version is not 1 to 4
abbrev pub is_bad_version : ℕ → Bool
is_bad_version version = nat_lt version 1 || nat_lt 4 version

-- the mode is neither 1 nor 3
abbrev pub is_bad_request_mode : ℕ → Bool
is_bad_request_mode mode = not (mode == 1) && not (mode == 3)

-- a key is asked for, and no account has the RID
abbrev pub is_unknown : List Account → Option Asked → Bool
is_unknown accounts None = false
is_unknown accounts (Some asked) = is_none (account_of accounts asked.rid)

-- a key is asked for, and the account with the RID has no such key
abbrev pub lacks_key : List Account → Option Asked → Bool
lacks_key accounts None = false
lacks_key accounts (Some asked) = is_none (key_of accounts asked.rid asked.old)

-- the first refusal that applies to a version, a mode, and the key that is asked for
abbrev pub first_refusal : List Account → ℕ → ℕ → Option Asked → Option Refusal
first_refusal accounts version mode asked =
    if is_bad_version version then Some BadVersion
    else if is_bad_request_mode mode then Some BadMode
    else if is_unknown accounts asked then Some UnknownAccount
    else if lacks_key accounts asked then Some NoOldKey
    else None

-- why a request is refused, if it is: the first refusal that applies to its bytes
unfoldable pub refusal_of : List Account → List ℕ → Option Refusal
refusal_of accounts bytes =
    if is_bad_length bytes then Some BadLength
    else first_refusal accounts (version_of bytes) (mode_of bytes) (asked_at bytes)

-- ---- Replies

-- the mode of a reply: 4 to a client's 3, and 2 to 1
abbrev pub reply_mode : ℕ → ℕ
reply_mode mode = if mode == 3 then 4 else 2

-- the header of a reply to a request, from this information and two readings
pub record IsReplyHeader (info : ServerInfo) (bytes : List ℕ) (t2 t3 : ℤ) (reply : Header) : Type 0 where
  pub leap : reply.leap ≡ info.leap
  pub version : reply.version ≡ version_of bytes
  pub mode : reply.mode ≡ reply_mode (mode_of bytes)
  pub stratum : reply.stratum ≡ info.stratum
  pub poll : reply.poll ≡ poll_of bytes
  pub precision : reply.precision ≡ info.precision
  pub root_delay : reply.root_delay ≡ info.root_delay
  pub root_dispersion : reply.root_dispersion ≡ info.root_dispersion
  pub reference_id : reply.reference_id ≡ info.reference_id
  pub reference : reply.reference ≡ info.reference
  pub originate : reply.originate ≡ transmit_of bytes
  pub receive : IsStampOf t2 reply.receive
  pub transmit : IsStampOf t3 reply.transmit

-- What stands between the header and the checksum of a reply: the key identifier of the request, and in an extended
-- one Reserved 0, of the request's Flags bit 0 alone, the hint 1 and the SignatureHashID 1.
abbrev pub reply_fields : Kind → List ℕ → List ℕ
reply_fields Short bytes = low_word_bytes (key_id_of bytes)
reply_fields Extended bytes = low_word_bytes (key_id_of bytes) ++ 0 ∷ flags_of bytes % 2 ∷ 1 ∷ 1 ∷ []

-- the checksum of a reply with this header under a key
abbrev pub reply_digest : Kind → List ℕ → List ℕ → List ℕ → List ℕ
reply_digest Short key bytes header = md5_digest key header
reply_digest Extended key bytes header = ext_digest key (rid_at Extended bytes) header

-- a request that is a header alone is answered by a header alone
pub record IsPlainReply (bytes header out : List ℕ) : Type 0 where
  pub size : length bytes ≡ 48
  pub written : out ≡ header

-- a request of one of the kinds is answered in its kind, under the key that it asks for
pub record IsSignedReply (accounts : List Account) (bytes header out : List ℕ) : Type 0 where
  pub kind : Kind
  pub size : length bytes ≡ kind_length kind
  pub key : List ℕ
  pub asked : key_of accounts (rid_at kind bytes) (old_at kind bytes) ≡ Some key
  pub written : out ≡ header ++ (reply_fields kind bytes ++ reply_digest kind key bytes header)

-- the bytes of a reply to the bytes of a request
pub record IsReplyOf (accounts : List Account) (info : ServerInfo) (bytes : List ℕ) (t2 t3 : ℤ) (out : List ℕ) : Type 0 where
  pub header : Header
  pub fits : HeaderFits header
  pub answers : IsReplyHeader info bytes t2 t3 header
  pub written : IsPlainReply bytes (header_bytes header) out ⊎ IsSignedReply accounts bytes (header_bytes header) out

-- what each answer to a request says
abbrev pub Answers : List Account → ServerInfo → List ℕ → ℤ → ℤ → Answer → Type 0
Answers accounts info bytes t2 t3 (Signed reply) =
    (refusal_of accounts bytes ≡ None) × ((length bytes ≡ 68) ⊎ (length bytes ≡ 120)) × IsReplyOf accounts info bytes t2 t3 reply
Answers accounts info bytes t2 t3 (Plain reply) =
    (refusal_of accounts bytes ≡ None) × (length bytes ≡ 48) × IsReplyOf accounts info bytes t2 t3 reply
Answers accounts info bytes t2 t3 (Refused reason) = refusal_of accounts bytes ≡ Some reason
