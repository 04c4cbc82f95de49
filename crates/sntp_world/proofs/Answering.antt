-- A controller has an answer to each request whose timestamp fits.
use Rattle.std.proofs.Common.{◌≡◌, ◌⊎◌, ℕ, ◌+◌, ◌*◌, ◌/◌, ◌%◌, ◌^◌, ◌<◌, ◌≤◌, ◌==◌, ◌&&◌, Bool, true, false, not, List, [], ◌∷◌, ◌++◌, length, Option, Some, None, inl, inr, refl, subst, arith, ℤ, pos, negsuc, if◌then◌else◌, FitsSigned}
use Rattle.std.specs.Prelude.{is_none, codes}
use Rattle.std.specs.Int.{w8, cast_signed}
use Rattle.std.proofs.lemmas.Bool.Decides.{Decides-eqb, nat_tests}
use Rattle.std.proofs.lemmas.Int.{ints}
use Rattle.base_specs.specs.Time.{IsReading}
use Rattle.ntp_wire.specs.declared.header.Header.{Header}
use Rattle.ntp_wire.specs.declared.stamp.Stamp.{Stamp}
use Rattle.ntp_wire.specs.Fields.{mode_of, poll_of, transmit_of, version_of}
use Rattle.ntp_wire.specs.Header.{HeaderFits, header_bytes}
use Rattle.ntp_wire.specs.Stamp.{IsStampOf, StampFits}
use Rattle.ntp_wire.proofs.Moments.{stamp_made}
use Rattle.ms_auth.specs.declared.packet.Kind.{Kind}
use Rattle.ms_auth.specs.declared.packet.Kind.TheVariants.{Short, Extended}
use Rattle.ms_auth.specs.Fields.{kind_length, old_at, rid_at}
use Rattle.key_book.specs.declared.account.Account.{Account}
use Rattle.key_book.specs.AccountBook.{key_of}
use Rattle.dc_sign.specs.declared.info.ServerInfo.{ServerInfo}
use Rattle.dc_sign.specs.declared.outcome.Answer.{Answer}
use Rattle.dc_sign.specs.declared.outcome.Answer.TheVariants as answer
use Rattle.dc_sign.specs.declared.outcome.Refusal.{Refusal}
use Rattle.dc_sign.specs.declared.outcome.Refusal.TheVariants.{BadLength, BadVersion, BadMode, UnknownAccount, NoOldKey}
use Rattle.dc_sign.specs.Asked.{asked_at}
use Rattle.dc_sign.specs.Info.{IsLocalInfo}
use Rattle.dc_sign.specs.Reply.{Answers, IsReplyHeader, first_refusal, is_bad_length, is_bad_request_mode, is_bad_version, is_unknown, lacks_key, refusal_of, reply_digest, reply_fields, reply_mode}
use Rattle.sntp_world.specs.Setting.{world_account}

-- ---- The timestamp of a reading

least_fraction : (rest f : ℕ) → rest * 2 ^ 32 ≤ f * 10000000 → (rest * 2 ^ 32 + 9999999) / 10000000 ≤ f
least_fraction rest f h = omega arith

enough_fraction : (rest : ℕ) → rest * 2 ^ 32 ≤ (rest * 2 ^ 32 + 9999999) / 10000000 * 10000000
enough_fraction rest = omega arith

fraction_below : (n : ℕ) → (n % 10000000 * 2 ^ 32 + 9999999) / 10000000 < 2 ^ 32
fraction_below n = omega arith

seconds_below : (n : ℕ) → (n / 10000000 + 3449417088) % 4294967296 < 2 ^ 32
seconds_below n = omega arith

-- a moment's timestamp
record IsStamped (t : ℤ) : Type 0 where
  stamp : Stamp
  is : IsStampOf t stamp
  fits : StampFits stamp

stamped : (t : ℤ) → IsReading t → IsStamped t
stamped (pos n) read = record {
  stamp = record { seconds = (n / 10000000 + 3449417088) % 4294967296; fraction = (n % 10000000 * 2 ^ 32 + 9999999) / 10000000 };
  is = (n, refl, stamp_made n _ (enough_fraction (n % 10000000)) (least_fraction (n % 10000000)));
  fits = record { seconds = seconds_below n; fraction = fraction_below n };
}
stamped (negsuc n) read = let low = read.0 in absurd (omega (arith, ints))

-- ---- The header of a reply

local_info : Stamp → ServerInfo
local_info s = record {
  leap = 0;
  stratum = 1;
  precision = negsuc 22;
  root_delay = pos 0;
  root_dispersion = 0;
  reference_id = codes "LOCL";
  reference = s;
  leap_fits = omega arith;
}

mode_low : (mode : ℕ) → reply_mode mode ≤ 7
mode_low mode = low (mode == 3)
  where
    low : (b : Bool) → (if b then 4 else 2) ≤ 7
    low true = omega arith
    low false = omega arith

reply_header : List ℕ → Stamp → Header
reply_header bytes s = record {
  leap = 0;
  version = version_of bytes;
  mode = reply_mode (mode_of bytes);
  stratum = 1;
  poll = poll_of bytes;
  precision = negsuc 22;
  root_delay = pos 0;
  root_dispersion = 0;
  reference_id = codes "LOCL";
  reference = s;
  originate = transmit_of bytes;
  receive = s;
  transmit = s;
  leap_fits = omega arith;
  version_fits = omega arith;
  mode_fits = mode_low (mode_of bytes);
}

cast_fits : (n : ℕ) → FitsSigned w8 (cast_signed w8 n)
cast_fits n = record { sfits = grind (arith, ints, nat_tests) }

header_fits : (bytes : List ℕ) (s : Stamp) → StampFits (transmit_of bytes) → StampFits s → HeaderFits (reply_header bytes s)
unfolding reply_header
header_fits bytes s asked fits = record {
  stratum = omega arith;
  poll = cast_fits _;
  precision = record { sfits = omega arith };
  root_delay = record { sfits = omega arith };
  root_dispersion = omega arith;
  reference_id = refl;
  reference = fits;
  originate = asked;
  receive = fits;
  transmit = fits;
}

header_answers : (bytes : List ℕ) (t : ℤ) (s : Stamp) → IsStampOf t s → IsReplyHeader (local_info s) bytes t t (reply_header bytes s)
unfolding reply_header local_info
header_answers bytes t s is = record {
  leap = refl;
  version = refl;
  mode = refl;
  stratum = refl;
  poll = refl;
  precision = refl;
  root_delay = refl;
  root_dispersion = refl;
  reference_id = refl;
  reference = refl;
  originate = refl;
  receive = is;
  transmit = is;
}

-- ---- A request that isn't refused

not_refused : (b : Bool) (reason : Refusal) (y : Option Refusal) → (if b then Some reason else y) ≡ None → (b ≡ false) × (y ≡ None)
not_refused true reason y e = absurd (let no : ⊥ = cc in no)
not_refused false reason y e = (refl, e)

-- its length is one of three
one_of : (a b c : Bool) → (not a && not b && not c) ≡ false → (a ≡ true) ⊎ ((b ≡ true) ⊎ (c ≡ true))
one_of true b c e = inl refl
one_of false true c e = inr (inl refl)
one_of false false true e = inr (inr refl)
one_of false false false e = absurd (let no : ⊥ = cc in no)

lengths : (n : ℕ) → (not (n == 48) && not (n == 68) && not (n == 120)) ≡ false → (n ≡ 48) ⊎ ((n ≡ 68) ⊎ (n ≡ 120))
lengths n e = elim (one_of (n == 48) (n == 68) (n == 120) e) [
  | inl h ↦ inl ((Decides-eqb n 48).0 h)
  | inr h ↦ elim h [
    | inl k ↦ inr (inl ((Decides-eqb n 68).0 k))
    | inr k ↦ inr (inr ((Decides-eqb n 120).0 k))
  ]
]

-- the key that it asks for is there
key_there : (o : Option (List ℕ)) → is_none o ≡ false → (key : List ℕ) × (o ≡ Some key)
key_there (Some key) e = (key, refl)
key_there None e = absurd (let no : ⊥ = cc in no)

no_key_lacks : (accounts : List Account) (version mode rid : ℕ) (old : Bool) → first_refusal accounts version mode (Some (record { rid = rid; old = old })) ≡ None
    → (key : List ℕ) × (key_of accounts rid old ≡ Some key)
no_key_lacks accounts version mode rid old e =
    let version_good = not_refused (is_bad_version version) BadVersion _ e in
    let mode_good = not_refused (is_bad_request_mode mode) BadMode _ version_good.1 in
    let known = not_refused (is_unknown accounts (Some (record { rid = rid; old = old }))) UnknownAccount _ mode_good.1 in
    let key = not_refused (lacks_key accounts (Some (record { rid = rid; old = old }))) NoOldKey _ known.1 in
    key_there (key_of accounts rid old) key.0

asked_by : (kind : Kind) (bytes : List ℕ) → length bytes ≡ kind_length kind → asked_at bytes ≡ Some (record { rid = rid_at kind bytes; old = old_at kind bytes })
asked_by Short bytes size = rw size refl
asked_by Extended bytes size = rw size refl

parted : (accounts : List Account) (bytes : List ℕ) → refusal_of accounts bytes ≡ None
    → (is_bad_length bytes ≡ false) × (first_refusal accounts (version_of bytes) (mode_of bytes) (asked_at bytes) ≡ None)
unfolding refusal_of
parted accounts bytes e = not_refused (is_bad_length bytes) BadLength _ e

key_asked : (accounts : List Account) (kind : Kind) (bytes : List ℕ) → length bytes ≡ kind_length kind → refusal_of accounts bytes ≡ None
    → (key : List ℕ) × (key_of accounts (rid_at kind bytes) (old_at kind bytes) ≡ Some key)
key_asked accounts kind bytes size e =
    no_key_lacks accounts (version_of bytes) (mode_of bytes) (rid_at kind bytes) (old_at kind bytes)
    (subst (λ o. first_refusal accounts (version_of bytes) (mode_of bytes) o ≡ None) (asked_by kind bytes size) (parted accounts bytes e).1)

-- ---- The answer

-- the answer of a controller that keeps the time by its own clock
pub record HasAnswer (bytes : List ℕ) (t : ℤ) : Type 0 where
  pub info : ServerInfo
  pub local : IsLocalInfo t info
  pub answer : Answer
  pub answers : Answers (world_account ∷ []) info bytes t t answer

is_local : (t : ℤ) (s : Stamp) → IsStampOf t s → IsLocalInfo t (local_info s)
unfolding local_info
is_local t s is = record {
  leap = refl;
  stratum = refl;
  precision = refl;
  root_delay = refl;
  root_dispersion = refl;
  reference_id = refl;
  reference = is;
}

signed : (bytes : List ℕ) (t : ℤ) (kind : Kind) → IsStamped t → StampFits (transmit_of bytes) → length bytes ≡ kind_length kind → ((length bytes ≡ 68) ⊎ (length bytes ≡ 120))
    → refusal_of (world_account ∷ []) bytes ≡ None → HasAnswer bytes t
signed bytes t kind at asked size long none =
    let s = at.stamp in
    let h = reply_header bytes s in
    let key = key_asked (world_account ∷ []) kind bytes size none in
    record {
      info = local_info s;
      local = is_local t s at.is;
      answer = answer.Signed (header_bytes h ++ (reply_fields kind bytes ++ reply_digest kind key.0 bytes (header_bytes h)));
      answers = (
        none,
        long,
        record {
          header = h;
          fits = header_fits bytes s asked at.fits;
          answers = header_answers bytes t s at.is;
          written = inr (record { kind = kind; size = size; key = key.0; asked = key.1; written = refl });
        },
      );
    }

plain : (bytes : List ℕ) (t : ℤ) → IsStamped t → StampFits (transmit_of bytes) → length bytes ≡ 48 → refusal_of (world_account ∷ []) bytes ≡ None → HasAnswer bytes t
plain bytes t at asked size none =
    let s = at.stamp in
    let h = reply_header bytes s in
    record {
      info = local_info s;
      local = is_local t s at.is;
      answer = answer.Plain (header_bytes h);
      answers = (
        none,
        size,
        record {
          header = h;
          fits = header_fits bytes s asked at.fits;
          answers = header_answers bytes t s at.is;
          written = inl (record { size = size; written = refl });
        },
      );
    }

answered : (bytes : List ℕ) (t : ℤ) (o : Option Refusal) → IsStamped t → StampFits (transmit_of bytes) → refusal_of (world_account ∷ []) bytes ≡ o → HasAnswer bytes t
answered bytes t (Some reason) at asked is = record { info = local_info at.stamp; local = is_local t at.stamp at.is; answer = answer.Refused reason; answers = is }
answered bytes t None at asked is =
    elim (lengths (length bytes) (parted (world_account ∷ []) bytes is).0) [
      | inl size ↦ plain bytes t at asked size is
      | inr h ↦ elim h [
        | inl size ↦ signed bytes t Short at asked size (inl size) is
        | inr size ↦ signed bytes t Extended at asked size (inr size) is
      ]
    ]

-- a request whose timestamp fits has an answer
pub has_answer : (bytes : List ℕ) (t : ℤ) → IsReading t → StampFits (transmit_of bytes) → HasAnswer bytes t
has_answer bytes t read asked = answered bytes t (refusal_of (world_account ∷ []) bytes) (stamped t read) asked refl
