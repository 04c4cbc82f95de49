-- The derivation of keys, and the digests of signed messages.
use Rattle.std.specs.Prelude.{ℕ, List, [], ◌∷◌, ◌++◌, codes}
use Rattle.std.specs.Int.{w32, to_be_bytes, to_le_bytes}
use Rattle.md5.specs.Md5.{md5}
use Rattle.mac_kdf.specs.Hmac.{hmac}

-- One round of counter mode (SP 800-108): the counter 1, the label, a zero byte, the context, and the
-- length of 512 bits.
unfoldable pub kdf : List ℕ → List ℕ → List ℕ → List ℕ
kdf key label context =
    hmac key (to_be_bytes w32 1 ++ label ++ (0 ∷ []) ++ context ++ to_be_bytes w32 512)

-- MD5 of the key and the header
unfoldable pub md5_digest : List ℕ → List ℕ → List ℕ
md5_digest key header = md5 (key ++ header)

-- the key that is derived from an account's key for its relative identifier, least significant byte first
unfoldable pub ext_key : List ℕ → ℕ → List ℕ
ext_key key rid = kdf key (codes "sntp-ms") (to_le_bytes w32 rid)

-- HMAC of the header, under that key
unfoldable pub ext_digest : List ℕ → ℕ → List ℕ → List ℕ
ext_digest key rid header = hmac (ext_key key rid) header
