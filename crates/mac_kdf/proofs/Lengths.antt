-- How long a digest is, whatever it was made of.
use Rattle.std.proofs.Common.{◌≡◌, ℕ, List, ◌++◌, length, refl}
use Rattle.md5.specs.Md5.{md5}
use Rattle.md5.specs.Md5 as md5_words
use Rattle.sha2.specs.Sha512.{sha512, digest_bytes}
use Rattle.mac_kdf.specs.Digests.{ext_digest, ext_key, md5_digest}
use Rattle.mac_kdf.specs.Hmac.{block_key, hmac, masked}

length-sha512 : (m : List ℕ) → length (sha512 m) ≡ 64
unfolding sha512 digest_bytes
length-sha512 m = refl

length-hmac : (key text : List ℕ) → length (hmac key text) ≡ 64
unfolding hmac
length-hmac key text = length-sha512 (masked 0x5C (block_key key) ++ sha512 (masked 0x36 (block_key key) ++ text))

pub length-md5_digest : (key header : List ℕ) → length (md5_digest key header) ≡ 16
unfolding md5_digest md5 md5_words.digest_bytes
length-md5_digest key header = refl

pub length-ext_digest : (key : List ℕ) (rid : ℕ) (header : List ℕ) → length (ext_digest key rid header) ≡ 64
unfolding ext_digest
length-ext_digest key rid header = length-hmac (ext_key key rid) header
