-- HMAC with SHA-512 (RFC 2104, section 2).
use Rattle.std.specs.Prelude.{ℕ, ◌-◌, List, ◌++◌, length, map, replicate, bit_xor, nat_lt, if◌then◌else◌}
use Rattle.sha2.specs.Sha512.{sha512}

-- the bytes, and zero bytes after them to a block of 128
abbrev pub filled : List ℕ → List ℕ
filled bytes = bytes ++ replicate (128 - length bytes) 0

-- A key as a block: the key itself, or its digest where it is longer than a block.
unfoldable pub block_key : List ℕ → List ℕ
block_key key = filled (if nat_lt 128 (length key) then sha512 key else key)

-- each byte xor the mask
unfoldable pub masked : ℕ → List ℕ → List ℕ
masked mask bytes = map (λ byte. bit_xor byte mask) bytes

-- the key and the text are hashed under the inner mask, and their digest with the key under the outer one
unfoldable pub hmac : List ℕ → List ℕ → List ℕ
hmac key text = sha512 (masked 0x5C (block_key key) ++ sha512 (masked 0x36 (block_key key) ++ text))
