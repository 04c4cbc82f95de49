-- What an HMAC in the making stands for.
use Rattle.std.specs.Prelude.{ℕ, List, ◌++◌}
use Rattle.sha2.specs.Hashers.{Holds512}
use Rattle.mac_kdf.specs.Hmac.{block_key, masked}
use Rattle.mac_kdf.specs.declared.hmac.Hmac.{Hmac}

-- It was begun with this key, and has taken this text.
unfoldable pub HasTaken : Hmac → List ℕ → List ℕ → Type 0
HasTaken mac key text =
    Holds512 mac.inner (masked 0x36 (block_key key) ++ text)
    × Holds512 mac.outer (masked 0x5C (block_key key))
