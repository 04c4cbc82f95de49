-- The lines of the commands that call a service.
use Rattle.std.specs.Prelude.{◌==◌, cond, ℕ, List, [], ◌∷◌, ◌++◌, codes, decimal}
use Rattle.hex.specs.Hex.{encode_lower}
use Rattle.byte_codec.specs.Numbers.{word_bytes}

-- `/resync`, by the result of the call
abbrev pub resync_line : ℕ → List ℕ
resync_line result =
    cond (result == 0) (codes "The command completed successfully." ++ 10 ∷ [])
    (cond (result == 1) (codes "The computer did not resync because no time data was available." ++ 10 ∷ [])
    (cond (result == 3) (codes "The computer did not resync because the required time change was too big." ++ 10 ∷ [])
    (codes "The computer did not resync. Result " ++ decimal result ++ codes "." ++ 10 ∷ [])))

-- `/query /bits`: eight lower-case hexadecimal digits
unfoldable pub bits_line : ℕ → List ℕ
bits_line bits = codes "bits=0x" ++ encode_lower (word_bytes bits) ++ 10 ∷ []

-- `/query /source`: the name
abbrev pub source_line : List ℕ → List ℕ
source_line name = name ++ 10 ∷ []
