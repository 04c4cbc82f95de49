-- The requests that can be answered, in the order of their counts.
use Rattle.std.specs.Prelude.{◌≡◌, ◌≢◌, ℕ, ◌<◌, List, length, slice_index_or, Option, Some, None, pos}
use Rattle.time_machine.specs.declared.outcome.Request.{Request}

-- the request at a place, and this one where the list has none there
abbrev pub request_in : List Request → ℕ → Request
request_in list place = slice_index_or list place (record { count = 0; word = 0; at = pos 0 })

-- each count is greater than those before it
abbrev pub IsRising : List Request → Type 0
IsRising list = (i j : ℕ) → i < j → j < length list → (request_in list i).count < (request_in list j).count

-- each count is below this one
abbrev pub AreBelow : ℕ → List Request → Type 0
AreBelow count list = (i : ℕ) → i < length list → (request_in list i).count < count

-- the place of the request with this count, where there is one
abbrev pub IsPlaceOf : ℕ → List Request → Option ℕ → Type 0
IsPlaceOf count list (Some place) = (place < length list) × ((request_in list place).count ≡ count)
IsPlaceOf count list None = (i : ℕ) → i < length list → (request_in list i).count ≢ count
