-- What a clock tells over several calls.
use Rattle.std.proofs.Common.{◌≡◌, ℤ, List, [], ◌∷◌, ◌++◌, map, Option, refl, sym, ap, subst}
use Rattle.std.proofs.lemmas.Grind.{flat_map-append}
use Rattle.std.proofs.lemmas.List.{map-append}
use Rattle.base_specs.specs.Told.{Grew}
use Rattle.base_specs.proofs.Telling.{grew_more, grew_none}
use Rattle.edge_traits.specs.declared.clock.Move.{Move}
use Rattle.edge_traits.specs.Clock.{ClockCall, Correct, GaveReadings, Read, corrections_by, moves_among, readings_among, readings_by}

-- no reading was given
pub gave_none : (told : Option (List ClockCall)) → GaveReadings told told []
gave_none told = grew_none told

-- readings that were given one after the other
pub gave_more : (old mid new : Option (List ClockCall)) (xs ys : List ℤ) → GaveReadings old mid xs → GaveReadings mid new ys → GaveReadings old new (xs ++ ys)
gave_more old mid new xs ys first next =
    subst (λ (calls : List ClockCall). Grew old new calls) (sym (map-append Read xs ys)) (grew_more old mid new (map Read xs) (map Read ys) first next)

-- the readings given in one part of a run, and those in the next
pub readings_among-append : (xs ys : List ClockCall) → readings_among (xs ++ ys) ≡ readings_among xs ++ readings_among ys
readings_among-append xs ys = flat_map-append readings_by xs ys

-- and so with the corrections
pub moves_among-append : (xs ys : List ClockCall) → moves_among (xs ++ ys) ≡ moves_among xs ++ moves_among ys
moves_among-append xs ys = flat_map-append corrections_by xs ys

-- calls that are readings alone
pub readings_among-readings : (given : List ℤ) → readings_among (map Read given) ≡ given
readings_among-readings [] = refl
readings_among-readings (t ∷ given) = ap (λ (l : List ℤ). t ∷ l) (readings_among-readings given)

pub moves_among-readings : (given : List ℤ) → moves_among (map Read given) ≡ []
moves_among-readings [] = refl
moves_among-readings (t ∷ given) = moves_among-readings given

-- calls that are corrections alone
pub readings_among-moves : (made : List Move) → readings_among (map Correct made) ≡ []
readings_among-moves [] = refl
readings_among-moves (m ∷ made) = readings_among-moves made

pub moves_among-moves : (made : List Move) → moves_among (map Correct made) ≡ made
moves_among-moves [] = refl
moves_among-moves (m ∷ made) = ap (λ (l : List Move). m ∷ l) (moves_among-moves made)
