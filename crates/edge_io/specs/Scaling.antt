-- Steps towards the double of a sample.
use Rattle.std.specs.Prelude.{◌≡◌, ◌≤◌, ◌<◌, ℕ, ◌+◌, ◌*◌, ◌^◌}
use Rattle.base_specs.specs.Time.{second}

-- The ticks times 2^places are seconds of 53 bits. They are a multiple of 4096, and so never half a second and whole ones.
pub record IsScaled (ticks scaled places : ℕ) : Type 0 where
  pub is : scaled ≡ ticks * 2 ^ places
  pub least : 2 ^ 52 * second ≤ scaled
  pub most : scaled < 2 ^ 53 * second
  pub even : (part : ℕ) × (scaled ≡ 4096 * part)
  pub some : 1 ≤ places
  pub few : places ≤ 76

-- the whole seconds nearest to scaled ticks, the later ones halfway
pub record IsRounded (scaled seconds : ℕ) : Type 0 where
  pub low : seconds * second ≤ scaled + 5000000
  pub high : scaled < seconds * second + 5000000
