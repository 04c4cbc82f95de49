-- What several calls do to a count of faults.
use Rattle.std.proofs.Common.{◌≡◌, ℕ, zero, suc, ◌+◌, ◌<◌, refl, subst, sym, arith}
use Rattle.base_specs.specs.Counts.{Rose, Fails, FailsTimes}

pub fails_none : (count : ℕ) → FailsTimes 0 count count
fails_none count = record { later = omega arith; none = λ is. refl; some = λ more. omega arith }

pub fails_once : (before now : ℕ) → Fails before now → FailsTimes 1 before now
fails_once before now fails = record { later = fails.later; none = λ is. omega arith; some = λ more. fails.once }

pub once_fails : (before now : ℕ) → FailsTimes 1 before now → Fails before now
once_fails before now fails = record { later = fails.later; once = fails.some (omega arith) }

-- the calls that failed in one part of a run, and those in the next
pub fails_more : (m n before mid now : ℕ) → FailsTimes m before mid → FailsTimes n mid now → FailsTimes (m + n) before now
fails_more zero n before mid now first next = record {
  later = omega (arith, first.none refl, next.later);
  none = λ is. omega (arith, first.none refl, next.none (omega arith));
  some = λ more. omega (arith, first.none refl, next.some (omega arith));
}
fails_more (suc m) zero before mid now first next = record {
  later = omega (arith, first.later, next.later);
  none = λ is. omega (arith, is);
  some = λ more. omega (arith, next.none refl, first.some (omega arith));
}
fails_more (suc m) (suc n) before mid now first next = record {
  later = omega (arith, first.later, next.later);
  none = λ is. omega (arith, is);
  some = λ more. omega (arith, first.some (omega arith), next.some (omega arith));
}

-- and one call more
pub fails_again : (n before mid now : ℕ) → FailsTimes n before mid → Fails mid now → FailsTimes (n + 1) before now
fails_again n before mid now first next = fails_more n 1 before mid now first (fails_once mid now next)

-- and one call that didn't fail
pub fails_still : (n before mid now : ℕ) → FailsTimes n before mid → now ≡ mid → FailsTimes n before now
fails_still n before mid now first same = subst (λ (count : ℕ). FailsTimes n before count) (sym same) first

-- a count rose where a call failed, and nowhere else
pub fails_rose : (n before now : ℕ) → 0 < n → FailsTimes n before now → Rose before now
fails_rose n before now some fails = omega (arith, fails.some, some)
