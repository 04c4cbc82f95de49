-- What each answer of a run says of the counts of its devices.
use Rattle.std.proofs.Common.{◌≡◌, ◌⊎◌, inl, inr, ◌≤◌, ℕ, refl, sym, subst, arith}
use Rattle.base_specs.specs.Counts.{Fails, Rose}
use Rattle.run_deeds.specs.declared.life_end.Why.{Why}
use Rattle.run_deeds.specs.declared.life_end.Why.TheVariants.{Done, DiskFault, BadVersion, StampsSpent, ClockFault, EntropyFault, SinkFault}
use Rattle.run_deeds.specs.Weaving.{Need}
use Rattle.run_deeds.specs.Deeds.{Ending, Whole, NoRecord, NoLine}
use Rattle.run_deeds.specs.Devices.{ClockFailed, DiskFailed, EntropyFailed, Faults, LifeEndsBy, NoneRose, SinkFailed}

-- no count falls
pub record NoneFell (before now : Faults) : Type 0 where
  pub clock : before.clock ≤ now.clock
  pub entropy : before.entropy ≤ now.entropy
  pub disk : before.disk ≤ now.disk
  pub capture : before.capture ≤ now.capture
  pub out : before.out ≤ now.out

same_counts : (before now : Faults) → now ≡ before → NoneFell before now
same_counts before now is =
    let P : Faults → Type 0 = λ (f : Faults). NoneFell before f in
    subst P (sym is) (record { clock = omega arith; entropy = omega arith; disk = omega arith; capture = omega arith; out = omega arith })

clock_fell : (before now : Faults) → ClockFailed before now → NoneFell before now
clock_fell before now (fails, is) =
    let later = fails.later in
    let P : Faults → Type 0 = λ (f : Faults). NoneFell before f in
    subst P (sym is) (record { clock = later; entropy = omega arith; disk = omega arith; capture = omega arith; out = omega arith })

entropy_fell : (before now : Faults) → EntropyFailed before now → NoneFell before now
entropy_fell before now (fails, is) =
    let later = fails.later in
    let P : Faults → Type 0 = λ (f : Faults). NoneFell before f in
    subst P (sym is) (record { clock = omega arith; entropy = later; disk = omega arith; capture = omega arith; out = omega arith })

disk_fell : (before now : Faults) → DiskFailed before now → NoneFell before now
disk_fell before now (fails, is) =
    let later = fails.later in
    let P : Faults → Type 0 = λ (f : Faults). NoneFell before f in
    subst P (sym is) (record { clock = omega arith; entropy = omega arith; disk = later; capture = omega arith; out = omega arith })

sink_fell : (ending : Ending) (before now : Faults) → SinkFailed ending before now → NoneFell before now
sink_fell Whole before now failed = absurd failed
sink_fell (NoRecord event front) before now (fails, is) =
    let later = fails.later in
    let P : Faults → Type 0 = λ (f : Faults). NoneFell before f in
    subst P (sym is) (record { clock = omega arith; entropy = omega arith; disk = omega arith; capture = later; out = omega arith })
sink_fell (NoLine deed front) before now (fails, is) =
    let later = fails.later in
    let P : Faults → Type 0 = λ (f : Faults). NoneFell before f in
    subst P (sym is) (record { clock = omega arith; entropy = omega arith; disk = omega arith; capture = omega arith; out = later })

pub none_fell : (why : Why) (ending : Ending) (need : Need) (before now : Faults) → LifeEndsBy why ending need before now → NoneFell before now
none_fell Done ending need before now ends = same_counts before now ends.1
none_fell DiskFault ending need before now (whole, needs, failed) = disk_fell before now failed
none_fell BadVersion ending need before now (whole, needs, is) = same_counts before now is
none_fell StampsSpent ending need before now (whole, needs, is) = same_counts before now is
none_fell ClockFault ending need before now (whole, needs, failed) = clock_fell before now failed
none_fell EntropyFault ending need before now (whole, needs, failed) = entropy_fell before now failed
none_fell SinkFault ending need before now (stops, failed) = sink_fell ending before now failed

rises : (before now : ℕ) → Fails before now → Rose before now
rises before now fails = let once = fails.once in omega (arith, once)

sink_rises : (ending : Ending) (before now : Faults) → SinkFailed ending before now → NoneRose before now → ⊥
sink_rises Whole before now failed kept = failed
sink_rises (NoRecord event front) before now (fails, is) kept = kept.capture (rises before.capture now.capture fails)
sink_rises (NoLine deed front) before now (fails, is) kept = kept.out (rises before.out now.out fails)

-- where no count rose, no device is blamed
pub none_blamed : (why : Why) (ending : Ending) (need : Need) (before now : Faults) → LifeEndsBy why ending need before now → NoneRose before now
    → (why ≡ Done) ⊎ (why ≡ BadVersion) ⊎ (why ≡ StampsSpent)
none_blamed Done ending need before now ends kept = inl refl
none_blamed DiskFault ending need before now (whole, needs, failed) kept = absurd (kept.disk (rises before.disk now.disk failed.0))
none_blamed BadVersion ending need before now ends kept = inr (inl refl)
none_blamed StampsSpent ending need before now ends kept = inr (inr refl)
none_blamed ClockFault ending need before now (whole, needs, failed) kept = absurd (kept.clock (rises before.clock now.clock failed.0))
none_blamed EntropyFault ending need before now (whole, needs, failed) kept = absurd (kept.entropy (rises before.entropy now.entropy failed.0))
none_blamed SinkFault ending need before now (stops, failed) kept = absurd (sink_rises ending before now failed kept)
