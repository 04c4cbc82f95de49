-- The operations of a script fit their types.
use Rattle.std.proofs.Common.{◌≡◌, ℕ, ◌+◌, ◌*◌, ◌%◌, ◌^◌, ◌<◌, ◌≤◌, zero, suc, Bool, true, false, ◌∷◌, length, refl, arith, ap, if◌then◌else◌}
use Rattle.std.specs.Prelude.{nat_lt, ◌==◌}
use Rattle.std.specs.List.{AllByRecursion}
use Rattle.sntp_world.specs.declared.op.Op.{Op}
use Rattle.sntp_world.specs.declared.op.Op.TheVariants.{Pass, Poll, Deliver, Ask, Craft, Restart}
use Rattle.sntp_world.specs.Draws.{bytes_drawn, draw, draws_at, op_at, ops_from, script_of, small}
use Rattle.sntp_world.specs.Running.{OpFits}
use Rattle.sntp_world.proofs.Drawn.{length-bytes_drawn}

-- a draw is below 65,536
draw_below : (seed n : ℕ) → draw seed (n + 1) < 65536
draw_below seed n =
    let e : n + 1 ≡ suc n = omega arith in rw e (omega arith)

poll_fits : (high low : ℕ) → high < 65536 → low < 65536 → high * 65536 + low < 2 ^ 32
poll_fits high low h l = omega arith

drawn_below : (seed n count : ℕ) → AllByRecursion (λ (b : ℕ). b < 256) (bytes_drawn seed n count)
unfolding bytes_drawn
drawn_below seed n zero = tt
drawn_below seed n (suc count) = (omega arith, drawn_below seed (n + 1) count)

ask_fits : (seed n : ℕ) → OpFits (Ask (0x1B ∷ bytes_drawn seed n 67))
ask_fits seed n = (let len = length-bytes_drawn seed n 67 in omega arith, (omega arith, drawn_below seed n 67))

craft_fits : (seed n : ℕ) → length (bytes_drawn seed n 68) ≤ 256
craft_fits seed n = let len = length-bytes_drawn seed n 68 in omega arith

-- whichever is picked, it fits
picked : (a b c d e : Bool) (x₁ x₂ x₃ x₄ x₅ x₆ : Op) → OpFits x₁ → OpFits x₂ → OpFits x₃ → OpFits x₄ → OpFits x₅ → OpFits x₆
    → OpFits (if a then x₁ else (if b then x₂ else (if c then x₃ else (if d then x₄ else (if e then x₅ else x₆)))))
picked true b c d e x₁ x₂ x₃ x₄ x₅ x₆ p₁ p₂ p₃ p₄ p₅ p₆ = p₁
picked false true c d e x₁ x₂ x₃ x₄ x₅ x₆ p₁ p₂ p₃ p₄ p₅ p₆ = p₂
picked false false true d e x₁ x₂ x₃ x₄ x₅ x₆ p₁ p₂ p₃ p₄ p₅ p₆ = p₃
picked false false false true e x₁ x₂ x₃ x₄ x₅ x₆ p₁ p₂ p₃ p₄ p₅ p₆ = p₄
picked false false false false true x₁ x₂ x₃ x₄ x₅ x₆ p₁ p₂ p₃ p₄ p₅ p₆ = p₅
picked false false false false false x₁ x₂ x₃ x₄ x₅ x₆ p₁ p₂ p₃ p₄ p₅ p₆ = p₆

op_fits : (seed n : ℕ) → OpFits (op_at seed n)
unfolding op_at
op_fits seed n =
    let high = draw_below seed n in
    let low : draw seed (n + 2) < 65536 = let e : n + 2 ≡ n + 1 + 1 = omega arith in rw e (draw_below seed (n + 1)) in
    picked (nat_lt (draw seed n % 16) 6) (nat_lt (draw seed n % 16) 9) (nat_lt (draw seed n % 16) 14) (draw seed n % 16 == 14) (draw seed (n + 1) % 8 == 0)
    (Pass (10000 * (1 + draw seed (n + 1))) (small (draw seed (n + 2))) (small (draw seed (n + 3))))
    (Poll (draw seed (n + 1) * 65536 + draw seed (n + 2)))
    (Deliver (draw seed (n + 1) % 8))
    (Craft (bytes_drawn seed (n + 1) 68))
    Restart
    (Ask (0x1B ∷ bytes_drawn seed (n + 1 + 1) 67))
    tt (poll_fits (draw seed (n + 1)) (draw seed (n + 2)) high low) tt (craft_fits seed (n + 1)) tt (ask_fits seed (n + 1 + 1))

ops_fit : (seed n count : ℕ) → AllByRecursion OpFits (ops_from seed n count)
ops_fit seed n zero = tt
ops_fit seed n (suc count) = (op_fits seed n, ops_fit seed (n + draws_at seed n) count)

pub script_fits : (seed count : ℕ) → AllByRecursion OpFits (script_of seed count)
script_fits seed count = ops_fit seed 1 count

ops_length : (seed n count : ℕ) → length (ops_from seed n count) ≡ count
ops_length seed n zero = refl
ops_length seed n (suc count) = ap suc (ops_length seed (n + draws_at seed n) count)

pub script_length : (seed count : ℕ) → length (script_of seed count) ≡ count
script_length seed count = ops_length seed 1 count
