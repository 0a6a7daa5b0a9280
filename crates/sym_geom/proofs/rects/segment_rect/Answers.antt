use Rattle.std.proofs.Common.{arith, ◌≡◌, inl, inr}
use Rattle.std.specs.Prelude.{◌-ℤ◌, ◌+ℤ◌, pos, int_div}
use Rattle.std.specs.Int.{int_min, int_max}
use Rattle.std.proofs.lemmas.Int.{ints, clamps}
use mir.Syntax.{w64}
use mir.Val.{to_z, of_z}
use Rattle.sym_geom.proofs.rects.segment_rect.Goals as goal

pub returns-in-Up : goal.returns-in-Up
returns-in-Up c =
    let s = c.args.s.now in
    let half = c.low_half-low.ensures.value in
    let a : to_z w64 (of_z w64 c.spread-across.result.0) ≡ int_min s.x1 s.x2 -ℤ int_div s.width (pos 2) = omega (arith, ints, clamps, c.spread-across.ensures.low, half) in
    let b : to_z w64 (of_z w64 c.spread-along.result.0) ≡ int_min s.y1 s.y2 -ℤ pos 100 = omega (arith, ints, clamps, c.spread-along.ensures.low) in
    let d : to_z w64 (of_z w64 c.spread-across.result.1) ≡ int_max s.x1 s.x2 +ℤ (s.width -ℤ int_div s.width (pos 2)) = omega (arith, ints, clamps, c.spread-across.ensures.high, half) in
    let e : to_z w64 (of_z w64 c.spread-along.result.1) ≡ int_max s.y1 s.y2 +ℤ pos 100 = omega (arith, ints, clamps, c.spread-along.ensures.high) in
    elim c.in-Up.is [
      | inl up ↦ rw up (λ i. record { x1 = a i; y1 = b i; x2 = d i; y2 = e i })
      | inr down ↦ rw down (λ i. record { x1 = a i; y1 = b i; x2 = d i; y2 = e i })
    ]

pub returns-in-Left : goal.returns-in-Left
returns-in-Left c =
    let s = c.args.s.now in
    let half = c.low_half-low.ensures.value in
    let a : to_z w64 (of_z w64 c.spread-across-in-Left.result.0) ≡ int_min s.x1 s.x2 -ℤ pos 100 = omega (arith, ints, clamps, c.spread-across-in-Left.ensures.low) in
    let b : to_z w64 (of_z w64 c.spread-along-in-Left.result.0) ≡ int_min s.y1 s.y2 -ℤ int_div s.width (pos 2) = omega (arith, ints, clamps, c.spread-along-in-Left.ensures.low, half) in
    let d : to_z w64 (of_z w64 c.spread-across-in-Left.result.1) ≡ int_max s.x1 s.x2 +ℤ pos 100 = omega (arith, ints, clamps, c.spread-across-in-Left.ensures.high) in
    let e : to_z w64 (of_z w64 c.spread-along-in-Left.result.1) ≡ int_max s.y1 s.y2 +ℤ (s.width -ℤ int_div s.width (pos 2)) = omega (arith, ints, clamps, c.spread-along-in-Left.ensures.high, half) in
    elim c.in-Left.is [
      | inl left ↦ rw left (λ i. record { x1 = a i; y1 = b i; x2 = d i; y2 = e i })
      | inr right ↦ rw right (λ i. record { x1 = a i; y1 = b i; x2 = d i; y2 = e i })
    ]
