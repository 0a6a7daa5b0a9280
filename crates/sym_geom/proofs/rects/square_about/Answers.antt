use Rattle.std.proofs.Common.{arith, ◌≡◌}
use Rattle.std.specs.Prelude.{◌-ℤ◌, ◌+ℤ◌, pos, int_div}
use Rattle.std.proofs.lemmas.Int.{ints, clamps}
use mir.Syntax.{w64}
use mir.Val.{to_z, of_z}
use Rattle.sym_geom.proofs.rects.square_about.Goals as goal

pub returns : goal.returns
returns c =
    let half = c.low_half-low.ensures.value in
    let a : to_z w64 (of_z w64 c.spread-across.result.0) ≡ c.args.x.now -ℤ int_div c.args.width.now (pos 2) = omega (arith, ints, clamps, c.spread-across.ensures.low, half) in
    let b : to_z w64 (of_z w64 c.spread-along.result.0) ≡ c.args.y.now -ℤ int_div c.args.width.now (pos 2) = omega (arith, ints, clamps, c.spread-along.ensures.low, half) in
    let d : to_z w64 (of_z w64 c.spread-across.result.1) ≡ c.args.x.now +ℤ (c.args.width.now -ℤ int_div c.args.width.now (pos 2)) = omega (arith, ints, clamps, c.spread-across.ensures.high, half) in
    let e : to_z w64 (of_z w64 c.spread-along.result.1) ≡ c.args.y.now +ℤ (c.args.width.now -ℤ int_div c.args.width.now (pos 2)) = omega (arith, ints, clamps, c.spread-along.ensures.high, half) in
    λ i. record { x1 = a i; y1 = b i; x2 = d i; y2 = e i }
