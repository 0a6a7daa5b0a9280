-- There are fewer nets than a number can tell.
use Rattle.std.proofs.Common.{ℕ, ◌*◌, ◌<◌, ◌≤◌, arith}
use Rattle.std.proofs.Math.Nat.{le-mul_of_pos_right}

pub few_nets : (nets pins plane layers : ℕ) → 0 < pins → 0 < layers → nets * pins ≤ plane → plane * layers < 4294967295 → nets < 4294967295
few_nets nets pins plane layers some high room few =
    omega (arith, le-mul_of_pos_right {m = pins} nets some, le-mul_of_pos_right {m = layers} plane high)
