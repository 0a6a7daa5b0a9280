use Rattle.std.proofs.Common.{ℕ, ◌≡◌, ◌≤◌, ◌+◌, min, max, map, drop, length, arith, subst}
use Rattle.maze_nets.specs.Nets.{points_of, least, greatest, along_axis}
use Rattle.maze_nets.proofs.Reach.{least_next, greatest_next, extent_of}
use Rattle.maze_nets.proofs.points.extent.Goals as goal

pub loop-at-preserved : goal.loop-at-preserved
loop-at-preserved c =
    let f = along_axis c.args.upright in
    let xs = points_of c.args.net.now in
    let at = c.loop-at.at in
    let q = c.point-in-loop-at.result in
    let first = c.along_axis-first.result in
    let inv = c.loop-at.invariant in
    let low_is : min c.loop-at.low (f q) ≡ c.min-low.result = (let a = c.min-low.ensures in let b = c.along_axis-place.ensures in omega (arith, a, b)) in
    let high_is : max c.loop-at.high (f q) ≡ c.max-high.result = (let a = c.max-high.ensures in let b = c.along_axis-place.ensures in omega (arith, a, b)) in
    record {
      low = subst (λ (n : ℕ). least n (drop (at + 1) (map f xs)) ≡ least first (drop 1 (map f xs))) low_is (least_next f xs at c.loop-at.low first q c.point-in-loop-at.ensures inv.low);
      high = subst (λ (n : ℕ). greatest n (drop (at + 1) (map f xs)) ≡ greatest first (drop 1 (map f xs))) high_is (greatest_next f xs at c.loop-at.high first q c.point-in-loop-at.ensures inv.high);
      order = let h = inv.order in let a = low_is in let b = high_is in omega arith;
    }

pub returns : goal.returns
returns c =
    let xs = points_of c.args.net.now in
    let inv = c.loop-at.invariant in
    let all : length xs ≤ c.loop-at.at = (let a = c.loop-at-test.false in let b = c.len-count.ensures in omega arith) in
    extent_of (along_axis c.args.upright) xs c.loop-at.at c.loop-at.low c.loop-at.high c.along_axis-first.result c.point.result c.point.ensures c.along_axis-first.ensures all inv.low inv.high
