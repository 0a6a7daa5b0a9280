use Rattle.std.proofs.Common.{◌≡◌, ℕ, get_or, slice_index, arith}
use Rattle.cell_match.proofs.Numbers.{times_some}
use Rattle.boog_area.proofs.Sums.{total_next}
use Rattle.boog_area.proofs.area.sum_of_bounds.Goals as goal

pub bounds-bounds-at : goal.bounds-bounds-at
bounds-bounds-at c =
    c.requires.there (get_or c.args.roots.now c.loop-root.root-index 0) (times_some c.args.roots.now c.loop-root.root-index c.loop-root-test.true)

pub loop-root-preserved : goal.loop-root-preserved
loop-root-preserved c =
    let t : ℕ → ℕ = slice_index c.args.bounds.now in
    let next = total_next t c.args.roots.now c.loop-root.root-index c.loop-root-test.true in
    let got : c.from-area.result ≡ t (get_or c.args.roots.now c.loop-root.root-index 0) = c.from-area.ensures in
    let sum = c.loop-root.invariant.sum in
    let same : c.from-area.result ≡ get_or c.args.bounds.now (get_or c.args.roots.now c.loop-root.root-index 0) 0 = c.from-area.ensures in
    let low = c.type_inv.bounds (get_or c.args.roots.now c.loop-root.root-index 0) in
    let before = c.loop-root.invariant.fits in
    record { sum = omega (arith, next, got, sum); fits = omega (arith, same, low, before) }
