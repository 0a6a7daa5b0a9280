use Rattle.std.proofs.Common.{◌<◌, ℕ, List, get_or, subst}
use Rattle.cell_match.specs.Places.{times}
use Rattle.cell_match.proofs.Numbers.{times_some}
use Rattle.boog_tree.proofs.pick.cost_of.Goals as goal

pub bounds-inner-at : goal.bounds-inner-at
bounds-inner-at c =
    let xs = c.as_slice-leaf-items.result.now in
    c.requires.inner (get_or xs c.loop-leaf.leaf-index 0)
    (subst (λ (l : List ℕ). 0 < times (get_or xs c.loop-leaf.leaf-index 0) l) c.as_slice-leaf-items.ensures.value (times_some xs c.loop-leaf.leaf-index c.loop-leaf-test.true))

pub bounds-bounds-at : goal.bounds-bounds-at
bounds-bounds-at c =
    let xs = c.as_slice-leaf-items.result.now in
    c.requires.bounds (get_or xs c.loop-leaf.leaf-index 0)
    (subst (λ (l : List ℕ). 0 < times (get_or xs c.loop-leaf.leaf-index 0) l) c.as_slice-leaf-items.ensures.value (times_some xs c.loop-leaf.leaf-index c.loop-leaf-test.true))
