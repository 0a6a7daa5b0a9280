use Rattle.std.proofs.Common.{◌≡◌, ℕ, List, length, ap, sym, subst, ◌∙◌, arith}
use Rattle.boog_area.specs.Covers.{AreCellBounds}
use Rattle.area_run.proofs.Sizes.{few_trees, trees_there}
use Rattle.area_run.proofs.measure.measure_of.Goals as goal

pub check_bounds-requires-clause-many : goal.check_bounds-requires-clause-many
check_bounds-requires-clause-many c =
    let same = ap (λ (l : List ℕ). length l) c.deref.ensures.value in
    let many = c.requires.cover.bounds.many in
    omega (arith, same, many)

pub whole_area-requires-clause-few : goal.whole_area-requires-clause-few
whole_area-requires-clause-few c = few_trees c.args.library.now c.args.held c.args.part.now c.args.cover.now c.requires.cover c.requires.numbers

pub whole_area-requires-clause-there : goal.whole_area-requires-clause-there
whole_area-requires-clause-there c = trees_there c.args.library.now c.args.held c.args.part.now c.args.cover.now c.requires.cover
