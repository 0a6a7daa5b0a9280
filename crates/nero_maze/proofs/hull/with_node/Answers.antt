use Rattle.std.proofs.Common.{sym, ◌∙◌}
use Rattle.nero_maze.specs.Hulls.{far}
use Rattle.nero_maze.proofs.Slope.{far-place}
use Rattle.nero_maze.proofs.hull.with_node.Goals as goal

pub returns-clause-holds : goal.returns-clause-holds
returns-clause-holds c =
    let e = c.place_of.ensures in
    let p = c.place_of.result in
    sym (far-place c.args.grid.now c.with_place.result c.args.node p.layer p.row p.column e.layer e.row e.column) ∙ c.with_place.ensures.holds

pub returns-clause-kept : goal.returns-clause-kept
unfolding far
returns-clause-kept c = λ v zero. c.with_place.ensures.kept _ _ _ zero
