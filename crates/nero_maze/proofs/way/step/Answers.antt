use Rattle.std.proofs.Common.{Some, sym, ◌∙◌, ap}
use Rattle.nero_maze.proofs.Geometry.{step_facts}
use Rattle.nero_maze.proofs.Slope.{next-place}
use Rattle.nero_maze.proofs.way.step.Goals as goal

pub returns-in-Some-clause-is : goal.returns-in-Some-clause-is
returns-in-Some-clause-is c =
    let g = c.args.grid.now in
    let e = c.place_of.ensures in
    let p = c.place_of.result in
    sym (next-place g c.args.node p.layer p.row p.column c.args.way e.layer e.row e.column ∙ (c.in-Some.ensures.is ∙ ap Some (sym c.number_of_place.ensures.is)))

pub returns-in-Some-clause-back : goal.returns-in-Some-clause-back
returns-in-Some-clause-back c =
    let g = c.args.grid.now in
    let e = c.place_of.ensures in
    let p = c.place_of.result in
    let is = next-place g c.args.node p.layer p.row p.column c.args.way e.layer e.row e.column ∙ (c.in-Some.ensures.is ∙ ap Some (sym c.number_of_place.ensures.is)) in
    (step_facts g c.args.node c.args.way (Some c.number_of_place.result) c.requires.node c.requires.way (sym is)).1

pub returns-in-None-clause-is : goal.returns-in-None-clause-is
returns-in-None-clause-is c =
    let g = c.args.grid.now in
    let e = c.place_of.ensures in
    let p = c.place_of.result in
    sym (next-place g c.args.node p.layer p.row p.column c.args.way e.layer e.row e.column ∙ c.in-None.ensures.none)
