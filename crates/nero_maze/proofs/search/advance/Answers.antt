use Rattle.nero_maze.specs.Hulls.{far}
use Rattle.nero_maze.specs.Search.{words_in}
use Rattle.nero_maze.proofs.Levels.{advanced}
use Rattle.nero_maze.proofs.Slope.{far_slope}
use Rattle.nero_maze.proofs.search.advance.Goals as goal

pub returns-clause-knows : goal.returns-clause-knows
returns-clause-knows c =
    let f = c.args.field.now in
    let l = c.args.level.now in
    let f0 = c.args.frontier.now in
    let f1 = c.expand.new.frontier in
    let f2 = c.expand-2.new.frontier in
    let f3 = c.expand-3.new.frontier in
    let f4 = c.expand-4.new.frontier in
    let e1 = c.expand.ensures in
    let e2 = c.expand-2.ensures in
    let e3 = c.expand-3.ensures in
    let e4 = c.expand-4.ensures in
    let all = advanced f.grid (words_in f.words) f.net (far f.grid f.hull) l f0.order.items f0.marks.items f0.count
    f1.order.items f1.marks.items f1.count f2.order.items f2.marks.items f2.count f3.order.items f3.marks.items f3.count f4.order.items f4.marks.items f4.count
    (far_slope f.grid f.hull) c.requires.knows c.requires.flat c.requires.first e1.grown e1.spread e1.kept e2.grown e2.spread e2.kept e3.grown e3.spread e3.kept e4.grown e4.spread e4.kept in
    all.knows

pub returns-clause-flat : goal.returns-clause-flat
returns-clause-flat c =
    let f = c.args.field.now in
    let l = c.args.level.now in
    let f0 = c.args.frontier.now in
    let f1 = c.expand.new.frontier in
    let f2 = c.expand-2.new.frontier in
    let f3 = c.expand-3.new.frontier in
    let f4 = c.expand-4.new.frontier in
    let e1 = c.expand.ensures in
    let e2 = c.expand-2.ensures in
    let e3 = c.expand-3.ensures in
    let e4 = c.expand-4.ensures in
    let all = advanced f.grid (words_in f.words) f.net (far f.grid f.hull) l f0.order.items f0.marks.items f0.count
    f1.order.items f1.marks.items f1.count f2.order.items f2.marks.items f2.count f3.order.items f3.marks.items f3.count f4.order.items f4.marks.items f4.count
    (far_slope f.grid f.hull) c.requires.knows c.requires.flat c.requires.first e1.grown e1.spread e1.kept e2.grown e2.spread e2.kept e3.grown e3.spread e3.kept e4.grown e4.spread e4.kept in
    all.flat

pub returns-clause-spread : goal.returns-clause-spread
returns-clause-spread c =
    let f = c.args.field.now in
    let l = c.args.level.now in
    let f0 = c.args.frontier.now in
    let f1 = c.expand.new.frontier in
    let f2 = c.expand-2.new.frontier in
    let f3 = c.expand-3.new.frontier in
    let f4 = c.expand-4.new.frontier in
    let e1 = c.expand.ensures in
    let e2 = c.expand-2.ensures in
    let e3 = c.expand-3.ensures in
    let e4 = c.expand-4.ensures in
    let all = advanced f.grid (words_in f.words) f.net (far f.grid f.hull) l f0.order.items f0.marks.items f0.count
    f1.order.items f1.marks.items f1.count f2.order.items f2.marks.items f2.count f3.order.items f3.marks.items f3.count f4.order.items f4.marks.items f4.count
    (far_slope f.grid f.hull) c.requires.knows c.requires.flat c.requires.first e1.grown e1.spread e1.kept e2.grown e2.spread e2.kept e3.grown e3.spread e3.kept e4.grown e4.spread e4.kept in
    all.spread

pub returns-clause-longer : goal.returns-clause-longer
returns-clause-longer c =
    let f = c.args.field.now in
    let l = c.args.level.now in
    let f0 = c.args.frontier.now in
    let f1 = c.expand.new.frontier in
    let f2 = c.expand-2.new.frontier in
    let f3 = c.expand-3.new.frontier in
    let f4 = c.expand-4.new.frontier in
    let e1 = c.expand.ensures in
    let e2 = c.expand-2.ensures in
    let e3 = c.expand-3.ensures in
    let e4 = c.expand-4.ensures in
    let all = advanced f.grid (words_in f.words) f.net (far f.grid f.hull) l f0.order.items f0.marks.items f0.count
    f1.order.items f1.marks.items f1.count f2.order.items f2.marks.items f2.count f3.order.items f3.marks.items f3.count f4.order.items f4.marks.items f4.count
    (far_slope f.grid f.hull) c.requires.knows c.requires.flat c.requires.first e1.grown e1.spread e1.kept e2.grown e2.spread e2.kept e3.grown e3.spread e3.kept e4.grown e4.spread e4.kept in
    all.longer
