use Rattle.std.proofs.Common.{arith, refl, ◌∙◌, ap, length, length-set, slice_index}
use Rattle.nero_maze.specs.Hulls.{far}
use Rattle.nero_maze.specs.Search.{words_in}
use Rattle.nero_maze.proofs.Levels.{live, spilled, all_marked}
use Rattle.nero_maze.proofs.Slope.{far_slope}
use Rattle.nero_maze.proofs.search.spill.Goals as goal

pub loop-at-init : goal.loop-at-init
loop-at-init c =
    record {
      knows = c.requires.knows;
      flat = c.requires.flat;
      spread = c.requires.spread;
      longer = record { more = omega arith; prefix = λ i lt. refl };
      at = omega arith;
      to = c.requires.knows.in_all;
    }

pub settle-requires-clause-kept : goal.settle-requires-clause-kept
settle-requires-clause-kept c = c.loop-at.invariant.knows.kept

pub settle-requires-clause-live : goal.settle-requires-clause-live
settle-requires-clause-live c =
    let f = c.args.field.now in
    let f0 = c.loop-at.frontier in
    live f.grid (words_in f.words) f.net (far f.grid f.hull) c.args.level.now f0.order.items f0.marks.items f0.count c.loop-at.at c.loop-at.invariant.knows c.loop-at-test.true

pub expand-requires-clause-size : goal.expand-requires-clause-size
expand-requires-clause-size c =
    let f0 = c.loop-at.frontier in
    let u = slice_index f0.order.items c.loop-at.at in
    let x = slice_index f0.marks.items u in
    ap (λ xs. length xs) c.settle.ensures.marks ∙ (length-set f0.marks.items u _ ∙ c.loop-at.invariant.knows.size)

pub loop-at-smaller : goal.loop-at-smaller
loop-at-smaller c =
    let k = c.loop-at.invariant.knows in
    let size = k.size in
    let full = k.kept.full in
    let lt = c.loop-at-test.true in
    omega arith

pub loop-at-preserved : goal.loop-at-preserved
loop-at-preserved c =
    let f = c.args.field.now in
    let f0 = c.loop-at.frontier in
    let f1 = c.settle.new.frontier in
    let f2 = c.expand.new.frontier in
    let e1 = c.settle.ensures in
    let e2 = c.expand.ensures in
    spilled f.grid (words_in f.words) f.net (far f.grid f.hull) c.args.level.now c.args.frontier.now.order.items c.args.frontier.now.count
    f0.order.items f0.marks.items f0.count c.loop-at.at f1.order.items f1.marks.items f1.count f2.order.items f2.marks.items f2.count
    (far_slope f.grid f.hull) c.loop-at.invariant c.loop-at-test.true e1.order e1.count e1.marks e1.kept e2.grown e2.spread e2.kept

pub returns-clause-knows : goal.returns-clause-knows
returns-clause-knows c = c.loop-at.invariant.knows

pub returns-clause-flat : goal.returns-clause-flat
returns-clause-flat c =
    let inv = c.loop-at.invariant in
    let to = inv.to in
    let ge = c.loop-at-test.false in
    λ i lt. inv.flat i (omega arith)

pub returns-clause-all : goal.returns-clause-all
returns-clause-all c =
    let f = c.args.field.now in
    let f0 = c.loop-at.frontier in
    let inv = c.loop-at.invariant in
    let to = inv.to in
    let ge = c.loop-at-test.false in
    all_marked f.grid (words_in f.words) f.net (far f.grid f.hull) c.args.level.now f0.order.items f0.marks.items f0.count (far_slope f.grid f.hull) inv.knows
    (λ j k v lt. inv.spread j k v (omega arith))

pub returns-clause-longer : goal.returns-clause-longer
returns-clause-longer c = c.loop-at.invariant.longer
