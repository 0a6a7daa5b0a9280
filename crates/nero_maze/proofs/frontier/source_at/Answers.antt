use Rattle.std.proofs.Common.{◌+◌, ◌<◌, length, slice_index, arith, ◌∙◌, ap}
use Rattle.grid_core.specs.Numbers.{nodes}
use Rattle.nero_maze.proofs.Theory.{read_at}
use Rattle.nero_maze.proofs.Slope.{far-place}
use Rattle.nero_maze.proofs.frontier.source_at.Goals as goal

pub returns-clause-source : goal.returns-clause-source
returns-clause-source c =
    let g = c.args.field.now.grid in
    let ord = c.args.frontier.now.order.items in
    let k = c.requires.kept in
    let at_lt : c.args.at < c.args.frontier.now.count = c.requires.at in
    let same = k.same in
    let full = k.full in
    let size = c.requires.size in
    let lt : c.args.at < length ord = omega arith in
    let node = read_at ord c.args.at c.index-node.result.now lt c.index-node.ensures in
    let listed = k.listed c.args.at at_lt in
    let inside : slice_index ord c.args.at < nodes g = omega arith in
    let e = c.place_of-place.ensures in
    let p = c.place_of-place.result in
    record {
      at = node;
      within = rw (← node) inside;
      layer = e.layer;
      row = e.row;
      column = e.column;
      place = e.within;
      reach = ap (λ x. c.args.rise + x) (c.far_from.ensures.is ∙ far-place g c.args.field.now.hull c.index-node.result.now p.layer p.row p.column e.layer e.row e.column);
    }
