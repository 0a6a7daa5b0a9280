use Rattle.std.proofs.Common.{arith}
use Rattle.cell_model.proofs.KindLemmas.{not_found}
use Rattle.boog_map.proofs.Building.{in_get}
use Rattle.boog_map.proofs.choice.chosen.Goals as goal

pub unreachable-requires : goal.unreachable-requires
unreachable-requires c =
    not_found c.args.cells.now c.args.kind (λ i d low. let over = c.loop-cell-test.false in c.loop-cell.invariant i d (omega (arith, low, over))) c.requires.there

pub returns-then-is_cell_of : goal.returns-then-is_cell_of
returns-then-is_cell_of c = record {
  listed = in_get c.args.cells.now c.loop-cell.cell-index c.cell-item.result c.loop-cell-test.true c.cell-item.is;
  usable = (c.is_cell_of.ensures.0 c.if-is_cell_of.true).0;
  kind = (c.is_cell_of.ensures.0 c.if-is_cell_of.true).1;
}
