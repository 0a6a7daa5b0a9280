use Rattle.std.proofs.Common.{◌-◌, length, nat_eq}
use Rattle.std.specs.HashMap.{get}
use Rattle.cell_match.specs.Cells.{inputs_of}
use Rattle.cell_match.proofs.Filling.{Fills}
use Rattle.cell_match.proofs.table.+fill.Given as goal

abbrev pub decreases-fill : goal.decreases-fill
decreases-fill l = inputs_of l.cells.now l.k - length l.order.now

abbrev pub invariant-loop-place : goal.invariant-loop-place
invariant-loop-place l = Fills l.cells l.k l.order l.place (λ w. get nat_eq l.fn.map w) (λ w. get nat_eq l.map w)
