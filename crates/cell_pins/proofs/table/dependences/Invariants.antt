use Rattle.vlsi_base.specs.Member.{Picks}
use Rattle.cell_model.specs.View.{function_view}
use Rattle.cell_pins.specs.Table.{first_places, DependsAt}
use Rattle.cell_pins.proofs.table.dependences.Given as goal

abbrev pub invariant-loop-place : goal.invariant-loop-place
invariant-loop-place l = Picks (DependsAt (function_view l.function) l.ports l.output) (first_places l.place) l.places.items
