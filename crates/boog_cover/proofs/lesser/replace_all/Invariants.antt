use Rattle.std.proofs.Common.{List}
use Rattle.graph_theory.specs.Graph.{Node}
use Rattle.boog_cover.specs.Lesser.{AreWhole}
use Rattle.boog_cover.proofs.lesser.replace_all.Given as goal

abbrev pub invariant-loop-step : goal.invariant-loop-step
invariant-loop-step l = (nodes : List Node) → AreWhole l.cells l.held nodes l.initial.gates → AreWhole l.cells l.held nodes l.gates
