use Rattle.std.proofs.Common.{take}
use Rattle.std.specs.Prelude.{slice_index}
use Rattle.delay_sta.proofs.Gathering.{AddsSome}
use Rattle.delay_sta.proofs.graph.push_arcs.Given as goal

abbrev pub invariant-loop-arc : goal.invariant-loop-arc
invariant-loop-arc l = AddsSome l.netlist (slice_index l.loads) l.owner l.cell (take l.arc-index l.arc-items) l.initial.arcs.items l.arcs.items
