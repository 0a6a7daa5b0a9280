use Rattle.std.proofs.Common.{take}
use Rattle.std.specs.List.{All}
use Rattle.sym_shapes.specs.Shape.{Shape}
use Rattle.sym_shapes.specs.Joined.{Shows}
use Rattle.net_core.specs.Netlist.{port}
use Rattle.cougar_extract.proofs.shorts.shown_at.Given as goal

abbrev pub invariant-loop-k : goal.invariant-loop-k
invariant-loop-k l = All (λ (s : Shape). Shows (port l.name) s → ⊥) (take l.k l.shapes)
