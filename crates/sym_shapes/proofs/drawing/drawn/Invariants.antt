use Rattle.std.proofs.Common.{◌≡◌, ◌++◌, drop}
use Rattle.sym_shapes.specs.Shape.{drawn, drawn_from}
use Rattle.sym_shapes.proofs.drawing.drawn.Given as goal

abbrev pub invariant-loop-line : goal.invariant-loop-line
invariant-loop-line l = l.shapes.items ++ drawn_from l.line (drop l.line l.items) ≡ drawn l.items
