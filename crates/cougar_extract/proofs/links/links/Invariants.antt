use Rattle.cougar_extract.specs.Stages.{AreLinks}
use Rattle.cougar_extract.proofs.links.links.Given as goal

abbrev pub invariant-loop-k : goal.invariant-loop-k
invariant-loop-k l = AreLinks l.drawing.shapes.items l.numbers l.drawing.gives.items l.k l.links.items
