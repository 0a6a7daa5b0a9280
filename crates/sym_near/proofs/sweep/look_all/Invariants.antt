use Rattle.sym_near.specs.Related.{Gains}
use Rattle.sym_near.specs.Sweep.{SeesRuns}
use Rattle.sym_near.proofs.sweep.look_all.Given as goal

abbrev pub invariant-loop-p : goal.invariant-loop-p
invariant-loop-p l = record {
  gains : Gains l.shapes l.search.relation l.initial.pairs.items l.pairs.items;
  runs : SeesRuns l.shapes l.search.relation l.search.beside l.entries l.pairs.items l.p;
}
