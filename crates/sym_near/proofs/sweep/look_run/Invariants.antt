use Rattle.std.proofs.Common.{◌≤◌}
use Rattle.sym_near.specs.Related.{Gains}
use Rattle.sym_near.specs.Sweep.{SeesRun}
use Rattle.sym_near.proofs.sweep.look_run.Given as goal

abbrev pub invariant-loop-q : goal.invariant-loop-q
invariant-loop-q l = record {
  gains : Gains l.shapes l.fn.search.relation l.initial.pairs.items l.pairs.items;
  from : l.start ≤ l.q;
  run : SeesRun l.shapes l.fn.search.relation l.fn.search.beside l.entries l.pairs.items l.p l.q;
}
