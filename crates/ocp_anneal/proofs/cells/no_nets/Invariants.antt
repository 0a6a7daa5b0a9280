use Rattle.std.proofs.Common.{◌≡◌, length, []}
use Rattle.ocp_anneal.specs.Cells.{AreNets}
use Rattle.ocp_anneal.proofs.cells.no_nets.Given as goal

abbrev pub invariant-loop : goal.invariant-loop
invariant-loop l = record {
  many : length l.nets.items ≡ l.counter;
  empty : AreNets [] l.nets.items;
}
