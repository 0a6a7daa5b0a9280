use Rattle.std.proofs.Common.{◌≡◌, length, take}
use Rattle.ocp_anneal.specs.Cells.{AreNets}
use Rattle.ocp_anneal.proofs.cells.grouped.Given as goal

abbrev pub invariant-loop-tied : goal.invariant-loop-tied
invariant-loop-tied l = record {
  many : length l.nets.items ≡ l.count;
  nets : AreNets (take l.tied-index l.pins) l.nets.items;
}
