use Rattle.std.proofs.Common.{◌≡◌, length}
use Rattle.boog_tree.specs.Cuts.{AreTreeParts}
use Rattle.boog_tree.proofs.cuts.parts_before.Given as goal

abbrev pub invariant-loop-before : goal.invariant-loop-before
invariant-loop-before g l = record {
  many : length l.parts.items ≡ l.before;
  parts : AreTreeParts l.held l.graph l.parts.items;
}
