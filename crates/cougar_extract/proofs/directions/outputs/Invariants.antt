use Rattle.std.proofs.Common.{◌≡◌, length, take}
use Rattle.cougar_extract.specs.Stages.{AreOutputs}
use Rattle.cougar_extract.proofs.directions.outputs.Given as goal

abbrev pub invariant-loop-link : goal.invariant-loop-link
invariant-loop-link l = record {
  many : length l.marks.items ≡ l.count;
  are : AreOutputs (take l.link-index l.links) l.marks.items;
}
