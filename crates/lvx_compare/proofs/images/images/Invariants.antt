use Rattle.std.proofs.Common.{◌≡◌, length, take}
use Rattle.lvx_compare.specs.Stages.{AreImages}
use Rattle.lvx_compare.proofs.images.images.Given as goal

abbrev pub invariant-loop-k : goal.invariant-loop-k
invariant-loop-k l = record {
  many : length l.images.items ≡ l.count;
  images : AreImages (take l.k l.classes) (take l.k l.found) l.images.items;
}
