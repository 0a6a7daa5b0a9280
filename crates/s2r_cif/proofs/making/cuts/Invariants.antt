use Rattle.std.proofs.Common.{◌≡◌, take}
use Rattle.s2r_cif.specs.Real.{AreRealBoxes, cuts_of}
use Rattle.s2r_cif.proofs.making.cuts.Given as goal

abbrev pub invariant-loop-item : goal.invariant-loop-item
invariant-loop-item l = record {
  value : l.made.items ≡ cuts_of l.table (take l.item-index l.items);
  edges : AreRealBoxes l.made.items;
}
