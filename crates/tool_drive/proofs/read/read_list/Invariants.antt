use Rattle.std.proofs.Common.{◌≡◌, length, take}
use Rattle.tool_drive.specs.Outside.{OnlyReads}
use Rattle.tool_drive.specs.Plan.{got, Gathers}
use Rattle.tool_drive.proofs.read.read_list.Given as goal

abbrev pub invariant-loop-item : goal.invariant-loop-item
invariant-loop-item g l = record {
  counted : length l.read.items ≡ l.item-index;
  reads : OnlyReads (g.S.Shelf.seen l.initial.shelf) (g.S.Shelf.seen l.shelf);
  had : Gathers (g.S.Shelf.seen l.initial.shelf).files (take l.item-index l.wanted) (got l.read.items);
}
