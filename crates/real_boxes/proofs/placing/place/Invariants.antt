use Rattle.std.proofs.Common.{◌≡◌, ◌++◌, map, take}
use Rattle.real_boxes.specs.Marks.{placed_mark}
use Rattle.real_boxes.proofs.placing.place.Given as goal

abbrev pub invariant-loop-mark : goal.invariant-loop-mark
invariant-loop-mark l = l.marks.items ≡ l.fn.marks.items ++ map (placed_mark l.cell l.instance) (take l.mark-index l.mark-items)
