use Rattle.std.proofs.Common.{◌≡◌, ◌+◌, ◌-◌, ◌^◌, min, take}
use Rattle.cell_checks.specs.Checked.{library_of}
use Rattle.cougar_extract.specs.Refused.{pin_count}
use Rattle.cougar_extract.proofs.counting.terminal_count.Given as goal

abbrev pub invariant-loop-item : goal.invariant-loop-item
invariant-loop-item l =
    l.count ≡ min (l.ports + pin_count (take l.item-index l.items) (library_of l.cells)) (2 ^ 64 - 1)
