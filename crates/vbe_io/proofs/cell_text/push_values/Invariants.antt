use Rattle.std.proofs.Common.{◌≡◌, ◌++◌, map, drop}
use Rattle.vbe_io.specs.Cell.{with_value}
use Rattle.vbe_io.proofs.cell_text.push_values.Given as goal

abbrev pub invariant-loop-name : goal.invariant-loop-name
invariant-loop-name l =
    l.values.items ++ map (with_value l.generic.value) (drop l.name-index l.names) ≡ l.initial.values.items ++ map (with_value l.generic.value) l.names
