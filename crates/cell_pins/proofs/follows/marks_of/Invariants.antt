use Rattle.std.proofs.Common.{◌≡◌, ◌++◌, map, drop}
use Rattle.machine_core.specs.Named.{is_same_name}
use Rattle.cell_pins.proofs.follows.marks_of.Given as goal

abbrev pub invariant-loop-name : goal.invariant-loop-name
invariant-loop-name l =
    l.marks.items ++ map (λ name. is_same_name name l.input) (drop l.name-index l.names) ≡ map (λ name. is_same_name name l.input) l.names
