use Rattle.std.proofs.Common.{◌≡◌, ◌++◌, drop}
use Rattle.nero_nets.specs.Terminals.{class_pins}
use Rattle.nero_nets.proofs.terminals.push_own.Given as goal

abbrev pub invariant-loop-k : goal.invariant-loop-k
invariant-loop-k l =
    l.made.items ++ class_pins l.class l.node.name (drop l.k l.pins) (drop l.k l.classes) ≡ l.initial.made.items ++ class_pins l.class l.node.name l.pins l.classes
