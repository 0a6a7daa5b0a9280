use Rattle.std.proofs.Common.{◌≡◌, ◌∷◌, ◌++◌, map, drop}
use Rattle.vlsi_base.specs.Names.{vdd, vss}
use Rattle.machine_core.specs.Machine.{names_of}
use Rattle.cell_checks.proofs.connectors.pin_names.Given as goal

abbrev pub invariant-loop-pin : goal.invariant-loop-pin
invariant-loop-pin l =
    l.names.items ++ names_of (map (λ p. p.port) (drop l.pin-index l.pins)) ≡ vdd ∷ vss ∷ names_of (map (λ p. p.port) l.pins)
