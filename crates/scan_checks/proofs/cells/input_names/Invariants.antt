use Rattle.std.proofs.Common.{◌≡◌, ◌++◌, map, filter, drop}
use Rattle.machine_core.specs.Machine.{is_input, names_of}
use Rattle.scan_checks.proofs.cells.input_names.Given as goal

abbrev pub invariant-loop-pin : goal.invariant-loop-pin
invariant-loop-pin l =
    l.names.items ++ names_of (filter (λ p. is_input p.dir) (map (λ p. p.port) (drop l.pin-index l.pins)))
    ≡ names_of (filter (λ p. is_input p.dir) (map (λ p. p.port) l.pins))
