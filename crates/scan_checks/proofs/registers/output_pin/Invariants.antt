use Rattle.std.proofs.Common.{◌≡◌, map, filter, drop}
use Rattle.std.specs.Prelude.{not}
use Rattle.machine_core.specs.Machine.{is_input, names_of}
use Rattle.scan_checks.proofs.registers.output_pin.Given as goal

abbrev pub invariant-loop-pin : goal.invariant-loop-pin
invariant-loop-pin l =
    names_of (filter (λ p. not (is_input p.dir)) (map (λ p. p.port) (drop l.pin-index l.pins)))
    ≡ names_of (filter (λ p. not (is_input p.dir)) (map (λ p. p.port) l.pins))
