use Rattle.std.proofs.Common.{◌≡◌, map, filter, drop, not}
use Rattle.machine_core.specs.Machine.{is_input, names_of}
use Rattle.boog_map.proofs.part.output_of.Given as goal

abbrev pub invariant-loop-pin : goal.invariant-loop-pin
invariant-loop-pin l =
    names_of (filter (λ p. not (is_input p.dir)) (map (λ p. p.port) (drop l.pin-index l.pins)))
    ≡ names_of (filter (λ p. not (is_input p.dir)) (map (λ p. p.port) l.pins))
