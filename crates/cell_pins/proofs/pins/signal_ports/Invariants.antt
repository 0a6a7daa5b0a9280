use Rattle.std.proofs.Common.{◌≡◌, ◌++◌, map, drop}
use Rattle.cell_pins.proofs.pins.signal_ports.Given as goal

abbrev pub invariant-loop-pin : goal.invariant-loop-pin
invariant-loop-pin l = l.ports.items ++ map (λ p. p.port) (drop l.pin-index l.pins) ≡ map (λ p. p.port) l.pins
