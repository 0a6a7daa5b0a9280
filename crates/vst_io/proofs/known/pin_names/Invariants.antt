use Rattle.std.proofs.Common.{◌≡◌, ◌++◌, map, drop}
use Rattle.net_core.specs.declared.pins.ModelPin.{ModelPin}
use Rattle.vst_io.proofs.known.pin_names.Given as goal

abbrev pub invariant-loop-pin : goal.invariant-loop-pin
invariant-loop-pin l = l.names.items ++ map (λ (p : ModelPin). p.name) (drop l.pin-index l.pins) ≡ map (λ (p : ModelPin). p.name) l.pins
