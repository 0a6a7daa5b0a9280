use Rattle.std.proofs.Common.{◌≡◌, ◌++◌, take, map}
use Rattle.net_core.specs.Checks.{pin_role}
use Rattle.net_core.proofs.roles.push_pins.Given as goal

abbrev pub invariant-loop-pin : goal.invariant-loop-pin
invariant-loop-pin l = l.roles.items ≡ l.initial.roles.items ++ map pin_role (take l.pin-index l.pins)
