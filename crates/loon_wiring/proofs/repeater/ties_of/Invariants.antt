use Rattle.std.proofs.Common.{◌≡◌, ◌++◌, map, drop}
use Rattle.loon_wiring.specs.Stages.{tie_of}
use Rattle.loon_wiring.proofs.repeater.ties_of.Given as goal

abbrev pub invariant-loop-port : goal.invariant-loop-port
invariant-loop-port l = l.ties.items ++ map tie_of (drop l.port-index l.ports) ≡ map tie_of l.ports
