use Rattle.std.proofs.Common.{◌≡◌, drop}
use Rattle.fsm_io.specs.Known.{is_clock_port}
use Rattle.fsm_io.proofs.known.is_clock_port.Given as goal

abbrev pub invariant-loop-group : goal.invariant-loop-group
invariant-loop-group l = is_clock_port (drop l.group-index l.groups) l.text ≡ is_clock_port l.groups l.text
