use Rattle.std.proofs.Common.{◌≡◌, take, map}
use Rattle.net_core.specs.Netlist.{terminals_of}
use Rattle.scan_build.specs.Sketched.{instance_by}
use Rattle.scan_build.proofs.sketch.all_terminals.Given as goal

abbrev pub invariant-loop-entry : goal.invariant-loop-entry
invariant-loop-entry l = l.terminals.items ≡ terminals_of l.ports (map instance_by (take l.entry-index l.entries))
