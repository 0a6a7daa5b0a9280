use Rattle.std.proofs.Common.{map}
use Rattle.machine_core.specs.View.{equation_view}
use Rattle.machine_roots.proofs.Outputs.{IsShowing}
use Rattle.machine_roots.proofs.listing.output_roots.Given as goal

abbrev pub invariant-loop-port : goal.invariant-loop-port
invariant-loop-port l = IsShowing (map equation_view l.equations) l.ports l.port-index l.out.items
