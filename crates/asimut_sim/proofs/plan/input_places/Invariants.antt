use Rattle.std.specs.FinMap.{get}
use Rattle.std.specs.Option.{option_copied}
use Rattle.asimut_sim.proofs.PlanLemmas.{Finds}
use Rattle.asimut_sim.proofs.plan.input_places.Given as goal

abbrev pub invariant-loop-port : goal.invariant-loop-port
invariant-loop-port l = Finds (get l.index.places) (option_copied l.fn.clock) l.ports l.port-index l.places.items
