use Rattle.std.proofs.Common.{map, take}
use Rattle.std.specs.List.{AllZip}
use Rattle.machine_core.specs.View.{register_view}
use Rattle.boom_check.specs.Assembling.{IsSaidRegister}
use Rattle.boom_check.proofs.assembling.said_registers.Given as goal

abbrev pub invariant-loop-k : goal.invariant-loop-k
invariant-loop-k l = AllZip (IsSaidRegister l.numbers) (map register_view (take l.k l.given)) (map register_view l.made.items)
