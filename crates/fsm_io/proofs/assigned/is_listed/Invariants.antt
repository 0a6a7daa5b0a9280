use Rattle.std.proofs.Common.{◌≡◌, drop}
use Rattle.bool_expr.specs.Support.{among}
use Rattle.fsm_io.proofs.assigned.is_listed.Given as goal

abbrev pub invariant-loop-listed : goal.invariant-loop-listed
invariant-loop-listed l = among l.state (drop l.listed-index l.states) ≡ among l.state l.states
