use Rattle.std.proofs.Common.{◌≡◌, take, false}
use Rattle.std.specs.List.{list_any}
use Rattle.bool_expr.specs.Expression.{bit}
use Rattle.cell_pins.proofs.follows.reads_mark.Given as goal

abbrev pub invariant-loop-k : goal.invariant-loop-k
invariant-loop-k l = list_any (bit l.marks) (take l.k-index l.k-items) ≡ false
