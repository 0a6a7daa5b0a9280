use Rattle.std.proofs.Common.{◌≡◌, length, false}
use Rattle.std.specs.List.{All}
use Rattle.bool_expr.specs.Expression.{constant}
use Rattle.bool_expr.specs.View.{view}
use Rattle.syf_machine.proofs.machine.zeros.Given as goal

abbrev pub invariant-loop : goal.invariant-loop
invariant-loop l = record {
  count : length l.made.items ≡ l.counter;
  zeros : All (λ e. view e ≡ constant false) l.made.items;
}
