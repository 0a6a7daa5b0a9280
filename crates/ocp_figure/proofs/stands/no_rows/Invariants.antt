use Rattle.std.proofs.Common.{◌≡◌, length, []}
use Rattle.ocp_figure.specs.Stands.{AreFilled}
use Rattle.ocp_figure.proofs.stands.no_rows.Given as goal

abbrev pub invariant-loop : goal.invariant-loop
invariant-loop l = record {
  many : length l.rows.items ≡ l.counter;
  empty : AreFilled [] l.rows.items;
}
