use Rattle.std.proofs.Common.{◌≡◌, length, []}
use Rattle.ocp_place.specs.Rows.{AreEnds}
use Rattle.ocp_place.proofs.row.no_groups.Given as goal

abbrev pub invariant-loop : goal.invariant-loop
invariant-loop l = record {
  many : length l.groups.items ≡ l.counter;
  empty : AreEnds [] l.groups.items;
}
