use Rattle.std.proofs.Common.{◌≡◌, length, []}
use Rattle.net_core.specs.Links.{AreGrouped}
use Rattle.net_core.proofs.links.no_groups.Given as goal

abbrev pub invariant-loop : goal.invariant-loop
invariant-loop l = record {
  many : length l.groups.items ≡ l.counter;
  empty : AreGrouped [] l.groups.items;
}
