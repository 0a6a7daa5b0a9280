use Rattle.std.proofs.Common.{◌≡◌, length, take}
use Rattle.net_core.specs.Links.{AreGrouped}
use Rattle.net_core.proofs.links.grouped.Given as goal

abbrev pub invariant-loop-link : goal.invariant-loop-link
invariant-loop-link l = record {
  many : length l.groups.items ≡ l.count;
  grouped : AreGrouped (take l.link-index l.links) l.groups.items;
}
