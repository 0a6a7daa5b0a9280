use Rattle.std.proofs.Common.{◌≡◌, length, take}
use Rattle.ocp_place.specs.Rows.{AreEnds}
use Rattle.ocp_place.proofs.row.grouped.Given as goal

abbrev pub invariant-loop-site : goal.invariant-loop-site
invariant-loop-site l = record {
  many : length l.groups.items ≡ l.count;
  ends : AreEnds (take l.site-index l.sites) l.groups.items;
}
