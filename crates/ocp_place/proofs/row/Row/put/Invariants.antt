use Rattle.std.proofs.Common.{◌≡◌, ◌++◌, map, take}
use Rattle.std.specs.List.{All}
use Rattle.ocp_place.specs.Rows.{IsNearSite}
use Rattle.ocp_place.specs.Reaches.{site_of, spot_sites, reached_drivers}
use Rattle.ocp_place.proofs.row.Row.put.Given as goal

abbrev pub invariant-loop-pin : goal.invariant-loop-pin
invariant-loop-pin l = record {
  sites : map site_of l.self.sites.items ≡ map site_of l.initial.self.sites.items ++ spot_sites l.spot.x l.spot.row l.classes (take l.pin-index l.pins);
  near : All IsNearSite l.initial.self.sites.items → All IsNearSite l.self.sites.items;
  drivers : l.self.drivers.items ≡ l.initial.self.drivers.items ++ reached_drivers l.classes (take l.pin-index l.pins);
  width : l.self.width ≡ l.initial.self.width;
  starts : l.self.starts.items ≡ l.initial.self.starts.items;
}
