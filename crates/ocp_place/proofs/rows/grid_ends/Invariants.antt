use Rattle.std.proofs.Common.{◌≡◌, ◌<◌, ◌++◌, ℕ, All, map, drop, length}
use Rattle.ocp_rows.specs.Placement.{port_column}
use Rattle.ocp_place.specs.Reaches.{site_of}
use Rattle.ocp_place.specs.Rows.{IsNearSite}
use Rattle.ocp_place.specs.Stood.{grid_sites, port_grid_sites}
use Rattle.ocp_place.proofs.rows.grid_ends.Given as goal

-- the ports that are left lead to what all lead to
abbrev pub invariant-loop-k : goal.invariant-loop-k
invariant-loop-k l = record {
  sites : map site_of l.sites.items ++ grid_sites (port_column (length l.ports) l.columns) l.rows l.k (drop l.k l.ports) ≡ port_grid_sites l.columns l.rows l.ports;
  near : All IsNearSite l.sites.items;
  classes : (n : ℕ) → All (λ c. c < n) l.ports → All (λ s. s.class < n) l.sites.items;
}
