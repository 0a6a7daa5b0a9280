-- A row of instances, as it is kept in memory.
use Rattle.std.specs.Prelude.{◌≡◌, ◌+◌, ◌<◌, ◌≤◌, ℕ, pos, nat_eq, Bool, List, [], ◌∷◌, ◌++◌, if◌then◌else◌, map, filter, length, slice_index_or, Option, None, Some}
use Rattle.std.specs.List.{All}
use Rattle.std.specs.Global.{Vec}
use Rattle.sym_geom.specs.declared.grid.TheConstants.{FIRST_CELL_X}
use Rattle.cell_model.specs.Library.{Library}
use Rattle.cell_checks.specs.declared.points.GridPoint.{GridPoint}
use Rattle.net_meaning.specs.Netlist.{AbstractNetlist}
use Rattle.ocp_rows.specs.Placement.{row_width}
use Rattle.ocp_place.specs.declared.reach.PinReach.{PinReach}
use Rattle.ocp_place.specs.declared.reach.Reach.{Reach}
use Rattle.ocp_place.specs.declared.row.Site.{Site as Placed}
use Rattle.ocp_place.specs.declared.row.Row.{Row}
use Rattle.ocp_place.specs.Nets.{driven}
use Rattle.ocp_place.specs.Sites.{Site, pin_sites, row_starts}
use Rattle.ocp_place.specs.Reaches.{site_of, spot_sites, reached_drivers}

-- a site, if there is one
abbrev pub option_sites : Option Placed → List Site
option_sites None = []
option_sites (Some s) = site_of s ∷ []

-- the point of a cell lies no higher than a row, and no further than the coordinates here, in an instance that begins at x
abbrev pub IsShort : ℕ → Option GridPoint → Type 0
IsShort x None = Unit {0}
IsShort x (Some q) = (x + q.x ≤ 100000000000000) × (q.y ≤ 5000)

-- so do those of all pins of an instance that stands at x
abbrev pub HasShortPins : ℕ → List PinReach → Type 0
HasShortPins x pins = All (λ r. IsShort x r.point) pins

-- a site lies no further than the coordinates here
abbrev pub IsNearSite : Placed → Type 0
IsNearSite s = (s.x ≤ 100000000000000) × (s.y ≤ 100000000000000)

-- a class, if it is wanted
abbrev pub class_if : Bool → ℕ → List ℕ
class_if wanted class = if wanted then class ∷ [] else []

-- one more instance at the end of a row, at x, where all its pins have these classes
pub record IsPutAt (old new : Row) (reach : Reach) (classes : List ℕ) (x : ℕ) : Type 0 where
  pub starts : new.starts.items ≡ old.starts.items ++ x ∷ []
  pub sites : map site_of new.sites.items ≡ map site_of old.sites.items ++ spot_sites x 0 classes reach.pins.items
  pub drivers : new.drivers.items ≡ old.drivers.items ++ reached_drivers classes reach.pins.items
  pub width : new.width ≡ old.width + reach.width

-- the row of a netlist's instances in their order
pub record IsRow (n : AbstractNetlist) (l : Library) (r : Row) : Type 0 where
  pub starts : map pos r.starts.items ≡ row_starts l (pos FIRST_CELL_X) n.instances
  pub sites : map site_of r.sites.items ≡ pin_sites n l
  pub drivers : r.drivers.items ≡ driven n l n.instances
  pub width : pos r.width ≡ row_width l n.instances
  pub narrow : r.width ≤ 70000000000000
  pub classes : All (λ s. s.class < n.classes) r.sites.items
  pub near : All (λ x. x ≤ 100000000000000) r.starts.items
  pub heights : All (λ s. (s.x ≤ 100000000000000) × (s.y ≤ 5000)) r.sites.items

-- sites by their classes
pub record AreEnds (sites : List Placed) (groups : List (Vec Placed)) : Type 0 where
  pub each : (c : ℕ) (d : Vec Placed) → c < length groups → (slice_index_or groups c d).items ≡ filter (λ s. nat_eq s.class c) sites
