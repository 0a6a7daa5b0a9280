-- The instances of a netlist in rows, as they are kept in memory before they become a placement.
use Rattle.std.specs.Prelude.{◌≡◌, ◌≤◌, ◌<◌, ◌^◌, ℕ, pos, false, List, map, length, slice_index, IsPermutation}
use Rattle.std.specs.List.{All}
use Rattle.sym_geom.specs.declared.grid.TheConstants.{FIRST_CELL_X}
use Rattle.cell_model.specs.Library.{Library}
use Rattle.net_core.specs.Netlist.{Netlist as InMemory}
use Rattle.net_meaning.specs.Netlist.{AbstractNetlist}
use Rattle.net_right.specs.View.{IsSeenAs}
use Rattle.ocp_rows.specs.Placement.{standing_rows, rows_width}
use Rattle.row_meaning.specs.Rows.{x_of, row_of}
use Rattle.ocp_place.specs.declared.rows.Cells.{Cells}
use Rattle.ocp_place.specs.declared.rows.Spots.{Spots}
use Rattle.ocp_place.specs.declared.rows.Standing.{Standing}
use Rattle.ocp_place.specs.declared.row.Row.{Row}
use Rattle.ocp_place.specs.Nets.{driven}
use Rattle.ocp_place.specs.Reaches.{AreReaches, site_of}
use Rattle.ocp_place.specs.Rows.{IsNearSite}
use Rattle.ocp_place.specs.Stood.{named_rows, instance_widths, stood_all, stood_sites}

-- the cells of a netlist's models, and the widths of its instances, each at most that of 32 columns
pub record AreCellsOf (l : Library) (n : InMemory) (c : Cells) : Type 0 where
  pub reaches : AreReaches l n.models c.reaches.items
  pub widths : (k : AbstractNetlist) → IsSeenAs n k → c.widths.items ≡ instance_widths l k.instances
  pub many : length c.widths.items ≡ length n.instances
  pub few : length c.widths.items < 2 ^ 32
  pub narrow : All (λ w. w ≤ 16000) c.widths.items

-- where cells of these widths stand in rows, by their numbers
pub record AreSpots (widths : List ℕ) (rows : List (List ℕ)) (s : Spots) : Type 0 where
  pub many_starts : length s.starts.items ≡ length widths
  pub many_rows : length s.row_numbers.items ≡ length widths
  pub starts : (c : ℕ) → c < length widths → slice_index s.starts.items c ≡ x_of widths FIRST_CELL_X rows c 0
  pub row_numbers : (c : ℕ) → c < length widths → slice_index s.row_numbers.items c ≡ row_of 0 rows c 0
  pub near : All (λ x. x ≤ 80000000000000) s.starts.items

-- the points of a netlist's signal pins, and the classes of its output pins, where its instances stand there
pub record ArePinsOn (l : Library) (n : InMemory) (s : Spots) (r : Row) : Type 0 where
  pub sites : (k : AbstractNetlist) → IsSeenAs n k
      → map site_of r.sites.items ≡ stood_sites k l (stood_all k.instances s.starts.items s.row_numbers.items)
  pub drivers : (k : AbstractNetlist) → IsSeenAs n k → r.drivers.items ≡ driven k l k.instances
  pub near : All IsNearSite r.sites.items

-- the instances of a netlist in rows of their numbers
pub record IsStanding (n : AbstractNetlist) (l : Library) (rows : List (List ℕ)) (s : Standing) : Type 0 where
  pub starts : length s.spots.starts.items ≡ length n.instances
  pub row_numbers : length s.spots.row_numbers.items ≡ length n.instances
  pub stands : IsPermutation (standing_rows l false (pos 0) (named_rows n.instances rows)) (stood_all n.instances s.spots.starts.items s.spots.row_numbers.items)
  pub sites : map site_of s.sites.items ≡ stood_sites n l (stood_all n.instances s.spots.starts.items s.spots.row_numbers.items)
  pub drivers : s.drivers.items ≡ driven n l n.instances
  pub width : pos s.width ≡ rows_width l (named_rows n.instances rows)
  pub narrow : s.width ≤ 70000000000000
  pub classes : All (λ p. p.class < n.classes) s.sites.items
  pub near : All (λ x. x ≤ 100000000000000) s.spots.starts.items
  pub heights : All IsNearSite s.sites.items
