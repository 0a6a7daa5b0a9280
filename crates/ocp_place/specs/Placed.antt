-- Placements, as they are kept in memory: for private tracks, and in rows.
use Rattle.std.specs.Prelude.{◌≡◌, ◌<◌, ◌≤◌, ◌++◌, ◌/◌, Bool, false, true, ℕ, pos, List, map, flat_map, length, slice_index_or, IsPermutation}
use Rattle.vlsi_base.specs.Names.{vdd, vss}
use Rattle.sym_geom.specs.declared.grid.TheConstants.{FIRST_CELL_X, PITCH}
use Rattle.sym_geom.specs.declared.item.Instance.{Instance}
use Rattle.cell_model.specs.Library.{Library}
use Rattle.cell_model.specs.Access.{Point}
use Rattle.cell_checks.specs.Checked.{IsChecked as HasPassed}
use Rattle.net_core.specs.Netlist.{Netlist as InMemory}
use Rattle.net_meaning.specs.Netlist.{AbstractNetlist, port}
use Rattle.net_right.specs.View.{IsSeenAs}
use Rattle.ocp_rows.specs.Placement.{Placement, row_width, standing_rows, block_width}
use Rattle.row_meaning.specs.First.{numbers, first_rows, AreEven}
use Rattle.ocp_place.specs.Drawable.{IsDrawableIn}
use Rattle.ocp_place.specs.Nets.{signal_ports, port_classes, driven}
use Rattle.ocp_place.specs.Sites.{pin_sites, port_sites, points_in, row_starts}
use Rattle.ocp_place.specs.Stood.{named_rows, stood_all, instance_columns, port_grid_sites, stood_sites}

-- One row of all instances in their order, for private tracks; or rows of them.
pub record InRow : Type 0 where
  -- the classes of the ports but for the supplies, in the order of names
  pub ports : List ℕ
  -- the classes of the instances' output pins, in the order of instances and of names
  pub drivers : List ℕ
  -- for each class the points of its ports and of its signal pins
  pub ends : List (List Point)
  -- where each instance begins
  pub starts : List ℕ
  -- of the row, or of the block over rows
  pub width : ℕ
  -- the classes of vdd and of vss
  pub high : ℕ
  pub low : ℕ
  -- whether it is for tracks
  pub tracks : Bool
  -- where the instances stand in rows: their numbers row by row from the lowest up, and the number of each one's row
  pub rows : List (List ℕ)
  pub row_numbers : List ℕ

-- the placement is that of a netlist, as it is seen
pub record IsRowOf (n : AbstractNetlist) (l : Library) (p : InRow) : Type 0 where
  pub for_tracks : p.tracks ≡ true
  pub ports : p.ports ≡ port_classes n
  pub drivers : p.drivers ≡ driven n l n.instances
  pub many : length p.ends ≡ n.classes
  pub ends : (class : ℕ) (d : List Point) → class < n.classes
      → slice_index_or p.ends class d ≡ points_in class (port_sites 0 (port_classes n) ++ pin_sites n l)
  pub starts : map pos p.starts ≡ row_starts l (pos FIRST_CELL_X) n.instances
  pub width : pos p.width ≡ row_width l n.instances
  pub high : p.high ≡ n.class (port vdd)
  pub low : p.low ≡ n.class (port vss)

-- that of a netlist in memory over a checked library: of each netlist of layouts that it is seen as
pub record IsPlacementOf (l : Library) (n : InMemory) (p : InRow) : Type 0 where
  pub passed : HasPassed false l
  pub drawable : IsDrawableIn l n
  pub row : (k : AbstractNetlist) → IsSeenAs n k → IsRowOf k l p

-- ---- in rows

-- the placement of layouts that it is, and the lines of its instances in the netlist's order
abbrev pub rows_of : AbstractNetlist → InRow → Placement
rows_of n p = record { rows = named_rows n.instances p.rows; ports = signal_ports n; tracks = false }

abbrev pub stood_in : AbstractNetlist → InRow → List Instance
stood_in n p = stood_all n.instances p.starts p.row_numbers

-- the placement is one of a netlist in rows, as it is seen
pub record AreRowsOf (n : AbstractNetlist) (l : Library) (p : InRow) : Type 0 where
  pub no_tracks : p.tracks ≡ false
  pub some : 1 ≤ length p.rows
  pub few : length p.rows ≤ 256
  -- each instance stands in the rows once, and where its start and its row's number say
  pub each_once : IsPermutation (flat_map (λ row. row) p.rows) (numbers 0 (length n.instances))
  pub starts : length p.starts ≡ length n.instances
  pub row_numbers : length p.row_numbers ≡ length n.instances
  pub stands : IsPermutation (standing_rows l false (pos 0) (named_rows n.instances p.rows)) (stood_in n p)
  pub width : pos p.width ≡ block_width l (rows_of n p)
  pub ports : p.ports ≡ port_classes n
  pub drivers : p.drivers ≡ driven n l n.instances
  pub many : length p.ends ≡ n.classes
  pub ends : (class : ℕ) (d : List Point) → class < n.classes → slice_index_or p.ends class d
      ≡ points_in class (port_grid_sites (p.width / PITCH) (length p.rows) (port_classes n) ++ stood_sites n l (stood_in n p))
  pub high : p.high ≡ n.class (port vdd)
  pub low : p.low ≡ n.class (port vss)

-- that of a netlist in memory over a checked library: of each netlist of layouts that it is seen as
pub record IsRowPlacementOf (l : Library) (n : InMemory) (p : InRow) : Type 0 where
  pub passed : HasPassed false l
  pub drawable : IsDrawableIn l n
  pub rows : (k : AbstractNetlist) → IsSeenAs n k → AreRowsOf k l p

-- It is the first placement in so many rows: they are filled from the lowest up in the order of instances, and one goes into the next row
-- exactly where the present one is already at least as wide, in columns, as the share.
abbrev pub IsFirstPlacement : Library → InMemory → ℕ → InRow → Type 0
IsFirstPlacement l n many p = (k : AbstractNetlist) → IsSeenAs n k → p.rows ≡ first_rows (instance_columns l k.instances) many

-- no row is wider, in columns, than the share and the widest cell together
abbrev pub IsEvenPlacement : Library → InMemory → InRow → Type 0
IsEvenPlacement l n p = (k : AbstractNetlist) → IsSeenAs n k → AreEven (instance_columns l k.instances) p.rows
