-- Where the points of nets lie whose netlist stands in rows.
use Rattle.std.specs.Prelude.{◌≡◌, ℕ, ◌<◌, ◌≤◌, pos, false, List, map, length}
use Rattle.std.specs.List.{flat_map}
use Rattle.std.specs.List.Sorted.{IsPermutation}
use Rattle.vlsi_base.specs.Member.{In, AllDifferent}
use Rattle.sym_geom.specs.declared.item.Instance.{Instance}
use Rattle.cell_model.specs.Library.{Library}
use Rattle.net_core.specs.Netlist.{Netlist as InMemory}
use Rattle.net_meaning.specs.Netlist.{AbstractNetlist}
use Rattle.net_right.specs.View.{IsSeenAs}
use Rattle.net_drawing.specs.Drawing.{Numbering, HasNumberedNets}
use Rattle.ocp_rows.specs.Placement.{Placement, standing_rows, net_count}
use Rattle.ocp_place.specs.Nets.{net_number}
use Rattle.ocp_place.specs.Placed.{InRow, IsRowPlacementOf, rows_of, stood_in}
use Rattle.grid_core.specs.declared.grid.Grid.{Grid}
use Rattle.grid_core.specs.declared.grid.Node.{Node}
use Rattle.grid_core.specs.Grid.{IsInGrid}
use Rattle.maze_drawing.specs.Points.{grid_over, net_nodes, reserved}

-- The nets of a netlist have numbers, and each of its instances stands in rows once, where these lines say, in the netlist's order.
pub record IsInRows (n : AbstractNetlist) (l : Library) (net : Numbering) (p : Placement) (instances : List Instance) : Type 0 where
  pub nets : HasNumberedNets n l net p.ports
  pub no_tracks : p.tracks ≡ false
  pub rows : 1 ≤ length p.rows
  pub each_once : IsPermutation (flat_map (λ row. row) p.rows) n.instances
  pub stands : IsPermutation (standing_rows l false (pos 0) p.rows) instances
  pub listed : map (λ i. record { name = i.name; model = i.model }) instances ≡ n.instances

-- What is reserved for a net lies in the grid and is its own, and its points differ.
pub record ArePointsApart (g : Grid) (nets : ℕ) (points reserved : ℕ → List Node) : Type 0 where
  pub within : (k : ℕ) (q : Node) → k < nets → In q (reserved k) → IsInGrid g q
  pub alone : (j k : ℕ) (q : Node) → j < nets → k < nets → In q (reserved j) → In q (reserved k) → j ≡ k
  pub different : (k : ℕ) → k < nets → AllDifferent (points k)

-- So it is on the grid over such rows.
abbrev pub PointsAreApart : Type 0
PointsAreApart =
    (n : AbstractNetlist) (l : Library) (net : Numbering) (p : Placement) (instances : List Instance) (metals : ℕ) → IsInRows n l net p instances → 3 ≤ metals
    → ArePointsApart (grid_over metals l p) (net_count n) (net_nodes n l net p instances) (reserved n l net p instances)

-- And a placement in rows is such rows.
abbrev pub PlacementsAreInRows : Type 0
PlacementsAreInRows =
    (l : Library) (n : InMemory) (p : InRow) (k : AbstractNetlist) → IsRowPlacementOf l n p → IsSeenAs n k
    → IsInRows k l (net_number k l) (rows_of k p) (stood_in k p)
