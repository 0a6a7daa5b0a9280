-- How many rows a netlist stands in, and the placement that is made of it.
use Rattle.std.specs.Prelude.{◌≡◌, ◌≤◌, ◌<◌, ◌⊎◌, ◌*◌, ℕ, false, List, Option, None, Some, length, sum}
use Rattle.cell_model.specs.Library.{Library}
use Rattle.net_core.specs.Netlist.{Netlist as InMemory}
use Rattle.net_meaning.specs.Netlist.{AbstractNetlist}
use Rattle.net_right.specs.View.{IsSeenAs}
use Rattle.row_meaning.specs.First.{first_rows, AreEven}
use Rattle.ocp_rows.specs.Placement.{Placement}
use Rattle.ocp_place.specs.Placed.{InRow, rows_of}
use Rattle.ocp_place.specs.Nets.{signal_ports}
use Rattle.ocp_place.specs.Stood.{named_rows, instance_columns}
use Rattle.row_bridge.specs.Improved.{IsBetter}

-- the most rows
abbrev pub most_rows : ℕ
most_rows = 256

-- Cells of so many columns together stand in the least number of rows whose share is no wider than all of them are high, and in 256 at
-- most: a row is ten columns high.
pub record IsSquare (columns rows : ℕ) : Type 0 where
  pub some : 1 ≤ rows
  pub most : rows ≤ most_rows
  pub fits : (columns ≤ 10 * rows * rows) ⊎ (rows ≡ most_rows)
  pub least : (fewer : ℕ) → 1 ≤ fewer → fewer < rows → 10 * fewer * fewer < columns

-- as many as are asked for, or else such a number
abbrev pub IsRowCount : Option ℕ → ℕ → ℕ → Type 0
IsRowCount (Some asked) columns rows = rows ≡ asked
IsRowCount None columns rows = IsSquare columns rows

abbrev pub columns_of : AbstractNetlist → Library → ℕ
columns_of n l = sum (instance_columns l n.instances)

-- the first placement in so many rows
abbrev pub first_placement : AbstractNetlist → Library → ℕ → Placement
first_placement n l rows = record {
  rows = named_rows n.instances (first_rows (instance_columns l n.instances) rows);
  ports = signal_ports n;
  tracks = false;
}

-- A placement in the rows that are asked for: no row is wider than the share and the widest cell together, no exchange of neighbours makes
-- the nets shorter, and they are no longer than after so many moves from the first placement.
pub record IsGoodPlacement (n : AbstractNetlist) (l : Library) (asked : Option ℕ) (seed moves : ℕ) (p : Placement) : Type 0 where
  pub no_tracks : p.tracks ≡ false
  pub numbers : List (List ℕ)
  pub named : p.rows ≡ named_rows n.instances numbers
  pub even : AreEven (instance_columns l n.instances) numbers
  pub many : IsRowCount asked (columns_of n l) (length numbers)
  pub better : IsBetter n l seed moves (first_placement n l (length numbers)) p

-- of a netlist in memory
abbrev pub IsWellPlaced : Library → InMemory → Option ℕ → ℕ → ℕ → InRow → Type 0
IsWellPlaced l n asked seed moves p = (k : AbstractNetlist) → IsSeenAs n k → IsGoodPlacement k l asked seed moves (rows_of k p)
