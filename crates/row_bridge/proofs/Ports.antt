-- The points of ports above rows.
use Rattle.std.proofs.Common.{◌≡◌, ℕ, suc, ◌+◌, ◌*◌, ◌-◌, ◌/◌, ◌≤◌, ◌<◌, Bool, true, false, cond, List, [], ◌∷◌, length, Some, None, sym, div-mul-le_self, arith}
use Rattle.std.specs.Prelude.{pos}
use Rattle.std.proofs.lemmas.Option.{same_Some}
use Rattle.vlsi_base.specs.declared.name.Name.{Name}
use Rattle.sym_geom.specs.declared.grid.TheConstants.{FIRST_CELL_X, PITCH}
use Rattle.machine_core.specs.Named.{is_same_name}
use Rattle.cell_model.specs.Access.{Point}
use Rattle.cell_model.specs.Library.{Library}
use Rattle.net_meaning.specs.Netlist.{Member}
use Rattle.ocp_rows.specs.Placement.{block_columns, port_column, port_row, column_x, row_y}
use Rattle.ocp_rows.specs.Length.{grid_point, point_of}
use Rattle.row_bridge.specs.Improved.{above}
use Rattle.row_bridge.specs.Numbered.{ports_width}

-- a point of natural numbers, of which the first is at most that
pub record IsUpTo (most : ℕ) (q : Point) : Type 0 where
  pub x : ℕ
  pub y : ℕ
  pub is : q ≡ (pos x, pos y)
  pub right : x ≤ most

-- the point of the port of a rank
pub record IsTop (column : ℕ → ℕ) (rows from upto : ℕ) (q : Point) : Type 0 where
  pub rank : ℕ
  pub low : from ≤ rank
  pub high : rank < upto
  pub is : q ≡ (column_x (column rank), row_y (port_row rows))

grid_top : (column : ℕ → ℕ) (rows k : ℕ) (names : List Name) (name : Name) (q : Point) → grid_point column rows k names name ≡ Some q → IsTop column rows k (k + length names) q
grid_top column rows k [] name q e = absurd (cc e)
grid_top column rows k (one ∷ rest) name q e = by (is_same_name one name) e (grid_top column rows (suc k) rest name q) where
  by : (t : Bool) → cond t (Some (column_x (column k), row_y (port_row rows))) (grid_point column rows (suc k) rest name) ≡ Some q
      → (grid_point column rows (suc k) rest name ≡ Some q → IsTop column rows (suc k) (suc k + length rest) q) → IsTop column rows k (k + length (one ∷ rest)) q
  by true f next = record { rank = k; low = omega arith; high = omega arith; is = sym (same_Some (column_x (column k), row_y (port_row rows)) q f) }
  by false f next =
      let r = next f in
      let a = r.low in let b = r.high in
      record { rank = r.rank; low = omega arith; high = omega arith; is = r.is }

-- it stands no further to the right than one column past the last
pub port_up_to : (l : Library) (ports : List Name) (rows : List (List Member)) (name : Name) (q : Point) → point_of l (above ports rows) None name ≡ Some q
    → IsUpTo (ports_width l (above ports rows)) q
port_up_to l ports rows name q e =
    let columns = block_columns l (above ports rows) in
    let r = grid_top (port_column (length ports) columns) (length rows) 0 ports name q e in
    let low : r.rank < length ports = (let a = r.high in omega arith) in
    let step = (columns - 1) / length ports in
    let fits : step * length ports ≤ columns - 1 = div-mul-le_self (columns - 1) (length ports) in
    let less : r.rank * step ≤ length ports * step = grind (arith, low) in
    let turn : length ports * step ≡ step * length ports = grind arith in
    record {
      x = FIRST_CELL_X + PITCH * port_column (length ports) columns r.rank;
      y = PITCH * port_row (length rows);
      is = r.is;
      right = omega arith;
    }
