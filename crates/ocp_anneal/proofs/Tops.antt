-- The ports of a netlist in rows, as pins.
use Rattle.std.proofs.Common.{◌≡◌, ℕ, suc, ◌/◌, List, [], ◌∷◌, map, length, Some, None, refl, sym, ap, subst, ◌∙◌}
use Rattle.std.proofs.lemmas.List.{length-map}
use Rattle.vlsi_base.specs.declared.name.Name.{Name}
use Rattle.vlsi_base.specs.Member.{In}
use Rattle.sym_geom.specs.declared.grid.TheConstants.{PITCH}
use Rattle.cell_model.specs.Access.{Point}
use Rattle.cell_model.specs.Library.{Library}
use Rattle.cell_model.proofs.Members.{In-map, In-map_back}
use Rattle.cell_pins.proofs.Ports.{in_filter}
use Rattle.net_meaning.specs.Netlist.{AbstractNetlist, port}
use Rattle.ocp_rows.specs.Placement.{natural, block_columns, port_column, port_row, column_x, row_y}
use Rattle.ocp_rows.specs.Length.{point_of}
use Rattle.ocp_place.specs.Nets.{is_signal, signal_ports, port_classes}
use Rattle.ocp_place.specs.Orderly.{IsOrderly}
use Rattle.ocp_place.specs.Placed.{InRow, rows_of, AreRowsOf}
use Rattle.ocp_place.specs.Sites.{Site}
use Rattle.ocp_place.specs.Stood.{named_rows, grid_sites}
use Rattle.ocp_place.proofs.Lists.{different_filter, different_names}
use Rattle.ocp_place.proofs.Points.{grid_back, grid_there}
use Rattle.ocp_place.proofs.RowSited.{columns_are}
use Rattle.row_bridge.specs.Nets.{IsPortPin}
use Rattle.ocp_anneal.specs.declared.cells.Tied.{Tied}
use Rattle.ocp_anneal.specs.Cells.{tied, port_pins, top_pins}

-- a point with its class, as a pin of a cell
abbrev pub as_pin : ℕ → Site → Tied
as_pin cell s = tied s.0 cell (natural (s.1).0) (natural (s.1).1)

abbrev top : (ℕ → ℕ) → ℕ → ℕ → Point
top column rows k = (column_x (column k), row_y (port_row rows))

pins_are : (column : ℕ → ℕ) (rows cell k : ℕ) (classes : List ℕ) → port_pins column rows cell k classes ≡ map (as_pin cell) (grid_sites column rows k classes)
pins_are column rows cell k [] = refl
pins_are column rows cell k (c ∷ rest) = ap (λ (ts : List Tied). as_pin cell (c, top column rows k) ∷ ts) (pins_are column rows cell (suc k) rest)

module _ (n : AbstractNetlist) (l : Library) (orderly : IsOrderly n l) (p : InRow) (are : AreRowsOf n l p) where
  abbrev column : ℕ → ℕ
  column = port_column (length (signal_ports n)) (block_columns l (rows_of n p))

  abbrev many : ℕ
  many = length (named_rows n.instances p.rows)

  tops_are : map (as_pin (length n.instances)) (grid_sites column many 0 (port_classes n)) ≡ top_pins n p
  tops_are =
      let cell = length n.instances in
      let classes = port_classes n in
      let count : length classes ≡ length (signal_ports n) = length-map (signal_ports n) _ in
      let rows : many ≡ length p.rows = length-map p.rows _ in
      sym (pins_are column many cell 0 classes)
      ∙ ap (λ (c : ℕ). port_pins (port_column c (block_columns l (rows_of n p))) many cell 0 classes) (sym count)
      ∙ ap (λ (c : ℕ). port_pins (port_column (length classes) c) many cell 0 classes) (columns_are n l orderly p are)
      ∙ ap (λ (r : ℕ). port_pins (port_column (length classes) (p.width / PITCH)) r cell 0 classes) rows

  -- the pin of a port
  pub port_back : (name : Name) (q : Point) → point_of l (rows_of n p) None name ≡ Some q
      → In (tied (n.class (port name)) (length n.instances) (natural q.0) (natural q.1)) (top_pins n p)
  port_back name q e =
      subst (λ (ts : List Tied). In (tied (n.class (port name)) (length n.instances) (natural q.0) (natural q.1)) ts) tops_are
      (In-map (as_pin (length n.instances)) (n.class (port name), q) (grid_sites column many 0 (port_classes n)) (grid_back n column many 0 (signal_ports n) name q e))

  -- and the other way round
  pub port_there : (t : Tied) → In t (top_pins n p) → IsPortPin n l (rows_of n p) t.class t.pin
  port_there t h =
      let r = In-map_back (as_pin (length n.instances)) t (grid_sites column many 0 (port_classes n)) (subst (λ (ts : List Tied). In t ts) (sym tops_are) h) in
      let s = grid_there n column many 0 (r.0).0 (signal_ports n) (r.0).1 (different_filter is_signal n.ports (different_names n.ports orderly.order)) r.1 in
      record {
        name = s.0;
        place = (r.0).1;
        listed = (in_filter is_signal n.ports s.0 s.1).0;
        class_is = s.2 ∙ ap (λ (u : Tied). u.class) r.2;
        at = s.3;
        is = sym (ap (λ (u : Tied). u.pin) r.2);
      }
