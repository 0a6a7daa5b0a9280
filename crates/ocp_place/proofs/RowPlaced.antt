-- The placement of a netlist in rows.
use Rattle.std.proofs.Common.{◌≡◌, false, ℕ, ◌+◌, ◌*◌, ◌/◌, ◌≤◌, List, ◌++◌, map, length, max, refl, sym, ap, ap₂, subst, ◌∙◌, arith}
use Rattle.std.specs.Prelude.{pos, ℤ, flat_map, IsPermutation}
use Rattle.std.specs.Int.{int_max}
use Rattle.std.specs.Global.{Vec}
use Rattle.std.proofs.lemmas.Int.{ints, int_max_is}
use Rattle.std.proofs.lemmas.List.{length-map}
use Rattle.vlsi_base.specs.declared.name.Name.{Name}
use Rattle.sym_geom.specs.declared.grid.TheConstants.{PITCH}
use Rattle.cell_model.specs.Library.{Library}
use Rattle.cell_checks.specs.Checked.{IsChecked as HasPassed}
use Rattle.net_core.specs.Netlist.{Netlist as InMemory}
use Rattle.net_meaning.specs.Netlist.{AbstractNetlist, port}
use Rattle.net_right.specs.View.{IsSeenAs, member_of}
use Rattle.net_right.proofs.Terminals.{seen_instances}
use Rattle.ocp_rows.specs.Placement.{rows_width}
use Rattle.row_meaning.specs.First.{numbers}
use Rattle.ocp_place.specs.declared.row.Site.{Site as Placed}
use Rattle.ocp_place.specs.declared.rows.Standing.{Standing}
use Rattle.ocp_place.specs.declared.place.PortClasses.{PortClasses}
use Rattle.ocp_place.specs.Drawable.{IsDrawableIn}
use Rattle.ocp_place.specs.Nets.{signal_ports, port_classes}
use Rattle.ocp_place.specs.Ports.{IsSplit, in_row}
use Rattle.ocp_place.specs.Placed.{AreRowsOf, IsRowPlacementOf}
use Rattle.ocp_place.specs.Reaches.{site_of}
use Rattle.ocp_place.specs.Rows.{AreEnds}
use Rattle.ocp_place.specs.Sites.{Site}
use Rattle.ocp_place.specs.Standing.{IsStanding}
use Rattle.ocp_place.specs.Stood.{named_rows, stood_all, stood_sites, port_grid_sites}
use Rattle.ocp_place.proofs.Rowed.{signals_of, high_of, low_of, ends_of, ends_many}

-- a block over rows is as wide as they are, and as its ports need
wide_is : (widest ports : ℕ) (rows : ℤ) → pos widest ≡ rows → pos (max widest (PITCH * (ports + 1))) ≡ int_max rows (pos (PITCH * (ports + 1)))
wide_is widest ports rows e = let m = int_max_is (pos widest) (pos (PITCH * (ports + 1))) in
    (let f : pos (max widest (PITCH * (ports + 1))) ≡ int_max (pos widest) (pos (PITCH * (ports + 1))) = omega (arith, ints) in f) ∙ ap (λ (z : ℤ). int_max z (pos (PITCH * (ports + 1)))) e

module _ (l : Library) (n : InMemory) (passed : HasPassed false l) (given : IsDrawableIn l n) (split : PortClasses) (is : IsSplit n.ports n.classes split)
    (rows : List (Vec ℕ)) (s : Standing) (are : (k : AbstractNetlist) → IsSeenAs n k → IsStanding k l (map (λ v. v.items) rows) s)
    (once : IsPermutation (flat_map (λ row. row) (map (λ v. v.items) rows)) (numbers 0 (length n.instances))) (some : 1 ≤ length rows) (few : length rows ≤ 256)
    (width : ℕ) (width_is : width ≡ max s.width (PITCH * (length split.signals.items + 1)))
    (all : List Placed) (all_is : map site_of all ≡ port_grid_sites (width / PITCH) (length rows) split.signals.items ++ map site_of s.sites.items)
    (ends : List (Vec Placed)) (many : length ends ≡ n.count) (groups : AreEnds all ends) where
  seen_rows : (k : AbstractNetlist) → IsSeenAs n k
      → AreRowsOf k l (in_row split.signals.items s.drivers.items ends s.spots.starts.items width split.high split.low false rows s.spots.row_numbers.items)
  seen_rows k seen =
      let r = are k seen in
      let signals = signals_of l n passed given split is k seen in
      let same : length n.instances ≡ length k.instances = sym (ap length (seen_instances n k seen) ∙ length-map n.instances member_of) in
      let count : length (map (λ v. v.items) rows) ≡ length rows = length-map rows (λ (v : Vec ℕ). v.items) in
      let names : length split.signals.items ≡ length (signal_ports k) = ap length signals ∙ length-map (signal_ports k) (λ (name : Name). k.class (port name)) in
      let sites : map site_of all ≡ port_grid_sites (width / PITCH) (length (map (λ v. v.items) rows)) (port_classes k) ++ stood_sites k l (stood_all k.instances s.spots.starts.items s.spots.row_numbers.items) =
      all_is
      ∙ ap (λ (ss : List Site). port_grid_sites (width / PITCH) (length rows) split.signals.items ++ ss) r.sites
      ∙ ap₂ (λ (m : ℕ) (cs : List ℕ). port_grid_sites (width / PITCH) m cs ++ stood_sites k l (stood_all k.instances s.spots.starts.items s.spots.row_numbers.items)) (sym count) signals in
      record {
        no_tracks = refl;
        some = omega arith;
        few = omega arith;
        each_once = subst (λ (m : ℕ). IsPermutation (flat_map (λ row. row) (map (λ v. v.items) rows)) (numbers 0 m)) same once;
        starts = r.starts;
        row_numbers = r.row_numbers;
        stands = r.stands;
        width = ap pos (width_is ∙ ap (λ (m : ℕ). max s.width (PITCH * (m + 1))) names) ∙ wide_is s.width (length (signal_ports k)) (rows_width l (named_rows k.instances (map (λ v. v.items) rows))) r.width;
        ports = signals;
        drivers = r.drivers;
        many = ends_many l n passed given ends many k seen;
        ends = λ class d low. ends_of l n passed given all _ sites ends many groups k seen class d low;
        high = high_of l n passed given split is k seen;
        low = low_of l n passed given split is k seen;
      }

  pub placed_rows : IsRowPlacementOf l n (in_row split.signals.items s.drivers.items ends s.spots.starts.items width split.high split.low false rows s.spots.row_numbers.items)
  placed_rows = record { passed = passed; drawable = given; rows = seen_rows }
