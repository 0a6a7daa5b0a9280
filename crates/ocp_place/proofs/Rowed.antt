-- The placement of a netlist's row.
use Rattle.std.proofs.Common.{◌≡◌, true, false, ℕ, ◌<◌, ◌≤◌, List, ◌++◌, map, filter, length, get_or, sym, ap, subst, ◌∙◌, arith, length-append, refl}
use Rattle.std.specs.Prelude.{flat_map}
use Rattle.std.specs.Global.{Vec}
use Rattle.std.proofs.lemmas.List.{length-map}
use Rattle.std.proofs.lemmas.Option.{get_or_from_slice_get}
use Rattle.vlsi_base.specs.declared.name.Name.{Name}
use Rattle.vlsi_base.specs.declared.name.Port.{Port}
use Rattle.vlsi_base.specs.Names.{vdd, vss}
use Rattle.vlsi_base.specs.Member.{In}
use Rattle.cell_model.specs.Library.{Library}
use Rattle.cell_model.specs.Access.{Point}
use Rattle.cell_checks.specs.Checked.{IsChecked as HasPassed}
use Rattle.net_core.specs.Places.{Stands}
use Rattle.net_core.specs.Netlist.{Netlist as InMemory}
use Rattle.net_core.specs.Netlist as core
use Rattle.net_core.proofs.Frames.{mapped}
use Rattle.net_core.proofs.Rings.{at_place}
use Rattle.net_core.proofs.Standing.{stands_left}
use Rattle.net_meaning.specs.Netlist.{AbstractNetlist, port}
use Rattle.net_right.specs.View.{IsSeenAs}
use Rattle.net_right.proofs.Terminals.{seen_ports}
use Rattle.ocp_place.specs.declared.row.Site.{Site as Placed}
use Rattle.ocp_place.specs.declared.row.Row.{Row}
use Rattle.ocp_place.specs.declared.place.PortClasses.{PortClasses}
use Rattle.ocp_place.specs.Drawable.{IsDrawableIn}
use Rattle.ocp_place.specs.Nets.{is_signal, port_classes}
use Rattle.ocp_place.specs.Ports.{IsSplit, in_row, points_of}
use Rattle.ocp_place.specs.Placed.{IsRowOf, IsPlacementOf}
use Rattle.ocp_place.specs.Reaches.{site_of}
use Rattle.ocp_place.specs.Rows.{IsRow, AreEnds}
use Rattle.ocp_place.specs.Sites.{Site, pin_sites, port_sites, points_in}
use Rattle.ocp_place.proofs.Groups.{group_points, signals_are, named_is}
use Rattle.ocp_place.proofs.Lists.{different_names}
use Rattle.ocp_place.proofs.Seen.{orderly}

module _ (l : Library) (n : InMemory) (passed : HasPassed false l) (given : IsDrawableIn l n) where
  ports_many : length n.ports ≤ length n.classes
  ports_many =
      let each = given.sound.each in
      let ports = length-map n.ports (λ (p : Port). core.port p.name) in
      let whole = length-append (map (λ p. core.port p.name) n.ports) (flat_map core.pins_of n.instances) in
      omega (arith, each, ports, whole)

  -- a port has the class at its place
  class_of : (k : AbstractNetlist) → IsSeenAs n k → (j : ℕ) (p : Port) (c : ℕ) → Stands n.ports j p → Stands n.classes j c → k.class (port p.name) ≡ c
  class_of k seen j p c s t =
      seen.classes.each (port p.name) c (j, stands_left (map (λ q. core.port q.name) n.ports) (flat_map core.pins_of n.instances) j (port p.name) (mapped (λ (q : Port). core.port q.name) n.ports j p s), t)

  -- the classes of the ports but for the supplies
  pub signals_of : (split : PortClasses) → IsSplit n.ports n.classes split → (k : AbstractNetlist) → IsSeenAs n k → split.signals.items ≡ port_classes k
  signals_of split is k seen =
      let f : Name → ℕ = λ name. k.class (port name) in
      is.signals ∙ signals_are f n.ports n.classes ports_many (class_of k seen) ∙ ap (λ (names : List Name). map f (filter is_signal names)) (sym (seen_ports n k seen))

  has : (k : AbstractNetlist) → IsSeenAs n k → (name : Name) → In name k.ports → In name (map (λ p. p.name) n.ports)
  has k seen name i = subst (λ (names : List Name). In name names) (seen_ports n k seen) i

  -- and those of the supplies
  pub high_of : (split : PortClasses) → IsSplit n.ports n.classes split → (k : AbstractNetlist) → IsSeenAs n k → split.high ≡ k.class (port vdd)
  high_of split is k seen =
      is.high ∙ named_is (λ name. k.class (port name)) vdd 0 n.ports n.classes ports_many (different_names (map (λ p. p.name) n.ports) given.sound.ports)
      (has k seen vdd (orderly l n passed given k seen).has_vdd) (class_of k seen)

  pub low_of : (split : PortClasses) → IsSplit n.ports n.classes split → (k : AbstractNetlist) → IsSeenAs n k → split.low ≡ k.class (port vss)
  low_of split is k seen =
      is.low ∙ named_is (λ name. k.class (port name)) vss 0 n.ports n.classes ports_many (different_names (map (λ p. p.name) n.ports) given.sound.ports)
      (has k seen vss (orderly l n passed given k seen).has_vss) (class_of k seen)

  -- the points of each class, where all points are those of these sites
  pub ends_of : (all : List Placed) (sites : List Site) → map site_of all ≡ sites → (ends : List (Vec Placed)) → length ends ≡ n.count → AreEnds all ends
      → (k : AbstractNetlist) → IsSeenAs n k → (class : ℕ) (d : List Point) → class < k.classes → get_or (map points_of ends) class d ≡ points_in class sites
  ends_of all sites all_is ends many groups k seen class d low =
      let under : class < length ends = let e = ap (λ (x : AbstractNetlist). x.classes) seen.is in omega (arith, low, e, many) in
      let x = at_place ends class under in
      get_or_from_slice_get (map points_of ends) class (points_of x.0) d (mapped points_of ends class x.0 x.1)
      ∙ ap points_of (sym (get_or_from_slice_get ends class x.0 x.0 x.1))
      ∙ ap (map (λ s. (site_of s).1)) (groups.each class x.0 under)
      ∙ group_points class all
      ∙ ap (points_in class) all_is

  pub ends_many : (ends : List (Vec Placed)) → length ends ≡ n.count → (k : AbstractNetlist) → IsSeenAs n k → length (map points_of ends) ≡ k.classes
  ends_many ends many k seen = length-map ends points_of ∙ many ∙ sym (ap (λ (x : AbstractNetlist). x.classes) seen.is)

-- what placing comes to: the classes of ports, the row, and all points by their classes
pub placed_row : (l : Library) (n : InMemory) → HasPassed false l → IsDrawableIn l n → (split : PortClasses) → IsSplit n.ports n.classes split
    → (row : Row) → ((k : AbstractNetlist) → IsSeenAs n k → IsRow k l row) → (all : List Placed) → map site_of all ≡ port_sites 0 split.signals.items ++ map site_of row.sites.items
    → (ends : List (Vec Placed)) → length ends ≡ n.count → AreEnds all ends → (rows : List (Vec ℕ)) (numbers : List ℕ)
    → IsPlacementOf l n (in_row split.signals.items row.drivers.items ends row.starts.items row.width split.high split.low true rows numbers)
placed_row l n passed given split is row are all all_is ends many groups rows numbers = record { passed = passed; drawable = given; row = seen_row } where
  seen_row : (k : AbstractNetlist) → IsSeenAs n k → IsRowOf k l (in_row split.signals.items row.drivers.items ends row.starts.items row.width split.high split.low true rows numbers)
  seen_row k seen =
      let r = are k seen in
      let signals = signals_of l n passed given split is k seen in
      let sites = all_is ∙ ap (λ (ss : List Site). port_sites 0 split.signals.items ++ ss) r.sites ∙ ap (λ (cs : List ℕ). port_sites 0 cs ++ pin_sites k l) signals in
      record {
        for_tracks = refl;
        ports = signals;
        drivers = r.drivers;
        many = ends_many l n passed given ends many k seen;
        ends = λ class d low. ends_of l n passed given all (port_sites 0 (port_classes k) ++ pin_sites k l) sites ends many groups k seen class d low;
        starts = r.starts;
        width = r.width;
        high = high_of l n passed given split is k seen;
        low = low_of l n passed given split is k seen;
      }
