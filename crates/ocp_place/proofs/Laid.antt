-- The row of a netlist in memory, instance by instance.
use Rattle.std.proofs.Common.{◌≡◌, ℕ, ◌+◌, ◌<◌, ◌≤◌, ◌^◌, List, [], ◌∷◌, ◌++◌, map, length, take, drop, Some, false, add-one, sym, ap, subst, ◌∙◌, arith}
use Rattle.std.specs.Prelude.{ℤ, pos, ◌+ℤ◌, flat_map, filter, slice_index, slice_index_or}
use Rattle.std.specs.List.{All}
use Rattle.std.proofs.lemmas.Int.{ints}
use Rattle.std.proofs.lemmas.List.{take_more, length-map, length-append, length-take-le, length-drop, map-append}
use Rattle.std.proofs.lemmas.List.Folds.{length-flat_map-take}
use Rattle.std.proofs.lemmas.Option.{slice_get_within, slice_get-get_or, get_or_from_slice_get}
use Rattle.vlsi_base.specs.declared.name.Name.{Name}
use Rattle.vlsi_base.specs.declared.name.Port.{Port}
use Rattle.machine_core.specs.Machine.{names_of}
use Rattle.sym_geom.specs.declared.grid.TheConstants.{FIRST_CELL_X}
use Rattle.cell_model.specs.Cell.{Cell, pin_ports}
use Rattle.cell_model.specs.Library.{Library, cell_of}
use Rattle.cell_model.proofs.Mapped.{usable_is_mappable}
use Rattle.vlsi_base.specs.Names.{vdd, vss, comes_before}
use Rattle.vlsi_base.specs.Member.{In, here, there}
use Rattle.cell_pins.specs.Pins.{all_ports, with_supply, supply}
use Rattle.net_drawing.proofs.Coding.{get_In}
use Rattle.cell_checks.specs.Checks.{StandsInRow}
use Rattle.cell_checks.specs.Checked.{IsChecked as HasPassed}
use Rattle.net_core.specs.declared.frame.Node.{Node}
use Rattle.net_core.specs.Places.{Stands, IsThere}
use Rattle.net_core.specs.Netlist.{Instance, Netlist as InMemory, IsNetlist, terminals, terminals_of}
use Rattle.net_core.specs.Netlist as core
use Rattle.net_core.specs.Frame.{instance_of, node_pins, AreNumbered}
use Rattle.net_core.proofs.Frames.{mapped, terminals_count}
use Rattle.net_meaning.specs.Netlist.{Member, AbstractNetlist}
use Rattle.net_right.specs.View.{IsSeenAs, member_of}
use Rattle.net_right.proofs.Terminals.{seen_instances}
use Rattle.ocp_rows.specs.Placement.{natural, model_width, width_of, row_width}
use Rattle.ocp_place.specs.declared.reach.Reach.{Reach}
use Rattle.ocp_place.specs.declared.reach.PinReach.{PinReach}
use Rattle.ocp_place.specs.declared.row.Row.{Row}
use Rattle.ocp_place.specs.Drawable.{IsDrawableIn}
use Rattle.ocp_place.specs.Nets.{driven, driven_by}
use Rattle.ocp_place.specs.Sites.{Site, own_sites, row_sites, row_starts}
use Rattle.ocp_place.specs.Reaches.{IsReach, AreReaches, site_of, spot_sites, reached_drivers}
use Rattle.ocp_place.specs.Rows.{HasShortPins, IsPutAt}
use Rattle.ocp_place.specs.Stood.{stood, stood_all, instance_widths, shown_sites, stood_sites}
use Rattle.ocp_place.proofs.Boxed.{short_pins, pins_inside}
use Rattle.ocp_place.proofs.Models.{cell_row}
use Rattle.ocp_place.proofs.Seen.{own_cell}
use Rattle.ocp_place.proofs.Put.{stood_more, sites_more, shown_are}
use Rattle.ocp_place.proofs.RowSteps.{sites_push, starts_push, driven_push, widened, HasClasses, level_sites, reached_are, drivers_are, class_there}

-- the first so many instances of a netlist, as a row has them
pub record IsRowTo (k : AbstractNetlist) (l : Library) (count : ℕ) (r : Row) : Type 0 where
  pub starts : map pos r.starts.items ≡ row_starts l (pos FIRST_CELL_X) (take count k.instances)
  pub sites : map site_of r.sites.items ≡ row_sites k l (pos FIRST_CELL_X) (take count k.instances)
  pub drivers : r.drivers.items ≡ driven k l (take count k.instances)
  pub width : pos r.width ≡ row_width l (take count k.instances)

-- and as they stand in rows
pub record ArePinsTo (k : AbstractNetlist) (l : Library) (starts rows : List ℕ) (count : ℕ) (r : Row) : Type 0 where
  pub sites : map site_of r.sites.items ≡ stood_sites k l (stood_all (take count k.instances) starts rows)
  pub drivers : r.drivers.items ≡ driven k l (take count k.instances)

middle : {A : Type 0} (xs : List A) (y : A) (ys : List A) → 1 ≤ length (xs ++ y ∷ ys)
middle xs y ys = let n = length-append xs (y ∷ ys) in omega (arith, n)

some_port : (c : Cell) → 1 ≤ length (names_of (all_ports c))
some_port c =
    let ports = with_supply vdd (pin_ports c) in
    let h = middle (filter (λ p. comes_before p.name vss) ports) (supply vss) (filter (λ p. comes_before vss p.name) ports) in
    let n = length-map (all_ports c) (λ (p : Port). p.name) in
    omega (arith, h, n)

many_pins : (nodes : List Node) → ((node : Node) → In node nodes → 1 ≤ length node.pins) → length nodes ≤ length (flat_map node_pins nodes)
many_pins [] each = omega arith
many_pins (node ∷ rest) each =
    let r = many_pins rest (λ x i. each x (there i)) in
    let h = each node here in
    let n = length-map node.pins (core.pin_of node.name) in
    let a = length-append (node_pins node) (flat_map node_pins rest) in
    omega (arith, r, h, n, a)

module _ (l : Library) (n : InMemory) (plain : HasPassed false l) (given : IsDrawableIn l n) (nodes : List Node) (seen_as : map (instance_of n.models) nodes ≡ n.instances)
    (known : All (λ (i : Node). i.model < length n.models) nodes) (numbered : AreNumbered n.ports nodes) (reaches : List Reach) (are : AreReaches l n.models reaches) where
  -- the cell of a node, and where its pins are reached
  pub record HasReach (node : Node) (r : Reach) : Type 0 where
    pub cell : Cell
    pub found : cell_of l (instance_of n.models node).model ≡ Some cell
    pub reach : IsReach cell r
    pub pins : node.pins ≡ names_of (all_ports cell)
    pub row : StandsInRow cell
    pub fits : node.first + length node.pins ≤ length n.classes

  all_terminals : length (terminals n) ≡ length n.ports + length (flat_map node_pins nodes)
  all_terminals = ap (λ (xs : List Instance). length (terminals_of n.ports xs)) (sym seen_as) ∙ terminals_count n.ports n.models nodes

  node_there : (i : ℕ) (node : Node) → Stands nodes i node → IsThere n.instances (instance_of n.models node)
  node_there i node s = (i, subst (λ (is : List Instance). Stands is i (instance_of n.models node)) seen_as (mapped (instance_of n.models) nodes i node s))

  -- each has a pin at least
  pub few_nodes : length n.classes < 2 ^ 32 → length nodes < 2 ^ 32
  few_nodes few =
      let many = many_pins nodes (λ node j.
      let at = get_In nodes node j in
      let celled = own_cell l n given (instance_of n.models node) (node_there at.0 node at.1) in
      let some = some_port celled.cell in
      let same = ap length celled.pins in
      omega (arith, some, same)) in
      let each = given.sound.each in
      let all = all_terminals in
      omega (arith, few, many, each, all)

  -- the classes of its pins are there
  pub node_fits : (i : ℕ) (node : Node) → Stands nodes i node → node.first + length node.pins ≤ length n.classes
  node_fits i node s =
      let first : node.first ≡ length n.ports + length (flat_map node_pins (take i nodes)) =
      subst (λ (x : Node). x.first ≡ length n.ports + length (flat_map node_pins (take i nodes))) (get_or_from_slice_get nodes i node node s) (numbered i node (slice_get_within nodes i node s)) in
      let own : length (flat_map node_pins (take i nodes)) + length (node_pins node) ≤ length (flat_map node_pins nodes) =
      subst (λ (x : Node). length (flat_map node_pins (take i nodes)) + length (node_pins x) ≤ length (flat_map node_pins nodes)) (get_or_from_slice_get nodes i node node s)
      (length-flat_map-take node_pins nodes i node (slice_get_within nodes i node s)) in
      let pins : length (node_pins node) ≡ length node.pins = length-map node.pins _ in
      let all = all_terminals in
      let each = given.sound.each in
      omega (arith, first, own, pins, all, each)

  pub node_reach : (i : ℕ) (node : Node) (r : Reach) → Stands nodes i node → r ≡ slice_index_or reaches node.model r → HasReach node r
  node_reach i node r s is =
      let one = instance_of n.models node in
      let stood = node_there i node s in
      let own = own_cell l n given one stood in
      let low : node.model < length n.models =
      subst (λ (x : Node). x.model < length n.models) (get_or_from_slice_get nodes i node node s) (known i node (slice_get_within nodes i node s)) in
      let stands : Stands n.models node.model one.model = slice_get-get_or n.models node.model [] low in
      let reach : IsReach own.cell r = subst (λ (x : Reach). IsReach own.cell x) (sym is) (are.each node.model one.model own.cell r stands own.found own.usable) in
      record {
        cell = own.cell;
        found = own.found;
        reach = reach;
        pins = own.pins;
        row = cell_row l one.model own.cell plain own.found (usable_is_mappable own.cell own.usable);
        fits = node_fits i node s;
      }

  -- what one more instance asks
  module _ (i : ℕ) (node : Node) (r : Reach) (s : Stands nodes i node) (has : HasReach node r) (own : List ℕ) (own_is : own ≡ take (length node.pins) (drop node.first n.classes)) where
    own_many : length own ≡ length node.pins
    own_many =
        let fits = has.fits in
        let d = length-drop node.first n.classes in
        ap length own_is ∙ length-take-le (length node.pins) (drop node.first n.classes) (omega (arith, fits, d))

    pub inside : All (λ (p : PinReach). p.place < length own) r.pins.items
    inside = pins_inside has.cell (length own) (ap length (sym has.pins) ∙ sym own_many) (pin_ports has.cell) r.pins.items has.reach.pins

    pub short : (x : ℕ) → x ≤ 80000000000000 → HasShortPins x r.pins.items
    short x low =
        let narrow = has.reach.narrow in
        short_pins has.cell x r.width has.row has.reach.width (omega (arith, low, narrow)) (pin_ports has.cell) r.pins.items has.reach.pins

    abbrev one : Member
    one = member_of (instance_of n.models node)

    stands_at : (k : AbstractNetlist) → IsSeenAs n k → Stands k.instances i one
    stands_at k seen =
        subst (λ (ms : List Member). Stands ms i one) (sym (seen_instances n k seen)) (mapped member_of n.instances i (instance_of n.models node)
        (subst (λ (is : List Instance). Stands is i (instance_of n.models node)) seen_as (mapped (instance_of n.models) nodes i node s)))

    has_classes : (k : AbstractNetlist) → IsSeenAs n k → HasClasses k one.name has.cell own
    has_classes k seen place name named =
        let pin : Stands node.pins place name = subst (λ (names : List Name). Stands names place name) (sym has.pins) named in
        sym (seen.classes.each _ (slice_index own place)
        (subst (λ (cs : List ℕ). core.HasClass n (core.pin_of node.name name) (slice_index cs place)) (sym own_is) (class_there n n.models nodes given.sound seen_as numbered i node s place name pin)))

    drivers_next : (k : AbstractNetlist) → IsSeenAs n k → reached_drivers own r.pins.items ≡ driven_by k one.name (cell_of l one.model)
    drivers_next k seen =
        drivers_are k one.name has.cell own (has_classes k seen) (pin_ports has.cell) r.pins.items has.reach.pins ∙ ap (λ o. driven_by k one.name o) (sym has.found)

    -- one more instance
    pub next : (k : AbstractNetlist) → IsSeenAs n k → (x : ℕ) (old new : Row) → x ≡ FIRST_CELL_X + old.width → IsPutAt old new r own x → IsRowTo k l i old → IsRowTo k l (i + 1) new
    next k seen x old new x_is put so_far =
        let ms = take i k.instances in
        let stands = stands_at k seen in
        let more : take (i + 1) k.instances ≡ ms ++ one ∷ [] =
        take_more k.instances i one (slice_get_within k.instances i one stands) ∙ ap (λ (m : Member). ms ++ m ∷ []) (get_or_from_slice_get k.instances i one one stands) in
        let at : pos x ≡ pos FIRST_CELL_X +ℤ row_width l ms =
        ap (λ (v : ℕ). pos v) x_is ∙ sum FIRST_CELL_X old.width ∙ ap (λ (z : ℤ). pos FIRST_CELL_X +ℤ z) so_far.width in
        let own_sites_are : spot_sites x 0 own r.pins.items ≡ own_sites k (pos FIRST_CELL_X +ℤ row_width l ms) one.name (cell_of l one.model) =
        level_sites x own r.pins.items
        ∙ reached_are k (pos x) one.name has.cell own (has_classes k seen) (pin_ports has.cell) r.pins.items has.reach.pins
        ∙ ap (λ (z : ℤ). own_sites k z one.name (Some has.cell)) at
        ∙ ap (λ o. own_sites k (pos FIRST_CELL_X +ℤ row_width l ms) one.name o) (sym has.found) in
        record {
          starts = ap (map pos) put.starts ∙ map-append pos old.starts.items (x ∷ []) ∙ ap (λ (zs : List ℤ). zs ++ pos x ∷ []) so_far.starts
              ∙ ap (λ (z : ℤ). row_starts l (pos FIRST_CELL_X) ms ++ z ∷ []) at ∙ sym (starts_push l (pos FIRST_CELL_X) ms one) ∙ ap (row_starts l (pos FIRST_CELL_X)) (sym more);
          sites = put.sites ∙ ap (λ (ss : List Site). ss ++ spot_sites x 0 own r.pins.items) so_far.sites
              ∙ ap (λ (ss : List Site). row_sites k l (pos FIRST_CELL_X) ms ++ ss) own_sites_are ∙ sym (sites_push k l (pos FIRST_CELL_X) ms one)
              ∙ ap (row_sites k l (pos FIRST_CELL_X)) (sym more);
          drivers = put.drivers ∙ ap (λ (ks : List ℕ). ks ++ reached_drivers own r.pins.items) so_far.drivers
              ∙ ap (λ (ks : List ℕ). driven k l ms ++ ks) (drivers_next k seen) ∙ sym (driven_push k l ms one) ∙ ap (driven k l) (sym more);
          width = ap (λ (v : ℕ). pos v) put.width ∙ widened l ms one old.width r.width so_far.width (has.reach.width ∙ ap width_of (sym has.found)) ∙ ap (row_width l) (sym more);
        }
      where
        sum : (a b : ℕ) → pos (a + b) ≡ pos a +ℤ pos b
        sum a b = omega (arith, ints)

    -- how wide it is
    pub next_width : (k : AbstractNetlist) → IsSeenAs n k → instance_widths l (take (i + 1) k.instances) ≡ instance_widths l (take i k.instances) ++ r.width ∷ []
    next_width k seen =
        let stands = stands_at k seen in
        let more : take (i + 1) k.instances ≡ take i k.instances ++ one ∷ [] =
        take_more k.instances i one (slice_get_within k.instances i one stands) ∙ ap (λ (m : Member). take i k.instances ++ m ∷ []) (get_or_from_slice_get k.instances i one one stands) in
        ap (instance_widths l) more ∙ map-append (λ (m : Member). natural (model_width l m.model)) (take i k.instances) (one ∷ [])
        ∙ ap (λ (w : ℕ). instance_widths l (take i k.instances) ++ w ∷ []) (ap (λ o. natural (width_of o)) has.found ∙ ap natural (sym has.reach.width))

    -- one more instance where it stands in rows
    pub next_on : (k : AbstractNetlist) → IsSeenAs n k → (starts rows : List ℕ) → i < length starts → i < length rows → (old new : Row)
        → map site_of new.sites.items ≡ map site_of old.sites.items ++ spot_sites (slice_index starts i) (slice_index rows i) own r.pins.items
        → new.drivers.items ≡ old.drivers.items ++ reached_drivers own r.pins.items → ArePinsTo k l starts rows i old → ArePinsTo k l starts rows (i + 1) new
    next_on k seen starts rows low high old new sites drivers so_far =
        let ms = take i k.instances in
        let stands = stands_at k seen in
        let more : take (i + 1) k.instances ≡ ms ++ one ∷ [] =
        take_more k.instances i one (slice_get_within k.instances i one stands) ∙ ap (λ (m : Member). ms ++ m ∷ []) (get_or_from_slice_get k.instances i one one stands) in
        let spot = stood one (slice_index starts i) (slice_index rows i) in
        let own_are : spot_sites (slice_index starts i) (slice_index rows i) own r.pins.items ≡ shown_sites k spot (cell_of l one.model) =
        shown_are k one has.cell (slice_index starts i) (slice_index rows i) has.row own (has_classes k seen) (pin_ports has.cell) r.pins.items has.reach.pins
        ∙ ap (shown_sites k spot) (sym has.found) in
        let stand : stood_all (take (i + 1) k.instances) starts rows ≡ stood_all ms starts rows ++ spot ∷ [] =
        ap (λ (j : ℕ). stood_all (take j k.instances) starts rows) (add-one i) ∙ stood_more k.instances starts rows i one stands low high in
        record {
          sites = sites ∙ ap (λ (ss : List Site). ss ++ spot_sites (slice_index starts i) (slice_index rows i) own r.pins.items) so_far.sites
              ∙ ap (λ (ss : List Site). stood_sites k l (stood_all ms starts rows) ++ ss) own_are
              ∙ sym (sites_more k l (stood_all ms starts rows) spot) ∙ ap (stood_sites k l) (sym stand);
          drivers = drivers ∙ ap (λ (ks : List ℕ). ks ++ reached_drivers own r.pins.items) so_far.drivers
              ∙ ap (λ (ks : List ℕ). driven k l ms ++ ks) (drivers_next k seen) ∙ sym (driven_push k l ms one) ∙ ap (driven k l) (sym more);
        }
