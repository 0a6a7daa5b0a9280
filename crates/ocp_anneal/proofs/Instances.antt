-- The pins of a netlist's instances, instance by instance.
use Rattle.std.proofs.Common.{◌≡◌, false, ℕ, suc, ◌+◌, ◌<◌, ◌^◌, List, [], ◌∷◌, ◌++◌, map, length, take, drop, Option, None, Some, refl, sym, ap, subst, ◌∙◌, arith, append-nil, append_assoc, flat_map, slice_index}
use Rattle.std.specs.Prelude.{option_map}
use Rattle.std.specs.List.{All}
use Rattle.std.proofs.lemmas.List.{take_more, length-map, length-take, length-take-le}
use Rattle.std.proofs.lemmas.Option.{slice_get_within, get_or_from_slice_get}
use Rattle.vlsi_base.specs.declared.name.Name.{Name}
use Rattle.vlsi_base.specs.declared.name.Port.{Port}
use Rattle.machine_core.specs.Machine.{names_of}
use Rattle.cell_model.specs.Access.{Point, access_point}
use Rattle.cell_model.specs.Cell.{Cell, pin_ports}
use Rattle.cell_model.specs.Library.{Library, cell_of}
use Rattle.cell_checks.specs.Checked.{IsChecked as HasPassed}
use Rattle.cell_checks.specs.Points.{point_of}
use Rattle.cell_checks.specs.declared.points.GridPoint.{GridPoint}
use Rattle.net_core.specs.declared.frame.Node.{Node}
use Rattle.net_core.specs.Places.{Stands}
use Rattle.net_core.specs.Netlist.{Instance, Netlist as InMemory}
use Rattle.net_core.specs.Netlist as core
use Rattle.net_core.specs.Frame.{instance_of, AreNumbered}
use Rattle.net_core.proofs.Frames.{mapped}
use Rattle.net_meaning.specs.Netlist.{Member, AbstractNetlist, pin_of}
use Rattle.net_right.specs.View.{IsSeenAs, member_of}
use Rattle.net_right.proofs.Terminals.{seen_instances}
use Rattle.ocp_place.specs.declared.reach.Reach.{Reach}
use Rattle.ocp_place.specs.declared.reach.PinReach.{PinReach}
use Rattle.ocp_rows.specs.Placement.{natural, model_width}
use Rattle.ocp_place.specs.Drawable.{IsDrawableIn}
use Rattle.ocp_place.specs.Stood.{instance_widths}
use Rattle.ocp_place.specs.Reaches.{AreReaches, ArePinReaches, no_pins, one_pin}
use Rattle.ocp_place.proofs.Laid.{HasReach}
use Rattle.ocp_place.proofs.RowSteps.{HasClasses, class_there}
use Rattle.ocp_anneal.specs.declared.cells.Tied.{Tied}
use Rattle.ocp_anneal.specs.Cells.{reached_pin, reached_pins, point_pin, own_pins, cell_pins}

-- one more instance
pub pins_push : (n : AbstractNetlist) (l : Library) (i : ℕ) (ms : List Member) (one : Member)
    → cell_pins n l i (ms ++ one ∷ []) ≡ cell_pins n l i ms ++ own_pins n (i + length ms) one.name (cell_of l one.model)
pins_push n l i [] one =
    append-nil (own_pins n i one.name (cell_of l one.model)) ∙ ap (λ (j : ℕ). own_pins n j one.name (cell_of l one.model)) (let e : i ≡ i + 0 = omega arith in e)
pins_push n l i (m ∷ ms) one =
    let own = own_pins n i m.name (cell_of l m.model) in
    ap (λ (ts : List Tied). own ++ ts) (pins_push n l (suc i) ms one)
    ∙ ap (λ (j : ℕ). own ++ (cell_pins n l (suc i) ms ++ own_pins n j one.name (cell_of l one.model))) (let e : suc i + length ms ≡ i + length (m ∷ ms) = omega arith in e)
    ∙ sym (append_assoc own (cell_pins n l (suc i) ms) (own_pins n (i + length (m ∷ ms)) one.name (cell_of l one.model)))

shown : (i class : ℕ) (o : Option GridPoint) → reached_pin i class o ≡ point_pin i class (option_map point_of o)
shown i class None = refl
shown i class (Some q) = refl

-- the pins that are reached are those of the cell
pub reached_own : (n : AbstractNetlist) (i : ℕ) (owner : List ℕ) (c : Cell) (classes : List ℕ) → HasClasses n owner c classes → (ports : List Port) (pins : List PinReach) → ArePinReaches c ports pins
    → reached_pins i classes pins ≡ flat_map (λ pin. point_pin i (n.class (pin_of owner pin)) (access_point c pin)) (names_of ports)
reached_own n i owner c classes has [] [] no_pins = refl
reached_own n i owner c classes has [] (r ∷ pins) are = elim are [ ]
reached_own n i owner c classes has (p ∷ ports) [] are = elim are [ ]
reached_own n i owner c classes has (p ∷ ports) (r ∷ pins) (one_pin is rest) =
    ap (λ (k : ℕ). reached_pin i k r.point ++ reached_pins i classes pins) (has r.place p.name is.place)
    ∙ ap (λ (ts : List Tied). ts ++ reached_pins i classes pins) (shown i (n.class (pin_of owner p.name)) r.point)
    ∙ ap (λ (o : Option Point). point_pin i (n.class (pin_of owner p.name)) o ++ reached_pins i classes pins) is.point
    ∙ ap (λ (ts : List Tied). point_pin i (n.class (pin_of owner p.name)) (access_point c p.name) ++ ts) (reached_own n i owner c classes has ports pins rest)

module _ (l : Library) (n : InMemory) (plain : HasPassed false l) (given : IsDrawableIn l n) (nodes : List Node) (seen_as : map (instance_of n.models) nodes ≡ n.instances)
    (known : All (λ (i : Node). i.model < length n.models) nodes) (numbered : AreNumbered n.ports nodes) (reaches : List Reach) (are : AreReaches l n.models reaches)
    (i : ℕ) (node : Node) (r : Reach) (s : Stands nodes i node) (has : HasReach l n plain given nodes seen_as known numbered reaches are node r)
    (own : List ℕ) (own_is : own ≡ take (length node.pins) (drop node.first n.classes)) (k : AbstractNetlist) (seen : IsSeenAs n k) where
  abbrev one : Member
  one = member_of (instance_of n.models node)

  stands_at : Stands k.instances i one
  stands_at =
      subst (λ (ms : List Member). Stands ms i one) (sym (seen_instances n k seen)) (mapped member_of n.instances i (instance_of n.models node)
      (subst (λ (is : List Instance). Stands is i (instance_of n.models node)) seen_as (mapped (instance_of n.models) nodes i node s)))

  has_classes : HasClasses k one.name has.cell own
  has_classes place name named =
      let pin : Stands node.pins place name = subst (λ (names : List Name). Stands names place name) (sym has.pins) named in
      sym (seen.classes.each _ (slice_index own place)
      (subst (λ (cs : List ℕ). core.HasClass n (core.pin_of node.name name) (slice_index cs place)) (sym own_is) (class_there n n.models nodes given.sound seen_as numbered i node s place name pin)))

  -- the pins of one more instance
  pub next_pins : cell_pins k l 0 (take i k.instances) ++ reached_pins i own r.pins.items ≡ cell_pins k l 0 (take (i + 1) k.instances)
  next_pins =
      let ms = take i k.instances in
      let low = slice_get_within k.instances i one stands_at in
      let more : take (i + 1) k.instances ≡ ms ++ one ∷ [] =
      take_more k.instances i one low ∙ ap (λ (m : Member). ms ++ m ∷ []) (get_or_from_slice_get k.instances i one one stands_at) in
      let many : 0 + length ms ≡ i = (let e = length-take-le i k.instances (omega arith) in omega arith) in
      sym (ap (cell_pins k l 0) more ∙ pins_push k l 0 ms one
      ∙ ap (λ (j : ℕ). cell_pins k l 0 ms ++ own_pins k j one.name (cell_of l one.model)) many
      ∙ ap (λ (o : Option Cell). cell_pins k l 0 ms ++ own_pins k i one.name o) has.found
      ∙ ap (λ (ts : List Tied). cell_pins k l 0 ms ++ ts) (sym (reached_own k i one.name has.cell own has_classes (pin_ports has.cell) r.pins.items has.reach.pins)))

-- as many widths as instances
pub few_widths : (n : InMemory) (k : AbstractNetlist) → IsSeenAs n k → (l : Library) (widths : List ℕ) (i : ℕ) → widths ≡ instance_widths l (take i k.instances) → length n.instances < 2 ^ 32 → length widths < 2 ^ 32
few_widths n k seen l widths i is few =
    let a = ap length is in
    let b = length-map (take i k.instances) (λ (m : Member). natural (model_width l m.model)) in
    let d = length-take i k.instances in
    let e = ap length (seen_instances n k seen) in
    let f = length-map n.instances member_of in
    omega arith
