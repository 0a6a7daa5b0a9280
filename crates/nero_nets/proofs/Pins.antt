-- The terminals of a net, as they are read off a netlist in memory.
use Rattle.std.proofs.Common.{◌≡◌, ◌≢◌, ◌⊎◌, inl, inr, ℕ, zero, suc, ◌+◌, ◌<◌, ◌≤◌, nat_eq, nat_lt, Bool, true, false, cond, not, if◌then◌else◌, ◌&&◌, List, [], ◌∷◌, ◌++◌, map, filter, length, take, drop, slice_index, Option, Some, None, refl, sym, ap, subst, ◌∙◌, arith, eq-eqb, append-nil, append_assoc}
use Rattle.std.specs.Prelude.{flat_map, slice_get}
use Rattle.std.specs.Ordering.{is_lt, ordering_reverse}
use Rattle.std.specs.declared.cmp.Ordering.{Ordering}
use Rattle.std.specs.declared.cmp.Ordering.TheVariants.{Less, Equal, Greater}
use Rattle.std.proofs.lemmas.Bool.{eqb-true, cond-true, cond-false}
use Rattle.std.proofs.lemmas.Bool.Decides.{nat_tests}
use Rattle.std.proofs.lemmas.List.{take_more, length-map, length-append, length-take-le, length-drop}
use Rattle.std.proofs.lemmas.List.Folds.{length-flat_map-take}
use Rattle.std.proofs.lemmas.Grind.{flat_map-append}
use Rattle.std.proofs.lemmas.Option.{slice_get_within, get_or_from_slice_get}
use Rattle.std.proofs.lemmas.List.Elements.{filter-append}
use mathlib.Core.Path.{fun_ext}
use Rattle.vlsi_base.specs.declared.name.Name.{Name}
use Rattle.vlsi_base.specs.declared.name.Port.{Port}
use Rattle.vlsi_base.specs.declared.name.Terminal.{Terminal}
use Rattle.vlsi_base.specs.Name.{name_cmp}
use Rattle.vlsi_base.specs.Names.{vdd, vss, comes_before}
use Rattle.vlsi_base.specs.Member.{In, here, there, AllDifferent}
use Rattle.vlsi_base.proofs.NameOrder.{name_total, name_exact}
use Rattle.machine_core.specs.Machine.{names_of}
use Rattle.sym_geom.specs.declared.item.Instance.{Instance}
use Rattle.cell_model.specs.Access.{Point}
use Rattle.cell_model.specs.Cell.{Cell, pin_ports}
use Rattle.cell_model.specs.Library.{Library, cell_of}
use Rattle.cell_model.specs.Usable.{IsFormed}
use Rattle.cell_model.proofs.Members.{All-In, In-map}
use Rattle.cell_checks.specs.Checked.{IsChecked as HasPassed}
use Rattle.cell_pins.specs.Pins.{supply, with_supply, all_ports}
use Rattle.cell_pins.proofs.Ports.{before_trans, before_itself, Sorted, sorted_of, sorted_supply, with_cases}
use Rattle.net_core.specs.declared.frame.Node.{Node as Standing}
use Rattle.net_core.specs.Netlist.{Instance as Held, Netlist as InMemory, IsNetlist, HasClass, terminals, terminals_of}
use Rattle.net_core.specs.Frame.{instance_of, node_pins, AreNumbered}
use Rattle.net_core.proofs.Frames.{mapped, terminals_count}
use Rattle.net_core.proofs.Rings.{at_place}
use Rattle.net_core.specs.Places.{Stands}
use Rattle.net_meaning.specs.Netlist.{Member, AbstractNetlist, pin_of}
use Rattle.net_right.specs.View.{member_of, IsSeenAs}
use Rattle.net_right.proofs.Lists.{in_place}
use Rattle.net_right.proofs.Models.{named_cell}
use Rattle.net_right.proofs.Ports.{supplies_differ}
use Rattle.net_right.proofs.Terminals.{seen_ports, seen_instances}
use Rattle.net_drawing.specs.Drawing.{Numbering, on_net}
use Rattle.net_drawing.proofs.Coding.{In_get}
use Rattle.ocp_rows.specs.Placement.{Placement, net_count}
use Rattle.ocp_rows.specs.Length.{instance_point}
use Rattle.ocp_place.specs.Drawable.{IsDrawableIn}
use Rattle.ocp_place.specs.Nets.{is_signal, signal_ports, driven, is_among, place_among, net_classes, net_number}
use Rattle.ocp_place.specs.Placed.{InRow, AreRowsOf, IsRowPlacementOf, rows_of, stood_in}
use Rattle.ocp_place.proofs.Classes.{known, known_seen}
use Rattle.ocp_place.proofs.Seen.{own_cell, orderly}
use Rattle.ocp_place.proofs.RowSteps.{class_there}
use Rattle.ocp_place.proofs.RowSited.{stood_listed}
use Rattle.nero_tracks.proofs.Drivers.{signal_true, nets_differ}
use Rattle.nero_tracks.proofs.Numbered.{nets_are_counted}
use Rattle.grid_core.specs.declared.grid.Node.{Node}
use Rattle.maze_drawing.specs.Points.{node_at, signal_names, pin_nodes, instance_nodes, terminal_nodes, port_node, port_nodes, net_nodes}
use Rattle.nero_nets.specs.Routed.{port_terminals, instance_terminals, net_terminals}
use Rattle.nero_nets.specs.Terminals.{signals_among, pin_if, is_wanted, class_pins, pins_in}

-- ---- pins that are no supplies

and_true : (b : Bool) → (b && true) ≡ b
and_true true = refl
and_true false = refl

and_false : (b : Bool) → (b && false) ≡ false
and_false true = refl
and_false false = refl

-- those that pass a test
abbrev tested : (Name → Bool) → List ℕ → List Name → List Terminal
tested test owner pins = flat_map (λ pin. pin_if (test pin) owner pin) pins

flat_kept : (test : Name → Bool) (owner : List ℕ) (pins : List Name) → tested (λ pin. test pin && is_signal pin) owner pins ≡ tested test owner (filter is_signal pins)
flat_kept test owner [] = refl
flat_kept test owner (pin ∷ pins) = by (is_signal pin) (flat_kept test owner pins) where
  by : (s : Bool) → tested (λ pin. test pin && is_signal pin) owner pins ≡ tested test owner (filter is_signal pins)
      → pin_if (test pin && s) owner pin ++ tested (λ pin. test pin && is_signal pin) owner pins ≡ tested test owner (cond s (pin ∷ filter is_signal pins) (filter is_signal pins))
  by true rest =
      ap (λ b. pin_if b owner pin ++ tested (λ pin. test pin && is_signal pin) owner pins) (and_true (test pin)) ∙ ap (λ ts. pin_if (test pin) owner pin ++ ts) rest
  by false rest = ap (λ b. pin_if b owner pin ++ tested (λ pin. test pin && is_signal pin) owner pins) (and_false (test pin)) ∙ rest

names_kept : (ps : List Port) → filter is_signal (names_of ps) ≡ names_of (filter (λ p. is_signal p.name) ps)
names_kept [] = refl
names_kept (p ∷ ps) = by (is_signal p.name) (names_kept ps) where
  by : (b : Bool) → filter is_signal (names_of ps) ≡ names_of (filter (λ q. is_signal q.name) ps)
      → cond b (p.name ∷ filter is_signal (names_of ps)) (filter is_signal (names_of ps)) ≡ names_of (cond b (p ∷ filter (λ q. is_signal q.name) ps) (filter (λ q. is_signal q.name) ps))
  by true rest = ap (λ ns. p.name ∷ ns) rest
  by false rest = rest

pub all_kept : {A : Type 0} (t : A → Bool) (xs : List A) → ((x : A) → In x xs → t x ≡ true) → filter t xs ≡ xs
all_kept t [] each = refl
all_kept t (x ∷ xs) each = cond-true (t x) (x ∷ filter t xs) (filter t xs) (each x here) ∙ ap (λ ys. x ∷ ys) (all_kept t xs (λ y i. each y (there i)))

none_kept : {A : Type 0} (t : A → Bool) (xs : List A) → ((x : A) → In x xs → t x ≡ false) → filter t xs ≡ []
none_kept t [] each = refl
none_kept t (x ∷ xs) each = cond-false (t x) (x ∷ filter t xs) (filter t xs) (each x here) ∙ none_kept t xs (λ y i. each y (there i))

-- of two names that differ one comes first
either_side : (a b : Name) → a ≢ b → (comes_before a b ≡ true) ⊎ (comes_before b a ≡ true)
either_side a b apart = by (name_cmp a b) refl where
  by : (o : Ordering) → name_cmp a b ≡ o → (comes_before a b ≡ true) ⊎ (comes_before b a ≡ true)
  by Less e = inl (ap is_lt e)
  by Equal e = absurd (apart (name_exact a b e))
  by Greater e =
      let turned : name_cmp b a ≡ Less = name_total.antisymm b a ∙ ap ordering_reverse e in inr (ap is_lt turned)

not_both : (a b : Name) → comes_before a b ≡ true → comes_before b a ≡ false
not_both a b h = by (comes_before b a) refl where
  by : (t : Bool) → comes_before b a ≡ t → comes_before b a ≡ false
  by true e = absurd (before_itself a (before_trans a b a h e))
  by false e = e

-- ports in order are those before a name and those behind it
parted : (name : Name) (ps : List Port) → Sorted ps → ((p : Port) → In p ps → p.name ≢ name)
    → filter (λ p. comes_before p.name name) ps ++ filter (λ p. comes_before name p.name) ps ≡ ps
parted name [] sorted apart = refl
parted name (p ∷ ps) sorted apart = elim (either_side p.name name (apart p here)) [
  | inl e ↦
      ap (λ qs. qs ++ filter (λ q. comes_before name q.name) (p ∷ ps))
      (cond-true (comes_before p.name name) (p ∷ filter (λ q. comes_before q.name name) ps) (filter (λ q. comes_before q.name name) ps) e)
      ∙ ap (λ qs. (p ∷ filter (λ q. comes_before q.name name) ps) ++ qs)
      (cond-false (comes_before name p.name) (p ∷ filter (λ q. comes_before name q.name) ps) (filter (λ q. comes_before name q.name) ps) (not_both p.name name e))
      ∙ ap (λ qs. p ∷ qs) (parted name ps sorted.1 (λ q i. apart q (there i)))
  | inr e ↦
      let behind : (q : Port) → In q (p ∷ ps) → comes_before name q.name ≡ true = λ q i. later q i e in
      ap (λ qs. qs ++ filter (λ q. comes_before name q.name) (p ∷ ps))
      (none_kept (λ (q : Port). comes_before q.name name) (p ∷ ps) (λ q i. not_both name q.name (behind q i)))
      ∙ all_kept (λ (q : Port). comes_before name q.name) (p ∷ ps) behind
] where
  later : (q : Port) → In q (p ∷ ps) → comes_before name p.name ≡ true → comes_before name q.name ≡ true
  later q here e = e
  later q (there i) e = before_trans name p.name q.name e (sorted.0 q i)

-- a supply that is put in goes away with the supplies
supply_left : (name : Name) → is_signal name ≡ false → (ps : List Port) → Sorted ps → ((p : Port) → In p ps → p.name ≢ name)
    → filter (λ p. is_signal p.name) (with_supply name ps) ≡ filter (λ p. is_signal p.name) ps
supply_left name none ps sorted apart =
    let w = λ (p : Port). is_signal p.name in
    let low = filter (λ (p : Port). comes_before p.name name) ps in
    let high = filter (λ (p : Port). comes_before name p.name) ps in
    filter-append w low (supply name ∷ high)
    ∙ ap (λ qs. filter w low ++ qs) (cond-false (is_signal name) (supply name ∷ filter w high) (filter w high) none)
    ∙ sym (filter-append w low high)
    ∙ ap (filter w) (parted name ps sorted apart)

pub signal_pins : (c : Cell) → IsFormed c → filter is_signal (names_of (all_ports c)) ≡ names_of (pin_ports c)
signal_pins c formed =
    let own = pin_ports c in
    let sorted = sorted_of own formed.order in
    let own_names = λ (p : Port) (i : In p own). formed.signals p.name (In-map (λ (q : Port). q.name) p own i) in
    names_kept (all_ports c)
    ∙ ap names_of (supply_left vss refl (with_supply vdd own) (sorted_supply vdd own sorted) (λ p i. no_vss p (with_cases vdd own p i) own_names)
    ∙ supply_left vdd refl own sorted (λ p i. (own_names p i).0)
    ∙ all_kept (λ (p : Port). is_signal p.name) own (λ p i. let no = own_names p i in signal_true p.name no.0 no.1))
  where
    no_vss : (p : Port) → (p ≡ supply vdd) ⊎ In p (pin_ports c) → ((q : Port) → In q (pin_ports c) → (q.name ≢ vdd) × (q.name ≢ vss)) → p.name ≢ vss
    no_vss p (inl is) names e = supplies_differ (sym (ap (λ (q : Port). q.name) is) ∙ e)
    no_vss p (inr i) names e = (names p i).1 e

-- ---- the class of a net

same_tests : (a b x y : ℕ) → (a ≡ b → x ≡ y) → (x ≡ y → a ≡ b) → nat_eq a b ≡ nat_eq x y
same_tests a b x y f g = by (nat_eq a b) (nat_eq x y) refl refl where
  by : (s t : Bool) → nat_eq a b ≡ s → nat_eq x y ≡ t → nat_eq a b ≡ nat_eq x y
  by true t d e = d ∙ sym (eq-eqb x y (f (eqb-true a b d)))
  by false true d e = eq-eqb a b (g (eqb-true x y e)) ∙ sym e
  by false false d e = d ∙ sym e

place_of : (ks : List ℕ) (j c : ℕ) → AllDifferent ks → slice_get ks j ≡ Some c → place_among ks c ≡ j
place_of [] j c d e = absurd cc
place_of (k ∷ ks) zero c d e = let same : k ≡ c = cc in cond-true (nat_eq k c) 0 (suc (place_among ks c)) (eq-eqb k c same)
place_of (k ∷ ks) (suc j) c d e = by (nat_eq k c) refl (place_of ks j c d.1 e) where
  by : (t : Bool) → nat_eq k c ≡ t → place_among ks c ≡ j → cond (nat_eq k c) 0 (suc (place_among ks c)) ≡ suc j
  by true f rest = absurd (d.0 (subst (λ (x : ℕ). In x ks) (sym (eqb-true k c f)) (In_get ks j c e)))
  by false f rest = cond-false (nat_eq k c) 0 (suc (place_among ks c)) f ∙ ap suc rest

place_back : (ks : List ℕ) (j c : ℕ) → j < length ks → place_among ks c ≡ j → slice_get ks j ≡ Some c
place_back [] j c low e = absurd (omega (arith, low))
place_back (k ∷ ks) j c low e = by (nat_eq k c) refl (λ i low e. place_back ks i c low e) where
  later : (i : ℕ) → i < suc (length ks) → suc (place_among ks c) ≡ i → ((i : ℕ) → i < length ks → place_among ks c ≡ i → slice_get ks i ≡ Some c)
      → slice_get (k ∷ ks) i ≡ Some c
  later zero low e rest = absurd (omega (arith, e))
  later (suc i) low e rest = rest i (omega (arith, low)) (omega (arith, e))

  by : (t : Bool) → nat_eq k c ≡ t → ((i : ℕ) → i < length ks → place_among ks c ≡ i → slice_get ks i ≡ Some c) → slice_get (k ∷ ks) j ≡ Some c
  by true f rest =
      let first : 0 ≡ j = sym (cond-true (nat_eq k c) 0 (suc (place_among ks c)) f) ∙ e in
      subst (λ (i : ℕ). slice_get (k ∷ ks) i ≡ Some c) first (ap Some (eqb-true k c f))
  by false f rest = later j low (sym (cond-false (nat_eq k c) 0 (suc (place_among ks c)) f) ∙ e) rest

-- a class is that of net j exactly where its number is j
pub number_test : (ks : List ℕ) (j class c : ℕ) → AllDifferent ks → slice_get ks j ≡ Some class → nat_eq (place_among ks c) j ≡ nat_eq c class
number_test ks j class c differ at =
    same_tests (place_among ks c) j c class (λ e. same (place_back ks j c (In_below ks j class at) e)) (λ e. place_of ks j c differ (at ∙ ap Some (sym e)))
  where
    same : slice_get ks j ≡ Some c → c ≡ class
    same e = let f : Some c ≡ Some class = sym e ∙ at in cc f

    In_below : (xs : List ℕ) (i x : ℕ) → slice_get xs i ≡ Some x → i < length xs
    In_below [] i x e = absurd cc
    In_below (y ∷ xs) zero x e = omega arith
    In_below (y ∷ xs) (suc i) x e = let h = In_below xs i x e in omega (arith, h)

-- ---- lists of lists

pub flat_mapped : {A B C : Type 0} (f : B → List C) (g : A → B) (xs : List A) → flat_map f (map g xs) ≡ flat_map (λ x. f (g x)) xs
flat_mapped f g [] = refl
flat_mapped f g (x ∷ xs) = ap (λ ys. f (g x) ++ ys) (flat_mapped f g xs)

flat_same : {A C : Type 0} (f g : A → List C) (xs : List A) → ((x : A) → In x xs → f x ≡ g x) → flat_map f xs ≡ flat_map g xs
flat_same f g [] each = refl
flat_same f g (x ∷ xs) each =
    ap (λ ys. ys ++ flat_map f xs) (each x here) ∙ ap (λ ys. g x ++ ys) (flat_same f g xs (λ y i. each y (there i)))

-- ---- the terminals of a net

abbrev as_member : Instance → Member
as_member i = record { name = i.name; model = i.model }

module _ (l : Library) (n : InMemory) (passed : HasPassed false l) (given : IsDrawableIn l n) (k : AbstractNetlist) (seen : IsSeenAs n k) (j class : ℕ)
    (differ : AllDifferent (net_classes k l)) (at : slice_get (net_classes k l) j ≡ Some class) where
  abbrev net : Numbering
  net = net_number k l

  -- of an instance by its name and its model
  abbrev of_member : Member → List Terminal
  of_member m = tested (λ pin. on_net k net j (pin_of m.name pin)) m.name (signal_names (cell_of l m.model))

  own_pins : (i : Held) → In i n.instances → of_member (member_of i) ≡ pins_in k class i
  own_pins i h =
      let c = own_cell l n given i (in_place i n.instances h) in
      let formed = All-In IsFormed l.cells passed.formed c.cell (named_cell l.cells i.model c.cell c.found).0 in
      ap (λ o. tested (λ pin. on_net k net j (pin_of i.name pin)) i.name (signal_names o)) c.found
      ∙ ap (tested (λ pin. on_net k net j (pin_of i.name pin)) i.name) (sym (signal_pins c.cell formed) ∙ ap (filter is_signal) (sym c.pins))
      ∙ sym (flat_kept (λ pin. on_net k net j (pin_of i.name pin)) i.name i.pins)
      ∙ ap (λ (test : Name → Bool). tested (λ pin. test pin && is_signal pin) i.name i.pins)
      (fun_ext (λ pin. number_test (net_classes k l) j class (k.class (pin_of i.name pin)) differ at))

  pins_are : (p : InRow) → AreRowsOf k l p → flat_map (instance_terminals k l net j) (stood_in k p) ≡ flat_map (pins_in k class) n.instances
  pins_are p rows =
      sym (flat_mapped of_member as_member (stood_in k p))
      ∙ ap (flat_map of_member) (stood_listed k.instances p.starts p.row_numbers rows.starts rows.row_numbers ∙ seen_instances n k seen)
      ∙ flat_mapped of_member member_of n.instances
      ∙ flat_same (λ i. of_member (member_of i)) (pins_in k class) n.instances own_pins

  -- as they are read off the netlist in memory
  pub terminals_are : (p : InRow) → AreRowsOf k l p
      → net_terminals k l net (rows_of k p) (stood_in k p) j ≡ port_terminals (slice_get (signals_among n.ports) j) ++ flat_map (pins_in k class) n.instances
  terminals_are p rows =
      ap (λ ts. port_terminals (slice_get (signal_ports k) j) ++ ts) (pins_are p rows)
      ∙ ap (λ names. port_terminals (slice_get (filter is_signal names) j) ++ flat_map (pins_in k class) n.instances) (seen_ports n k seen)

-- ---- there are as many as points

module _ (n : AbstractNetlist) (l : Library) (net : Numbering) (j : ℕ) where
  pin_points : (i : Instance) (pin : Name) (b : Bool) (o : Option Point) → length (if b then node_at o else []) ≤ length (pin_if b i.name pin)
  pin_points i pin false o = omega arith
  pin_points i pin true None = omega arith
  pin_points i pin true (Some q) = omega arith

  own_points : (i : Instance) (pins : List Name) → length (flat_map (pin_nodes n l net j i) pins) ≤ length (tested (λ pin. on_net n net j (pin_of i.name pin)) i.name pins)
  own_points i [] = omega arith
  own_points i (pin ∷ pins) =
      let a = pin_points i pin (on_net n net j (pin_of i.name pin)) (instance_point (cell_of l i.model) i pin) in
      let b = own_points i pins in
      let c = length-append (pin_nodes n l net j i pin) (flat_map (pin_nodes n l net j i) pins) in
      let d = length-append (pin_if (on_net n net j (pin_of i.name pin)) i.name pin) (tested (λ pin. on_net n net j (pin_of i.name pin)) i.name pins) in
      omega (arith, a, b, c, d)

  all_points : (is : List Instance) → length (terminal_nodes n l net is j) ≤ length (flat_map (instance_terminals n l net j) is)
  all_points [] = omega arith
  all_points (i ∷ is) =
      let a = own_points i (signal_names (cell_of l i.model)) in
      let b = all_points is in
      let c = length-append (instance_nodes n l net j i) (terminal_nodes n l net is j) in
      let d = length-append (instance_terminals n l net j i) (flat_map (instance_terminals n l net j) is) in
      omega (arith, a, b, c, d)

  port_points : (names : List Name) (j : ℕ) (q : Node) → length (if nat_lt j (length names) then q ∷ [] else []) ≤ length (port_terminals (slice_get names j))
  port_points names j q = by (nat_lt j (length names)) (slice_get names j) refl refl where
    by : (b : Bool) (o : Option Name) → nat_lt j (length names) ≡ b → slice_get names j ≡ o → length (if b then q ∷ [] else []) ≤ length (port_terminals o)
    by false o d e = omega arith
    by true (Some name) d e = omega arith
    by true None d e =
        let low : j < length names = grind (arith, nat_tests) in
        let at = at_place names j low in
        absurd (let f : None ≡ Some at.0 = sym e ∙ at.1 in cc f)

  pub few_points : (p : Placement) (is : List Instance) → length (net_nodes n l net p is j) ≤ length (net_terminals n l net p is j)
  few_points p is =
      let a = port_points p.ports j (port_node l p j) in
      let b = all_points is in
      let c = length-append (port_nodes l p j) (terminal_nodes n l net is j) in
      let d = length-append (port_terminals (slice_get p.ports j)) (flat_map (instance_terminals n l net j) is) in
      omega (arith, a, b, c, d)

-- ---- the pins of one instance, with their classes

pub class_pins_are : (n : AbstractNetlist) (class : ℕ) (owner : List ℕ) (pins : List Name) (own : List ℕ) → length pins ≤ length own
    → ((place : ℕ) (pin : Name) → Stands pins place pin → n.class (pin_of owner pin) ≡ slice_index own place)
    → class_pins class owner pins own ≡ flat_map (λ pin. pin_if (is_wanted class (n.class (pin_of owner pin)) pin) owner pin) pins
class_pins_are n class owner [] own many each = refl
class_pins_are n class owner (pin ∷ pins) [] many each = absurd (omega (arith, many))
class_pins_are n class owner (pin ∷ pins) (c ∷ own) many each =
    ap (λ (d : ℕ). pin_if (is_wanted class d pin) owner pin ++ class_pins class owner pins own) (sym (each 0 pin refl))
    ∙ ap (λ ts. pin_if (is_wanted class (n.class (pin_of owner pin)) pin) owner pin ++ ts) (class_pins_are n class owner pins own (omega (arith, many)) (λ place name s. each (suc place) name s))

-- ---- the pins of one instance more

module _ (n : InMemory) (sound : IsNetlist n) (nodes : List Standing) (seen_as : map (instance_of n.models) nodes ≡ n.instances) (numbered : AreNumbered n.ports nodes) (i : ℕ) (node : Standing)
    (s : Stands nodes i node) where
  -- the classes of its pins are there
  pub node_fits : node.first + length node.pins ≤ length n.classes
  node_fits =
      let first : node.first ≡ length n.ports + length (flat_map node_pins (take i nodes)) =
      subst (λ (x : Standing). x.first ≡ length n.ports + length (flat_map node_pins (take i nodes))) (get_or_from_slice_get nodes i node node s) (numbered i node (slice_get_within nodes i node s)) in
      let own : length (flat_map node_pins (take i nodes)) + length (node_pins node) ≤ length (flat_map node_pins nodes) =
      subst (λ (x : Standing). length (flat_map node_pins (take i nodes)) + length (node_pins x) ≤ length (flat_map node_pins nodes)) (get_or_from_slice_get nodes i node node s)
      (length-flat_map-take node_pins nodes i node (slice_get_within nodes i node s)) in
      let pins : length (node_pins node) ≡ length node.pins = length-map node.pins _ in
      let all : length (terminals n) ≡ length n.ports + length (flat_map node_pins nodes) =
      ap (λ (xs : List Held). length (terminals_of n.ports xs)) (sym seen_as) ∙ terminals_count n.ports n.models nodes in
      let each = sound.each in
      omega (arith, first, own, pins, all, each)

  module _ (own : List ℕ) (own_is : own ≡ take (length node.pins) (drop node.first n.classes)) where
    pub own_many : length own ≡ length node.pins
    own_many =
        let fits = node_fits in
        let d = length-drop node.first n.classes in
        ap length own_is ∙ length-take-le (length node.pins) (drop node.first n.classes) (omega (arith, fits, d))

    abbrev one : Held
    one = instance_of n.models node

    own_are : (k : AbstractNetlist) → IsSeenAs n k → (class : ℕ) → class_pins class node.name node.pins own ≡ pins_in k class one
    own_are k seen class =
        let many = own_many in
        class_pins_are k class node.name node.pins own (omega (arith, many)) (λ place name named.
        seen.classes.each (pin_of node.name name) (slice_index own place)
        (subst (λ (cs : List ℕ). HasClass n (pin_of node.name name) (slice_index cs place)) (sym own_is) (class_there n n.models nodes sound seen_as numbered i node s place name named)))

    pub next_pins : (k : AbstractNetlist) → IsSeenAs n k → (class : ℕ) (before old new : List Terminal) → new ≡ old ++ class_pins class node.name node.pins own
        → old ≡ before ++ flat_map (pins_in k class) (take i n.instances) → new ≡ before ++ flat_map (pins_in k class) (take (i + 1) n.instances)
    next_pins k seen class before old new now so_far =
        let stands : Stands n.instances i one = subst (λ (is : List Held). Stands is i one) seen_as (mapped (instance_of n.models) nodes i node s) in
        let more : take (i + 1) n.instances ≡ take i n.instances ++ one ∷ [] =
        take_more n.instances i one (slice_get_within n.instances i one stands) ∙ ap (λ (x : Held). take i n.instances ++ x ∷ []) (get_or_from_slice_get n.instances i one one stands) in
        let f = pins_in k class in
        let rest = flat_map f (take i n.instances) in
        now ∙ ap (λ ts. ts ++ class_pins class node.name node.pins own) so_far ∙ ap (λ ts. (before ++ rest) ++ ts) (own_are k seen class)
        ∙ append_assoc before rest (f one)
        ∙ ap (λ ts. before ++ (rest ++ ts)) (sym (append-nil (f one)))
        ∙ ap (λ ts. before ++ ts) (sym (flat_map-append f (take i n.instances) (one ∷ [])))
        ∙ ap (λ is. before ++ flat_map f is) (sym more)

-- ---- the classes of nets

module _ (l : Library) (n : InMemory) (p : InRow) (placed : IsRowPlacementOf l n p) (nets : List ℕ) (are : nets ≡ p.ports ++ filter (λ class. not (is_among p.ports class)) p.drivers) where
  nets_are : (k : AbstractNetlist) → IsSeenAs n k → nets ≡ net_classes k l
  nets_are k seen =
      let rows = placed.rows k seen in
      are ∙ ap (λ (ds : List ℕ). p.ports ++ filter (λ class. not (is_among p.ports class)) ds) rows.drivers
      ∙ ap (λ (ps : List ℕ). ps ++ filter (λ class. not (is_among ps class)) (driven k l k.instances)) rows.ports

  pub net_below : (net : ℕ) → ((k : AbstractNetlist) → IsSeenAs n k → net < net_count k) → net < length nets
  net_below net below =
      let k = known n in
      let seen = known_seen n placed.drawable.sound in
      let a = below k seen in
      let b = nets_are_counted k l (orderly l n placed.passed placed.drawable k seen) in
      let c = ap length (nets_are k seen) in
      omega (arith, a, b, c)

  -- the terminals of a net are its port and the pins in its class
  pub net_is : (net class : ℕ) → slice_get nets net ≡ Some class → (k : AbstractNetlist) → IsSeenAs n k
      → port_terminals (slice_get (signals_among n.ports) net) ++ flat_map (pins_in k class) n.instances ≡ net_terminals k l (net_number k l) (rows_of k p) (stood_in k p) net
  net_is net class at k seen =
      sym (terminals_are l n placed.passed placed.drawable k seen net class (nets_differ k l (orderly l n placed.passed placed.drawable k seen))
      (subst (λ (ks : List ℕ). slice_get ks net ≡ Some class) (nets_are k seen) at) p (placed.rows k seen))
