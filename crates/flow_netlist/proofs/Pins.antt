-- How many pins usable cells have, how many of these are no supplies, and how many are sinks.
use Rattle.std.proofs.Common.{◌≡◌, inl, inr, ◌+◌, ◌≤◌, Bool, true, false, not, ◌&&◌, List, [], ◌∷◌, filter, length, Some, refl, ◌∙◌, ap, subst, arith, length-append}
use Rattle.std.specs.Ordering.{is_lt, ordering_reverse}
use Rattle.std.specs.declared.cmp.Ordering.TheVariants.{Greater}
use Rattle.std.specs.List.{list_any}
use Rattle.std.proofs.lemmas.List.Filters.{length-filter_both}
use Rattle.vlsi_base.specs.declared.name.Name.{Name}
use Rattle.vlsi_base.specs.declared.name.Port.{Port}
use Rattle.vlsi_base.specs.Name.{name_cmp}
use Rattle.vlsi_base.specs.Names.{vdd, vss, comes_before}
use Rattle.vlsi_base.specs.Member.{In, here, there, AllDifferent}
use Rattle.vlsi_base.proofs.NameOrder.{name_total}
use Rattle.machine_core.specs.Machine.{is_input, names_of}
use Rattle.machine_core.specs.Named.{is_same_name}
use Rattle.machine_core.proofs.Names.{same_name-true}
use Rattle.cell_model.specs.Cell.{Function, gate, flip_flop, other, opaque, Cell, pin_ports, cell_inputs, cell_outputs}
use Rattle.cell_model.specs.Library.{IsUsable, IsPlain}
use Rattle.cell_model.specs.Usable.{IsFormed}
use Rattle.cell_model.proofs.Members.{In-map}
use Rattle.cell_pins.specs.Pins.{supply, with_supply, all_ports}
use Rattle.cell_pins.proofs.Ports.{before_less, in_filter, sorted_of, sorted_supply, sorted_different}
use Rattle.net_theory.proofs.Basics.{length-map}
use Rattle.net_right.proofs.Lists.{filter_in}
use Rattle.net_right.proofs.Ports.{supplies_differ, names_to}
use Rattle.ocp_place.specs.Nets.{is_signal}
use Rattle.loon_loads.specs.Sinks.{is_clock_of, is_sink_pin, is_sink_of}
use Rattle.loon_fanout.proofs.FewInputs.{few_members}
use Rattle.boog_map.proofs.Supplied.{two_longer}
use Rattle.loon_fanout.proofs.Picking.{any_in, different_filter}
use Rattle.flow_netlist.proofs.Counts.{apart_few}

-- the pins of a cell's instances
abbrev pub pin_names : Cell → List Name
pin_names c = names_of (all_ports c)

never_both : (a b : Name) → comes_before a b ≡ true → comes_before b a ≡ false
never_both a b h = let turned : name_cmp b a ≡ Greater = name_total.antisymm b a ∙ ap ordering_reverse (before_less a b h) in ap is_lt turned

-- a supply adds one port at most
supply_few : (name : Name) (ps : List Port) → length (with_supply name ps) ≤ length ps + 1
supply_few name ps =
    let parts = apart_few (λ (p : Port). comes_before p.name name) (λ (p : Port). comes_before name p.name) ps (λ p e. never_both p.name name e) in
    let sum = length-append (filter (λ (p : Port). comes_before p.name name) ps) (supply name ∷ filter (λ (p : Port). comes_before name p.name) ps) in
    omega (arith, parts, sum)

pub both_few : (ps : List Port) → length (with_supply vss (with_supply vdd ps)) ≤ length ps + 2
both_few ps = let a = supply_few vdd ps in let b = supply_few vss (with_supply vdd ps) in omega (arith, a, b)

-- ---- pins that are no supplies

only_one : (x y : Name) → In x (y ∷ []) → x ≡ y
only_one x y here = refl
only_one x y (there i) = elim i [ ]

no_signals : (ps : List Name) → In vdd ps → In vss ps → (name : Name) → In name (vdd ∷ vss ∷ []) → In name (filter (λ x. not (is_signal x)) ps)
no_signals ps high low _ here = filter_in (λ x. not (is_signal x)) ps vdd high refl
no_signals ps high low _ (there here) = filter_in (λ x. not (is_signal x)) ps vss low refl
no_signals ps high low _ (there (there i)) = elim i [ ]

-- two pins at least are supplies
pub signals_few : (c : Cell) → length (filter is_signal (pin_names c)) + 2 ≤ length (pin_names c)
signals_few c =
    let both = length-filter_both is_signal (λ x. not (is_signal x)) (λ x. refl) (pin_names c) in
    let differ : AllDifferent (vdd ∷ vss ∷ []) = (λ i. supplies_differ (only_one vdd vss i), (λ i. elim i [ ], tt)) in
    let two = few_members (vdd ∷ vss ∷ []) (filter (λ x. not (is_signal x)) (pin_names c)) differ
    (no_signals (pin_names c) (names_to (pin_ports c) vdd (inl refl)) (names_to (pin_ports c) vss (inr (inl refl)))) in
    omega (arith, both, two)

-- ---- usable cells

-- a usable cell has one output
one_output : (c : Cell) → IsUsable c → length (cell_outputs c) ≡ 1
one_output c usable = by c.function usable.function where
  by : (f : Function) → IsPlain c f → length (cell_outputs c) ≡ 1
  by (gate e) plain = plain.0
  by (flip_flop d ck) plain = plain.0
  by (other m) plain = absurd plain
  by opaque plain = absurd plain

-- so beside its inputs it has three pins
pub inputs_and_three : (c : Cell) → IsFormed c → IsUsable c → length (pin_names c) ≡ length (cell_inputs c) + 3
inputs_and_three c formed usable =
    let outs = one_output c usable in
    let both = length-filter_both (λ (p : Port). is_input p.dir) (λ (p : Port). not (is_input p.dir)) (λ p. refl) (pin_ports c) in
    let a = length-map (λ (p : Port). p.name) (filter (λ (p : Port). is_input p.dir) (pin_ports c)) in
    let b = length-map (λ (p : Port). p.name) (filter (λ (p : Port). not (is_input p.dir)) (pin_ports c)) in
    let all = two_longer (pin_ports c) (sorted_of (pin_ports c) usable.order) (λ p i. formed.signals p.name (In-map (λ (q : Port). q.name) p (pin_ports c) i)) in
    let names = length-map (λ (p : Port). p.name) (all_ports c) in
    omega (arith, outs, both, a, b, all, names)

left_true : (a b : Bool) → (a && b) ≡ true → a ≡ true
left_true true b e = refl
left_true false b e = e

-- and its sinks are three less than its pins at most
pub sinks_and_three : (c : Cell) → IsFormed c → IsUsable c → length (filter (is_sink_of (Some c)) (pin_names c)) + 3 ≤ length (pin_names c)
sinks_and_three c formed usable =
    let pins = inputs_and_three c formed usable in
    let sorted = sorted_supply vss (with_supply vdd (pin_ports c)) (sorted_supply vdd (pin_ports c) (sorted_of (pin_ports c) usable.order)) in
    let differ = different_filter (is_sink_of (Some c)) (pin_names c) (sorted_different (all_ports c) sorted) in
    let few = few_members (filter (is_sink_of (Some c)) (pin_names c)) (cell_inputs c) differ (λ name i. input name (in_filter (is_sink_of (Some c)) (pin_names c) name i).1) in
    omega (arith, pins, few)
  where
    input : (name : Name) → is_sink_pin c name ≡ true → In name (cell_inputs c)
    input name e =
        let r = any_in (λ (pin : Name). is_same_name pin name) (cell_inputs c)
        (left_true (list_any (λ (pin : Name). is_same_name pin name) (cell_inputs c)) (not (is_clock_of c.function name)) e) in
        subst (λ (x : Name). In x (cell_inputs c)) (same_name-true r.0 name r.2) r.1
