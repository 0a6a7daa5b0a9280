-- A netlist that maps a graph shows its nodes.
use Rattle.std.proofs.Common.{◌≡◌, ◌⊎◌, inl, inr, ℕ, zero, suc, ◌<◌, List, [], ◌∷◌, ◌++◌, length, refl, sym, ◌∙◌, ap, subst, arith}
use Rattle.std.specs.List.{slice_index_or}
use Rattle.machine_core.specs.Machine.{Machine}
use Rattle.vlsi_base.specs.Member.{In, here, there}
use Rattle.cell_model.specs.Cell.{Function}
use Rattle.cell_model.specs.Library.{Library}
use Rattle.net_meaning.specs.Well.{named_g}
use Rattle.net_theory.specs.Sources.{IsNumber, Seat, Sourced, IsGateOf, IsRegisterOf, Plays, IsSeated, Shows}
use Rattle.net_theory.proofs.Basics.{number_of, at_number, number_below, number_once, number_in}
use Rattle.graph_theory.specs.Graph.{Graph, graph_values, graph_roots, IsApart}
use Rattle.graph_theory.specs.Maps.{IsRegisterSeat, IsGateSeat, Maps}
use Rattle.graph_theory.proofs.Names.{register_names, gate_names, not_both}

pub In-split : {A : Type 0} (x : A) (xs ys : List A) → In x (xs ++ ys) → In x xs ⊎ In x ys
In-split x [] ys h = inr h
In-split x (y ∷ xs) ys here = inl here
In-split x (y ∷ xs) ys (there h) = elim (In-split x xs ys h) [ inl left ↦ inl (there left) | inr right ↦ inr right ]

pub In-left : {A : Type 0} (x : A) (xs ys : List A) → In x xs → In x (xs ++ ys)
In-left x (y ∷ xs) ys here = here
In-left x (y ∷ xs) ys (there h) = there (In-left x xs ys h)
In-left x [] ys h = elim h [ ]

-- a root among those that are apart
root_number : (roots : List ℕ) (k : ℕ) → k < length roots → IsNumber roots k (slice_index_or roots k 0)
root_number [] k h = absurd (omega arith)
root_number (x ∷ roots) zero h = refl
root_number (x ∷ roots) (suc k) h = root_number roots k (omega arith)

module _ (n : Sourced) (l : Library) (m : Machine) (g : Graph) (apart : IsApart m g) (h : Maps n l m g) where
  abbrev seats : List Seat
  seats = h.registers ++ h.gates

  -- a seat is a register's or a gate's
  data Kind (p : Seat) : Type 0 where
    a_register : (k : ℕ) → IsNumber h.registers k p → Kind p
    a_gate : (k : ℕ) → IsNumber h.gates k p → Kind p

  kind : (p : Seat) → In p seats → Kind p
  kind p listed = elim (In-split p h.registers h.gates listed) [
    | inl x ↦ let k = number_of p h.registers x in a_register k.0 k.1
    | inr y ↦ let k = number_of p h.gates y in a_gate k.0 k.1
  ]

  register_plays : (k : ℕ) (p : Seat) (is : IsNumber h.registers k p) (s : IsRegisterSeat n l m g k p) → IsRegisterOf n m (graph_roots g) p s.cell s.data_pin s.clock_pin
  register_plays k p is s = record {
    number = k;
    within = let low = number_below h.registers k p is in let count = h.each_register in omega (arith, low, count);
    named = s.named;
    place = s.place;
    shows = s.placed.shows;
    loads = s.loads;
    clocked = s.clocked;
  }

  gate_plays : (k : ℕ) (p : Seat) (s : IsGateSeat n l m g k p) → IsGateOf n m (graph_values g) p s.cell s.expr
  gate_plays k p s = record {
    beyond = let low = s.beyond in omega (arith, low);
    named = named_g k s.named;
    leaves = s.leaves;
    reads = s.reads;
    shows = s.placed.shows;
    value = s.cut.value;
    earlier = λ x is_leaf. let below = s.cut.earlier x is_leaf in let a = h.ranked x in let b = h.ranked p.node in omega (arith, below, a, b);
  }

  seated_by : (p : Seat) → Kind p → IsSeated n l m (graph_values g) (graph_roots g) p
  seated_by p (a_register k is) =
      let s = h.register_at k p is in
      record {
        cell = s.cell;
        found = s.placed.found;
        usable = s.placed.usable;
        on_vdd = s.placed.on_vdd;
        on_vss = s.placed.on_vss;
        plays = subst (λ (u : Function). Plays n m (graph_values g) (graph_roots g) p s.cell u) (sym s.is_register) (register_plays k p is s);
      }
  seated_by p (a_gate k is) =
      let s = h.gate_at k p is in
      record {
        cell = s.cell;
        found = s.placed.found;
        usable = s.placed.usable;
        on_vdd = s.placed.on_vdd;
        on_vss = s.placed.on_vss;
        plays = subst (λ (u : Function). Plays n m (graph_values g) (graph_roots g) p s.cell u) (sym s.is_gate) (gate_plays k p s);
      }

  same_register : (j k : ℕ) (p q : Seat) → IsNumber h.registers j p → IsNumber h.registers k q → j ≡ k → p ≡ q
  same_register j k p q a b same = number_once h.registers k p q (subst (λ (x : ℕ). IsNumber h.registers x p) same a) b

  same_gate : (j k : ℕ) (p q : Seat) → IsNumber h.gates j p → IsNumber h.gates k q → j ≡ k → p ≡ q
  same_gate j k p q a b same = number_once h.gates k p q (subst (λ (x : ℕ). IsNumber h.gates x p) same a) b

  apart_nodes : (k j : ℕ) (p q : Seat) → IsNumber h.registers k p → IsNumber h.gates j q → p.node ≡ q.node → ⊥
  apart_nodes k j p q a b same =
      let one = (h.register_at k p a).place in
      let low = number_below h.registers k p a in
      let count = h.each_register in
      let other_one = (h.gate_at j q b).beyond in
      absurd (omega (arith, one, low, count, other_one, same))

  order : (j k : ℕ) → (j < k) ⊎ ((j ≡ k) ⊎ (k < j))
  order zero zero = inr (inl refl)
  order zero (suc k) = inl (omega arith)
  order (suc j) zero = inr (inr (omega arith))
  order (suc j) (suc k) = elim (order j k) [ inl a ↦ inl (omega arith) | inr b ↦ elim b [ inl c ↦ inr (inl (ap suc c)) | inr d ↦ inr (inr (omega arith)) ] ]

  one_node : (p q : Seat) → Kind p → Kind q → p.node ≡ q.node → p ≡ q
  one_node p q (a_register j a) (a_register k b) same =
      let x = (h.register_at j p a).place in let y = (h.register_at k q b).place in same_register j k p q a b (omega (arith, x, y, same))
  one_node p q (a_register j a) (a_gate k b) same = absurd (apart_nodes j k p q a b same)
  one_node p q (a_gate j a) (a_register k b) same = absurd (apart_nodes k j q p b a (sym same))
  one_node p q (a_gate j a) (a_gate k b) same = elim (order j k) [
    | inl x ↦ let lower = h.rising j k p q a b x in absurd (omega (arith, lower, same))
    | inr y ↦ elim y [
      | inl z ↦ same_gate j k p q a b z
      | inr z ↦ let lower = h.rising k j q p b a z in absurd (omega (arith, lower, same))
    ]
  ]

  one_name : (p q : Seat) → Kind p → Kind q → p.member.name ≡ q.member.name → p ≡ q
  one_name p q (a_register j a) (a_register k b) same =
      let few = h.few_registers in
      let x = number_below h.registers j p a in
      let y = number_below h.registers k q b in
      same_register j k p q a b (register_names j k (omega (arith, few, x)) (omega (arith, few, y)) (sym (h.register_at j p a).named ∙ same ∙ (h.register_at k q b).named))
  one_name p q (a_register j a) (a_gate k b) same = absurd (not_both j k (sym (h.register_at j p a).named ∙ same ∙ (h.gate_at k q b).named))
  one_name p q (a_gate j a) (a_register k b) same = absurd (not_both k j (sym (h.register_at k q b).named ∙ sym same ∙ (h.gate_at j p a).named))
  one_name p q (a_gate j a) (a_gate k b) same =
      let few = h.few_gates in
      let x = number_below h.gates j p a in
      let y = number_below h.gates k q b in
      same_gate j k p q a b (gate_names j k (omega (arith, few, x)) (omega (arith, few, y)) (sym (h.gate_at j p a).named ∙ same ∙ (h.gate_at k q b).named))

  pub mapped_shows : Shows n l m (graph_values g) (graph_roots g)
  mapped_shows = record {
    seats = h.registers ++ h.gates;
    instances = h.instances;
    seated = λ p listed. seated_by p (kind p listed);
    one_node = λ p q a b same. one_node p q (kind p a) (kind q b) same;
    one_name = λ p q a b same. one_name p q (kind p a) (kind q b) same;
    all_registers = λ k within.
        let count = h.each_register in
        let one = at_number h.registers k (omega (arith, within, count)) in
        (one.0, In-left one.0 h.registers h.gates (number_in h.registers k one.0 one.1), (h.register_at k one.0 one.1).place);
    numbered = h.numbered;
    one_class = h.one_class;
    origins = h.origins;
    ports = h.ports;
    on_vdd = h.on_vdd;
    on_vss = h.on_vss;
    on_clock = h.on_clock;
    in_ports = h.in_ports;
    out_ports = h.out_ports;
    no_input = λ k within. let count = apart.count in apart.no_input k (slice_index_or g.outputs k 0) (root_number g.outputs k (omega (arith, within, count)));
    different = λ j k a b same.
        let count = apart.count in
        apart.once j k (slice_index_or g.outputs j 0) (root_number g.outputs j (omega (arith, a, count)))
        (subst (λ (x : ℕ). IsNumber g.outputs k x) (sym same) (root_number g.outputs k (omega (arith, b, count))));
  }
