-- The netlist of one inverter maps its graph.
use Rattle.std.proofs.Common.{◌≡◌, ◌≢◌, ◌⊎◌, inl, inr, ◌↔◌, ℕ, zero, suc, ◌<◌, Bool, true, false, not, List, [], ◌∷◌, filter, length, None, Some, refl, sym, ◌∙◌, ap, subst, arith, if◌then◌else◌}
use Rattle.std.specs.Fmt.{digits}
use Rattle.std.specs.Prelude.{codes}
use Rattle.vlsi_base.specs.declared.name.Name.{Name}
use Rattle.vlsi_base.specs.declared.name.Port.{Port}
use Rattle.bool_expr.specs.Expression.{inverse, variable}
use Rattle.machine_core.specs.Named.{is_same_name}
use Rattle.machine_core.specs.Machine.{is_input, names_of}
use Rattle.vlsi_base.specs.Member.{In, here, there}
use Rattle.cell_model.specs.Cell.{pin_ports, Cell, gate}
use Rattle.cell_model.specs.Library.{IsUsable, cell_of}
use Rattle.vlsi_base.specs.Names.{scalar, vdd, vss}
use Rattle.net_meaning.specs.Well.{gate_instance}
use Rattle.cell_model.proofs.Texts.{scalar_differs, scalar_itself, text_itself}
use Rattle.net_theory.specs.Sources.{node, IsNumber, Seat, pin_sources, ComesFrom}
use Rattle.graph_theory.specs.Maps.{IsPlaced, IsGateSeat, Maps}
use Rattle.graph_theory.specs.Graph.{graph_values, graph_roots}
use Rattle.graph_theory.specs.Inverter.{machine, graph, class_by, input_of, member, source, sourced, two_ports, AreProper, InverterMaps}

two : (i o : List ℕ) → AreProper i o → class_by (scalar i) i ≡ 2
two i o n = rw (scalar_differs i (codes "vss") n.first_vss, scalar_differs i (codes "vdd") n.first_vdd, scalar_itself i) refl

three : (i o : List ℕ) → AreProper i o → class_by (scalar o) i ≡ 3
three i o n = let differ : o ≢ i = λ h. n.apart (sym h) in rw (scalar_differs o (codes "vss") n.second_vss, scalar_differs o (codes "vdd") n.second_vdd, scalar_differs o i differ) refl

small : (x y z : Bool) → (if x then 0 else if y then 1 else if z then 2 else 3) < 4
small true y z = omega arith
small false true z = omega arith
small false false true = omega arith
small false false false = omega arith

abbrev g0 : List ℕ
g0 = codes "g0"

g0_is : g0 ≡ gate_instance 0
unfolding digits
g0_is = refl

-- a class below 4, by its number
four : (P : ℕ → Type 0) → P 0 → P 1 → P 2 → P 3 → (k : ℕ) → k < 4 → P k
four P a b c d zero h = a
four P a b c d (suc zero) h = b
four P a b c d (suc (suc zero)) h = c
four P a b c d (suc (suc (suc zero))) h = d
four P a b c d (suc (suc (suc (suc k)))) h = absurd (omega (arith, h))

one_class : (j k : ℕ) → j < 4 → k < 4 → source j ≡ source k → j ≡ k
one_class j k p q = four (λ x. source x ≡ source k → x ≡ k)
    (four (λ y. source 0 ≡ source y → 0 ≡ y) (λ h. refl) (λ h. absurd (cc h)) (λ h. absurd (cc h)) (λ h. absurd (cc h)) k q)
    (four (λ y. source 1 ≡ source y → 1 ≡ y) (λ h. absurd (cc h)) (λ h. refl) (λ h. absurd (cc h)) (λ h. absurd (cc h)) k q)
    (four (λ y. source 2 ≡ source y → 2 ≡ y) (λ h. absurd (cc h)) (λ h. absurd (cc h)) (λ h. refl) (λ h. let e : 0 ≡ 1 = numbers 0 1 h in absurd (omega (arith, e))) k q)
    (four (λ y. source 3 ≡ source y → 3 ≡ y) (λ h. absurd (cc h)) (λ h. absurd (cc h)) (λ h. let e : 1 ≡ 0 = numbers 1 0 h in absurd (omega (arith, e))) (λ h. refl) k q)
    j p where
      numbers : (x y : ℕ) → node x ≡ node y → x ≡ y
      numbers x y h = cc h

module _ (i o a z : List ℕ) (c : Cell) (io : AreProper i o) (az : AreProper a z) (usable : IsUsable c) (pins : pin_ports c ≡ two_ports a z) (is_gate : c.function ≡ gate (inverse (variable 0))) where
  abbrev seat : Seat
  seat = record { member = member c; node = 1 }

  found : cell_of (record { cells = c ∷ [] }) c.name ≡ Some c
  found = ap (λ (b : Bool). if b then Some c else None) (text_itself c.name)

  placed : IsPlaced (sourced i o a c) (record { cells = c ∷ [] }) seat c
  placed = record {
    found = found;
    usable = usable;
    on_vdd = refl;
    on_vss = refl;
    shows = ap (λ (ps : List Port). pin_sources (sourced i o a c) g0 (names_of (filter (λ p. not (is_input p.dir)) ps))) pins ∙ ap (λ (k : ℕ). source k ∷ []) (three a z az);
  }

  the_gate : IsGateSeat (sourced i o a c) (record { cells = c ∷ [] }) (machine i o) graph 0 seat
  the_gate = record {
    named = g0_is;
    beyond = omega arith;
    within = omega arith;
    cell = c;
    placed = placed;
    expr = inverse (variable 0);
    is_gate = is_gate;
    leaves = 0 ∷ [];
    cut = record { earlier = λ x h. low_leaf x h; value = λ i s held. value i s (let a = held.for_inputs in a) (let b = held.for_registers in b) };
    reads = ap (λ (ps : List Port). pin_sources (sourced i o a c) g0 (names_of (filter (λ p. is_input p.dir) ps))) pins ∙ ap (λ (k : ℕ). source k ∷ []) (two a z az);
  } where
    low_leaf : (x : ℕ) → In x (0 ∷ []) → x < 1
    low_leaf x here = omega arith
    low_leaf x (there h) = elim h [ ]

    value : (i s : List Bool) → length i ≡ 1 → length s ≡ 0 → graph_values graph i s 1 ≡ not (graph_values graph i s 0)
    value [] s p q = absurd (omega (arith, p))
    value (x ∷ y ∷ i) s p q = absurd (omega (arith, p))
    value (x ∷ []) (y ∷ s) p q = absurd (omega (arith, q))
    value (x ∷ []) [] p q = refl

  ports : (name : Name) → In name (vss ∷ vdd ∷ scalar i ∷ scalar o ∷ []) ↔ ((name ≡ vdd) ⊎ ((name ≡ vss) ⊎ In name (scalar i ∷ scalar o ∷ [])))
  ports name = (to name, from name) where
    to : (name : Name) → In name (vss ∷ vdd ∷ scalar i ∷ scalar o ∷ []) → (name ≡ vdd) ⊎ ((name ≡ vss) ⊎ In name (scalar i ∷ scalar o ∷ []))
    to name here = inr (inl refl)
    to name (there here) = inl refl
    to name (there (there h)) = inr (inr h)

    from : (name : Name) → (name ≡ vdd) ⊎ ((name ≡ vss) ⊎ In name (scalar i ∷ scalar o ∷ [])) → In name (vss ∷ vdd ∷ scalar i ∷ scalar o ∷ [])
    from name h = elim h [
      | inl is ↦ subst (λ (q : Name). In q (vss ∷ vdd ∷ scalar i ∷ scalar o ∷ [])) (sym is) (there here)
      | inr rest ↦ elim rest [ inl is ↦ subst (λ (q : Name). In q (vss ∷ vdd ∷ scalar i ∷ scalar o ∷ [])) (sym is) here | inr g ↦ there (there g) ]
    ]

  at_gate : (k : ℕ) (p : Seat) → IsNumber (seat ∷ []) k p → IsGateSeat (sourced i o a c) (record { cells = c ∷ [] }) (machine i o) graph k p
  at_gate zero p is = subst (λ (q : Seat). IsGateSeat (sourced i o a c) (record { cells = c ∷ [] }) (machine i o) graph 0 q) (sym is) the_gate
  at_gate (suc k) p is = absurd is

  rising : (j k : ℕ) (p q : Seat) → IsNumber (seat ∷ []) j p → IsNumber (seat ∷ []) k q → j < k → p.node < q.node
  rising j zero p q x y h = absurd (omega (arith, h))
  rising j (suc k) p q x y h = absurd y

  port_in : (k : ℕ) (name : Name) → IsNumber (scalar i ∷ []) k name → source (class_by name i) ≡ node k
  port_in zero name is = ap (λ (x : Name). source (class_by x i)) is ∙ ap source (two i o io)
  port_in (suc k) name is = absurd is

  port_out : (k : ℕ) (name : Name) → IsNumber (scalar o ∷ []) k name → source (class_by name i) ≡ node ((graph_roots graph).output k)
  port_out zero name is = ap (λ (x : Name). source (class_by x i)) is ∙ ap source (three i o io)
  port_out (suc k) name is = absurd is

  maps : Maps (sourced i o a c) (record { cells = c ∷ [] }) (machine i o) graph
  maps = record {
    registers = [];
    gates = seat ∷ [];
    instances = refl;
    each_register = refl;
    few_registers = omega arith;
    few_gates = omega arith;
    register_at = λ k p is. absurd is;
    gate_at = at_gate;
    rising = rising;
    ranked = λ x. refl;
    numbered = λ t is. small (is_same_name t.pin vss) (is_same_name t.pin vdd) (is_same_name t.pin (scalar (input_of t.instance i a)));
    one_class = one_class;
    origins = four (λ k. ComesFrom (machine i o) (seat ∷ []) (source k)) tt tt (inl (omega arith)) (inr (seat, here, refl));
    ports = ports;
    on_vdd = refl;
    on_vss = refl;
    on_clock = λ name is. absurd (cc is);
    in_ports = port_in;
    out_ports = port_out;
  }

pub inverter_maps : InverterMaps
inverter_maps i o a z c io az usable pins is_gate = maps i o a z c io az usable pins is_gate
