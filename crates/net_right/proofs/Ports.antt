-- Ports with the supplies put in.
use Rattle.std.proofs.Common.{◌≡◌, ◌≢◌, ◌⊎◌, inl, inr, true, false, List, filter, refl, sym, ◌∙◌, ap, subst}
use Rattle.std.specs.Ordering.{is_lt, ordering_reverse}
use Rattle.std.specs.declared.cmp.Ordering.{Ordering}
use Rattle.std.specs.declared.cmp.Ordering.TheVariants.{Less, Equal, Greater}
use Rattle.vlsi_base.specs.declared.name.Name.{Name}
use Rattle.vlsi_base.specs.declared.name.Port.{Port}
use Rattle.vlsi_base.specs.Name.{name_cmp}
use Rattle.vlsi_base.specs.Names.{vdd, vss, comes_before}
use Rattle.vlsi_base.specs.Member.{In, here, there}
use Rattle.vlsi_base.proofs.NameOrder.{name_total, name_exact}
use Rattle.machine_core.specs.Machine.{names_of}
use Rattle.machine_core.specs.Named.{is_same_name}
use Rattle.cell_model.proofs.Members.{In-left, In-right, In-map, In-map_back}
use Rattle.cell_pins.specs.Pins.{supply, with_supply}
use Rattle.cell_pins.proofs.Ports.{with_cases}
use Rattle.net_right.proofs.Lists.{filter_in}

pub supplies_differ : vdd ≢ vss
supplies_differ e = let a : is_same_name vdd vdd ≡ is_same_name vdd vss = ap (is_same_name vdd) e in let b : true ≡ false = a in cc b

pub supply_there : (name : Name) (ps : List Port) → In (supply name) (with_supply name ps)
supply_there name ps = In-right (supply name) (filter (λ p. comes_before p.name name) ps) _ here

-- a port stays where it hasn't the supply's name
pub stays : (name : Name) (ps : List Port) (q : Port) → In q ps → (q.name ≡ name) ⊎ In q (with_supply name ps)
stays name ps q i = by (name_cmp q.name name) refl where
  by : (o : Ordering) → name_cmp q.name name ≡ o → (q.name ≡ name) ⊎ In q (with_supply name ps)
  by Less e = inr (In-left q (filter (λ p. comes_before p.name name) ps) _ (filter_in (λ p. comes_before p.name name) ps q i (ap is_lt e)))
  by Equal e = inl (name_exact q.name name e)
  by Greater e =
      let turned : name_cmp name q.name ≡ Less = name_total.antisymm name q.name ∙ ap ordering_reverse e in
      inr (In-right q (filter (λ p. comes_before p.name name) ps) _ (there (filter_in (λ p. comes_before name p.name) ps q i (ap is_lt turned))))

-- ports with both supplies
abbrev pub with_both : List Port → List Port
with_both ps = with_supply vss (with_supply vdd ps)

pub both_cases : (ps : List Port) (q : Port) → In q (with_both ps) → (q ≡ supply vss) ⊎ ((q ≡ supply vdd) ⊎ In q ps)
both_cases ps q i = elim (with_cases vss (with_supply vdd ps) q i) [
  | inl is ↦ inl is
  | inr j ↦ elim (with_cases vdd ps q j) [ inl is ↦ inr (inl is) | inr k ↦ inr (inr k) ]
]

pub vss_there : (ps : List Port) → In (supply vss) (with_both ps)
vss_there ps = supply_there vss (with_supply vdd ps)

pub vdd_there : (ps : List Port) → In (supply vdd) (with_both ps)
vdd_there ps = elim (stays vss (with_supply vdd ps) (supply vdd) (supply_there vdd ps)) [
  | inl is ↦ absurd (supplies_differ is)
  | inr i ↦ i
]

pub port_stays : (ps : List Port) (q : Port) → In q ps → q.name ≢ vdd → q.name ≢ vss → In q (with_both ps)
port_stays ps q i no_vdd no_vss = elim (stays vdd ps q i) [
  | inl is ↦ absurd (no_vdd is)
  | inr j ↦ elim (stays vss (with_supply vdd ps) q j) [ inl is ↦ absurd (no_vss is) | inr k ↦ k ]
]

-- the names of ports with both supplies
pub names_to : (ps : List Port) (name : Name) → (name ≡ vdd) ⊎ ((name ≡ vss) ⊎ In name (names_of ps)) → In name (names_of (with_both ps))
names_to ps name (inl is) = subst (λ (x : Name). In x (names_of (with_both ps))) (sym is) (In-map (λ (p : Port). p.name) (supply vdd) (with_both ps) (vdd_there ps))
names_to ps name (inr (inl is)) = subst (λ (x : Name). In x (names_of (with_both ps))) (sym is) (In-map (λ (p : Port). p.name) (supply vss) (with_both ps) (vss_there ps))
names_to ps name (inr (inr i)) =
    let r = In-map_back (λ (p : Port). p.name) name ps i in
    subst (λ (x : Name). In x (names_of (with_both ps))) r.2 (elim (stays vdd ps r.0 r.1) [
      | inl is ↦ subst (λ (x : Name). In x (names_of (with_both ps))) (sym is) (In-map (λ (p : Port). p.name) (supply vdd) (with_both ps) (vdd_there ps))
      | inr j ↦ elim (stays vss (with_supply vdd ps) r.0 j) [
        | inl is ↦ subst (λ (x : Name). In x (names_of (with_both ps))) (sym is) (In-map (λ (p : Port). p.name) (supply vss) (with_both ps) (vss_there ps))
        | inr k ↦ In-map (λ (p : Port). p.name) r.0 (with_both ps) k
      ]
    ])

pub names_from : (ps : List Port) (name : Name) → In name (names_of (with_both ps)) → (name ≡ vdd) ⊎ ((name ≡ vss) ⊎ In name (names_of ps))
names_from ps name i =
    let r = In-map_back (λ (p : Port). p.name) name (with_both ps) i in
    elim (both_cases ps r.0 r.1) [
      | inl is ↦ inr (inl (sym r.2 ∙ ap (λ (p : Port). p.name) is))
      | inr rest ↦ elim rest [
        | inl is ↦ inl (sym r.2 ∙ ap (λ (p : Port). p.name) is)
        | inr j ↦ inr (inr (subst (λ (x : Name). In x (names_of ps)) r.2 (In-map (λ (p : Port). p.name) r.0 ps j)))
      ]
    ]
