-- Terminals of netlists, and the supplies among them.
use Rattle.std.proofs.Common.{◌≡◌, ◌⊎◌, inl, inr, ℕ, Bool, true, false, ◌||◌, List, map, None, Some, refl, ap, subst, bytes_eq, codes}
use Rattle.std.specs.List.{flat_map}
use Rattle.vlsi_base.specs.declared.name.Name.{Name}
use Rattle.vlsi_base.specs.declared.name.Port.{Port}
use Rattle.vlsi_base.specs.declared.name.Terminal.{Terminal}
use Rattle.vlsi_base.specs.Member.{In}
use Rattle.vlsi_base.specs.Name.{is_supply}
use Rattle.vlsi_base.specs.Names.{scalar, vdd, vss}
use Rattle.machine_core.proofs.Values.{In-split, In-map}
use Rattle.vlsi_model.proofs.Members.{In-map_back}
use Rattle.source_checks.proofs.Lookups.{same_of}
use Rattle.net_core.specs.Places.{Stands, NoneTwice}
use Rattle.net_core.specs.Netlist.{Instance, Netlist, IsNetlist, port, pin_of, pins_of, terminals, HasClass}
use Rattle.net_core.proofs.Standing.{stands_same}
use Rattle.vst_io.proofs.Places.{stands_in, in_stands, map_stands}
use Rattle.vst_io.proofs.Fine.{in_flat}

pub supply_name : (t : List ℕ) → is_supply t ≡ true → (scalar t ≡ vdd) ⊎ (scalar t ≡ vss)
supply_name t h = by (bytes_eq t (codes "vdd")) refl h where
  by : (b : Bool) → bytes_eq t (codes "vdd") ≡ b → (b || bytes_eq t (codes "vss")) ≡ true → (scalar t ≡ vdd) ⊎ (scalar t ≡ vss)
  by true e s = inl (ap scalar (same_of t (codes "vdd") e))
  by false e s = inr (ap scalar (same_of t (codes "vss") s))

-- a port that has a class
pub port_there : (n : Netlist) (x : Name) (k : ℕ) → HasClass n (port x) k → In x (map (λ p. p.name) n.ports)
port_there n x k h =
    let firsts = map (λ (p : Port). port p.name) n.ports in
    let seconds = flat_map pins_of n.instances in
    elim (In-split (port x) firsts seconds (stands_in (terminals n) h.0 (port x) h.1)) [
      | inl left ↦
          let p = In-map_back (λ (q : Port). port q.name) (port x) n.ports left in
          subst (λ (y : Name). In y (map (λ (q : Port). q.name) n.ports)) (ap (λ (t : Terminal). t.pin) p.2) (In-map (λ (q : Port). q.name) p.0 n.ports p.1)
      | inr right ↦
          let i = in_flat pins_of n.instances (port x) right in
          let q = In-map_back (pin_of i.0.name) (port x) i.0.pins i.2 in
          let no : Some i.0.name ≡ None = ap (λ (t : Terminal). t.instance) q.2 in absurd cc
    ]

-- instances of one name are one
same_instance : (is : List Instance) (i j : Instance) → NoneTwice (map (λ x. x.name) is) → In i is → In j is → i.name ≡ j.name → i ≡ j
same_instance is i j once h g e =
    let a = in_stands is i h in
    let b = in_stands is j g in
    let name : Instance → List ℕ = λ x. x.name in
    let p : Stands (map name is) a.0 j.name = subst (λ (t : List ℕ). Stands (map name is) a.0 t) e (map_stands name is a.0 i a.1) in
    let q : Stands (map name is) b.0 j.name = map_stands name is b.0 j b.1 in
    let same : a.0 ≡ b.0 = once a.0 b.0 j.name p q in
    stands_same is b.0 i j (subst (λ (k : ℕ). Stands is k i) same a.1) b.1

-- a pin that has a class is one of its instance
pub pin_there : (n : Netlist) → IsNetlist n → (i : Instance) → In i n.instances → (x : Name) (k : ℕ) → HasClass n (pin_of i.name x) k → In x i.pins
pin_there n sound i listed x k h =
    let firsts = map (λ (p : Port). port p.name) n.ports in
    let seconds = flat_map pins_of n.instances in
    let t = pin_of i.name x in
    elim (In-split t firsts seconds (stands_in (terminals n) h.0 t h.1)) [
      | inl left ↦
          let p = In-map_back (λ (q : Port). port q.name) t n.ports left in
          let no : None ≡ Some i.name = ap (λ (u : Terminal). u.instance) p.2 in absurd cc
      | inr right ↦
          let j = in_flat pins_of n.instances t right in
          let q = In-map_back (pin_of j.0.name) t j.0.pins j.2 in
          let both : Some j.0.name ≡ Some i.name = ap (λ (u : Terminal). u.instance) q.2 in
          let name : j.0.name ≡ i.name = cc in
          let same = same_instance n.instances j.0 i sound.names j.1 listed name in
          subst (λ (y : Name). In y i.pins) (ap (λ (u : Terminal). u.pin) q.2) (subst (λ (y : Instance). In q.0 y.pins) same q.1)
    ]
