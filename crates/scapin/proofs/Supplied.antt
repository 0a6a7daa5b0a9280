-- The classes of ports, and whether a netlist has a port.
use Rattle.std.proofs.Common.{◌≡◌, inl, inr, ℕ, ◌+◌, Bool, true, false, List, [], ◌∷◌, map, Option, None, Some, refl, sym, ap, ◌∙◌, subst, if◌then◌else◌}
use Rattle.std.specs.List.{flat_map, list_any}
use Rattle.vlsi_base.specs.declared.name.Name.{Name}
use Rattle.vlsi_base.specs.declared.name.Port.{Port}
use Rattle.vlsi_base.specs.declared.name.Terminal.{Terminal}
use Rattle.vlsi_base.specs.Member.{In, here, there}
use Rattle.machine_core.specs.Named.{is_same_name}
use Rattle.machine_core.proofs.Names.{same_name-true, same_name-itself}
use Rattle.cell_model.proofs.Members.{In-split, In-left, In-map, In-map_back}
use Rattle.cell_pins.proofs.Sound.{member_at}
use Rattle.net_core.specs.Places.{IsThere}
use Rattle.net_core.specs.Netlist.{Netlist, IsNetlist, IsClassOf, HasClass, port, pin_of, pins_of, terminals}
use Rattle.net_core.proofs.Finishing.{netlist_terminals_once}
use Rattle.net_right.proofs.Lists.{in_place}
use Rattle.loon_fanout.specs.Sinks.{is_same_terminal, class_among}
use Rattle.loon_fanout.proofs.Picking.{in_any, not_any, flat_in}
use Rattle.loon_fanout.proofs.Terminals.{terminal_same, class_is}
use Rattle.scan_theory.specs.Scan.{class_in, on_supply}

absent : (us : List Terminal) (ks : List ℕ) (t : Terminal) → (In t us → ⊥) → class_among us ks t ≡ 0
absent [] ks t none = refl
absent (u ∷ us) [] t none = refl
absent (u ∷ us) (k ∷ ks) t none = by (is_same_terminal u t) refl (absent us ks t (λ h. none (there h))) where
  by : (b : Bool) → is_same_terminal u t ≡ b → class_among us ks t ≡ 0 → (if b then k else class_among us ks t) ≡ 0
  by true e rest = absurd (none (subst (λ (x : Terminal). In x (u ∷ us)) (terminal_same u t e) here))
  by false e rest = rest

-- the class that a terminal has, and that of one that isn't there
class_there : (n : Netlist) → IsNetlist n → (t : Terminal) (k : ℕ) → HasClass n t k → k ≡ class_in n t
class_there n sound t k h = sym (class_is (terminals n) n.classes t h.0 k (netlist_terminals_once n sound) h.1 h.2)

class_absent : (n : Netlist) (t : Terminal) → (IsThere (terminals n) t → ⊥) → 0 ≡ class_in n t
class_absent n t none = sym (absent (terminals n) n.classes t (λ h. none (in_place t (terminals n) h)))

-- a netlist has a port of a name exactly where that is a terminal
port_in : (n : Netlist) (name : Name) → In (port name) (terminals n) → In (port name) (map (λ (p : Port). port p.name) n.ports)
port_in n name h = elim (In-split (port name) (map (λ (p : Port). port p.name) n.ports) (flat_map pins_of n.instances) h) [
  | inl a ↦ a
  | inr b ↦
      let i = flat_in pins_of (port name) n.instances b in
      let p = In-map_back (pin_of i.0.name) (port name) i.0.pins i.2 in
      let never : Some i.0.name ≡ None = ap (λ (t : Terminal). t.instance) p.2 in
      absurd cc
]

has_port : (n : Netlist) (name : Name) → In (port name) (terminals n) → list_any (λ p. is_same_name p.name name) n.ports ≡ true
has_port n name h =
    let r = In-map_back (λ (p : Port). port p.name) (port name) n.ports (port_in n name h) in
    let same : r.0.name ≡ name = ap (λ (t : Terminal). t.pin) r.2 in
    in_any (λ (p : Port). is_same_name p.name name) n.ports r.0 r.1 (ap (λ (x : Name). is_same_name x name) same ∙ same_name-itself name)

has_no_port : (n : Netlist) (name : Name) → (In (port name) (terminals n) → ⊥) → list_any (λ p. is_same_name p.name name) n.ports ≡ false
has_no_port n name none =
    not_any (λ (p : Port). is_same_name p.name name) n.ports (λ p h same.
    none (In-left (port name) (map (λ (q : Port). port q.name) n.ports) (flat_map pins_of n.instances)
    (subst (λ (x : Name). In (port x) (map (λ (q : Port). port q.name) n.ports)) (same_name-true p.name name same) (In-map (λ (q : Port). port q.name) p n.ports h))))

supply_there : (n : Netlist) → IsNetlist n → (name : Name) (new k : ℕ) → HasClass n (port name) k → k ≡ on_supply n name new
supply_there n sound name new k h =
    class_there n sound (port name) k h
    ∙ sym (ap (λ (b : Bool). if b then class_in n (port name) else n.count + new) (has_port n name (member_at (terminals n) h.0 (port name) h.1)))

supply_absent : (n : Netlist) (name : Name) (new : ℕ) → (IsThere (terminals n) (port name) → ⊥) → n.count + new ≡ on_supply n name new
supply_absent n name new none =
    sym (ap (λ (b : Bool). if b then class_in n (port name) else n.count + new) (has_no_port n name (λ h. none (in_place (port name) (terminals n) h))))

-- ---- by what a search in the netlist gave

pub found_class : (n : Netlist) → IsNetlist n → (t : Terminal) (o : Option ℕ) (k : ℕ) → IsClassOf n t o → o ≡ Some k → k ≡ class_in n t
found_class n sound t o k is some = class_there n sound t k (subst (λ (x : Option ℕ). IsClassOf n t x) some is)

pub found_none : (n : Netlist) (t : Terminal) (o : Option ℕ) → IsClassOf n t o → o ≡ None → 0 ≡ class_in n t
found_none n t o is none = class_absent n t (subst (λ (x : Option ℕ). IsClassOf n t x) none is)

pub found_supply : (n : Netlist) → IsNetlist n → (name : Name) (new : ℕ) (o : Option ℕ) (k : ℕ) → IsClassOf n (port name) o → o ≡ Some k → k ≡ on_supply n name new
found_supply n sound name new o k is some = supply_there n sound name new k (subst (λ (x : Option ℕ). IsClassOf n (port name) x) some is)

pub found_no_supply : (n : Netlist) (name : Name) (new count : ℕ) (o : Option ℕ) → IsClassOf n (port name) o → o ≡ None → count ≡ n.count → count + new ≡ on_supply n name new
found_no_supply n name new count o is none same =
    ap (λ (k : ℕ). k + new) same ∙ supply_absent n name new (subst (λ (x : Option ℕ). IsClassOf n (port name) x) none is)
