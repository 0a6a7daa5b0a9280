-- The nets of pins by their classes.
use Rattle.std.proofs.Common.{◌≡◌, inl, inr, add-one, false, ℕ, zero, suc, ◌+◌, ◌<◌, ◌≤◌, Bool, cond, List, [], ◌∷◌, map, filter, length, drop, get_or, refl, sym, ap, ap₂, subst, ◌∙◌, arith, flat_map}
use Rattle.std.specs.Global.{Vec}
use Rattle.std.proofs.lemmas.List.{length-map, length-append}
use Rattle.vlsi_base.specs.declared.name.Name.{Name}
use Rattle.vlsi_base.specs.declared.name.Port.{Port}
use Rattle.vlsi_base.specs.Names.{vdd, vss}
use Rattle.vlsi_base.specs.Member.{In, here, there}
use Rattle.machine_core.specs.Named.{is_same_name}
use Rattle.cell_model.specs.Access.{count_to}
use Rattle.cell_model.specs.Library.{Library}
use Rattle.cell_model.proofs.Members.{In-split}
use Rattle.cell_checks.specs.Checked.{IsChecked as HasPassed}
use Rattle.cell_pins.proofs.Ports.{in_filter}
use Rattle.net_core.specs.Places.{Stands}
use Rattle.net_core.specs.Netlist.{Netlist as InMemory, IsNetlist}
use Rattle.net_core.specs.Netlist as core
use Rattle.net_core.proofs.Frames.{mapped}
use Rattle.net_core.proofs.Standing.{stands_left}
use Rattle.net_meaning.specs.Netlist.{AbstractNetlist, port}
use Rattle.net_right.specs.View.{IsSeenAs}
use Rattle.net_right.proofs.Terminals.{seen_ports, seen_classes}
use Rattle.row_meaning.specs.declared.Pin.{Pin}
use Rattle.row_descent.proofs.Views.{at_map}
use Rattle.ocp_rows.specs.Length.{is_net}
use Rattle.ocp_place.specs.Drawable.{IsDrawableIn}
use Rattle.ocp_place.specs.Ports.{class_named}
use Rattle.ocp_place.proofs.Groups.{named_is}
use Rattle.ocp_place.proofs.Lists.{different_names}
use Rattle.ocp_place.proofs.Seen.{orderly}
use Rattle.ocp_anneal.specs.declared.cells.Tied.{Tied}
use Rattle.ocp_anneal.specs.Cells.{pins_in, AreNets, is_other, other_nets, signal_nets}

-- one more port
step : (test : Port → Bool) (ports : List Port) (classes : List ℕ) (k before after : ℕ) (p : Port) (c : ℕ) → k < length ports → k < length classes → p ≡ get_or ports k p → c ≡ get_or classes k c
    → after ≡ cond (test p) c before → class_named test after (drop (suc k) ports) (drop (suc k) classes) ≡ class_named test before (drop k ports) (drop k classes)
step test [] classes k before after p c low under is also e = absurd (omega arith)
step test (q ∷ ports) [] k before after p c low under is also e = absurd (omega arith)
step test (q ∷ ports) (d ∷ classes) zero before after p c low under is also e =
    ap (λ (x : ℕ). class_named test x ports classes) (e ∙ ap₂ (λ (b : Bool) (x : ℕ). cond b x before) (ap test is) also)
step test (q ∷ ports) (d ∷ classes) (suc k) before after p c low under is also e =
    step test ports classes k before after p c (omega arith) (omega arith) is also e

pub named_next : (test : Port → Bool) (ports : List Port) (classes : List ℕ) (k before after : ℕ) (p : Port) (c : ℕ) → k < length ports → k < length classes → p ≡ get_or ports k p → c ≡ get_or classes k c
    → after ≡ cond (test p) c before → class_named test after (drop (k + 1) ports) (drop (k + 1) classes) ≡ class_named test before (drop k ports) (drop k classes)
named_next test ports classes k before after p c low under is also e =
    ap (λ (j : ℕ). class_named test after (drop j ports) (drop j classes)) (add-one k) ∙ step test ports classes k before after p c low under is also e

-- each port has a class
pub ports_fit : (n : InMemory) → IsNetlist n → length n.ports ≤ length n.classes
ports_fit n sound =
    let each = sound.each in
    let ports = length-map n.ports (λ (p : Port). core.port p.name) in
    let whole = length-append (map (λ p. core.port p.name) n.ports) (flat_map core.pins_of n.instances) in
    omega (arith, each, ports, whole)

pub counted_low : (k class : ℕ) → In class (count_to k) → class < k
counted_low zero class i = elim i [ ]
counted_low (suc k) class i = elim (In-split class (count_to k) (k ∷ []) i) [
  | inl a ↦ let h = counted_low k class a in omega (arith, h)
  | inr b ↦ last class b
] where
  last : (x : ℕ) → In x (k ∷ []) → x < suc k
  last x here = omega arith
  last x (there j) = elim j [ ]

mapped_alike : {X : Type 0} (f g : ℕ → X) (ks : List ℕ) → ((k : ℕ) → In k ks → f k ≡ g k) → map f ks ≡ map g ks
mapped_alike f g [] each = refl
mapped_alike {X} f g (k ∷ ks) each = ap₂ (λ (x : X) (xs : List X). x ∷ xs) (each k here) (mapped_alike f g ks (λ j i. each j (there i)))

abbrev pub items : Vec Pin → List Pin
items v = v.items

module _ (l : Library) (n : InMemory) (passed : HasPassed false l) (given : IsDrawableIn l n) where
  module _ (k : AbstractNetlist) (seen : IsSeenAs n k) where
    class_of : (j : ℕ) (p : Port) (c : ℕ) → Stands n.ports j p → Stands n.classes j c → k.class (port p.name) ≡ c
    class_of j p c s t =
        seen.classes.each (port p.name) c (j, stands_left (map (λ q. core.port q.name) n.ports) (flat_map core.pins_of n.instances) j (port p.name) (mapped (λ (q : Port). core.port q.name) n.ports j p s), t)

    supply_class : (name : Name) → In name k.ports → class_named (λ p. is_same_name p.name name) 0 n.ports n.classes ≡ k.class (port name)
    supply_class name i =
        named_is (λ x. k.class (port x)) name 0 n.ports n.classes (ports_fit n given.sound) (different_names (map (λ p. p.name) n.ports) given.sound.ports)
        (subst (λ (names : List Name). In name names) (seen_ports n k seen) i) class_of

    -- the nets of all classes but those of supplies
    pub nets_are : (pins : List Tied) (nets : List (Vec Pin)) (high low : ℕ) → length nets ≡ n.count → AreNets pins nets
        → high ≡ class_named (λ p. is_same_name p.name vdd) 0 n.ports n.classes → low ≡ class_named (λ p. is_same_name p.name vss) 0 n.ports n.classes
        → other_nets high low (map items nets) ≡ signal_nets k pins
    nets_are pins nets high low many groups high_is low_is =
        let o = orderly l n passed given k seen in
        let classes : length (map items nets) ≡ k.classes = length-map nets items ∙ many ∙ sym (seen_classes n k seen) in
        let at : ℕ → List Pin = λ c. get_or (map items nets) c [] in
        ap (λ (h : ℕ). map at (filter (is_other h low) (count_to (length (map items nets))))) (high_is ∙ supply_class vdd o.has_vdd)
        ∙ ap (λ (h : ℕ). map at (filter (is_other (k.class (port vdd)) h) (count_to (length (map items nets))))) (low_is ∙ supply_class vss o.has_vss)
        ∙ ap (λ (m : ℕ). map at (filter (is_net k) (count_to m))) classes
        ∙ mapped_alike at (λ c. pins_in c pins) (filter (is_net k) (count_to k.classes))
        (λ c i.
        let r = in_filter (is_net k) (count_to k.classes) c i in
        let low = counted_low k.classes c r.0 in
        let under : c < length nets = (let a = length-map nets items in omega arith) in
        each c under)
      where
        each : (c : ℕ) → c < length nets → get_or (map items nets) c [] ≡ pins_in c pins
        each c under = by nets groups under where
          by : (vs : List (Vec Pin)) → AreNets pins vs → c < length vs → get_or (map items vs) c [] ≡ pins_in c pins
          by [] g u = absurd (omega arith)
          by (v ∷ vs) g u = at_map items (v ∷ vs) c v [] u ∙ g.each c v u
