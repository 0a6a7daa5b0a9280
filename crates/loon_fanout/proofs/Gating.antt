-- The netlist that is built of a wiring and of the gates that were put in.
use Rattle.std.proofs.Common.{◌≡◌, ◌↔◌, ℕ, zero, suc, ◌+◌, ◌^◌, ◌<◌, ◌≤◌, Bool, true, false, not, ◌&&◌, ◌||◌, List, [], ◌∷◌, ◌++◌, map, filter, length, Option, Some, codes, bytes_eq, refl, sym, ◌∙◌, ap, subst, arith, append-nil, length-append, nat_eq, eqb-true}
use Rattle.std.specs.Prelude.{IfOk, Result, Ok, Err}
use Rattle.std.specs.List.{All, flat_map}
use Rattle.vlsi_base.specs.declared.name.Name.{Name}
use Rattle.vlsi_base.specs.declared.name.Port.{Port}
use Rattle.vlsi_base.specs.declared.name.Terminal.{Terminal}
use Rattle.vlsi_base.specs.Names.{vdd, vss}
use Rattle.vlsi_base.specs.Member.{In, here, there, AllDifferent}
use Rattle.cell_model.specs.Library.{Library}
use Rattle.cell_model.proofs.Members.{All-In, All-from, In-map, In-map_back}
use Rattle.cell_pins.proofs.Ports.{in_filter}
use Rattle.net_core.specs.declared.frame.Node.{Node}
use Rattle.net_core.specs.Frame.{instance_of}
use Rattle.net_core.specs.Netlist.{Instance, Netlist as InMemory, IsNetlist, AreInOrder, port, pins_of, terminals_of, terminals, HasClass}
use Rattle.net_core.specs.Places.{Stands, NoneTwice}
use Rattle.net_core.proofs.Lookups.{itself}
use Rattle.net_right.proofs.Lists.{map_twice, in_place}
use Rattle.text_names.specs.Free.{is_free}
use Rattle.text_names.specs.Laws.{TextsAreFree}
use Rattle.net_theory.proofs.Basics.{length-map}
use Rattle.loon_fanout.specs.declared.build.Entry.{Entry}
use Rattle.loon_fanout.specs.declared.build.Sketch.{Sketch}
use Rattle.loon_wiring.specs.declared.repeater.Repeater.{Repeater as Parts}
use Rattle.loon_wiring.specs.declared.wiring.Wiring.{Wiring}
use Rattle.loon_fanout.specs.Sinks.{Wired, is_supply_class, sinks, instance_sinks, class_among, wired_of}
use Rattle.loon_fanout.specs.Building.{instance_by, IsBuildable, IsBuilt}
use Rattle.loon_fanout.specs.Gated.{gate_names, gates_by, gated, gated_terminals, IsGatable, IsGated}
use Rattle.loon_fanout.specs.Limited.{IsNetlistOf, HasFanout}
use Rattle.loon_wiring.specs.Stages.{next_class}
use Rattle.loon_fanout.proofs.Terminals.{class_of_map, class_is}
use Rattle.loon_fanout.proofs.Picking.{filter_same, different_append, different_of, twice_of}
use Rattle.loon_fanout.proofs.Supplies.{eq_itself, eq_not, readers, net_sinks, is_net, sink_reads}
use Rattle.loon_fanout.proofs.Sinking.{all_terminals, all_sinks, names_in, sink_there}
use Rattle.loon_fanout.proofs.Following.{Follows}

pub nodes_named : (models : List (List ℕ)) (nodes : List Node) → map (λ i. i.name) (map (instance_of models) nodes) ≡ map (λ i. i.name) nodes
nodes_named models nodes = map_twice (λ (i : Instance). i.name) (instance_of models) nodes

-- ---- what is built

all_map : {A B : Type 0} (f : A → B) (P : B → Type 0) (xs : List A) → All P (map f xs) → All (λ x. P (f x)) xs
all_map f P xs all = All-from (λ x. P (f x)) xs (λ x i. All-In P (map f xs) all (f x) (In-map f x xs i))

module _ (n : InMemory) (r : Option Parts) (v : Wiring) (s : Sketch) (entries : map instance_by s.entries.items ≡ gated n r v) (classes : s.classes.items ≡ v.classes.items)
    (count : s.count ≡ next_class v) where
  abbrev listed : List Instance → List Terminal
  listed is = terminals_of n.ports is

  pub can_build : IsGatable n r v → IsBuildable n s
  can_build can = record {
    order = can.order;
    pins = all_map instance_by (λ i. AreInOrder i.pins) s.entries.items (subst (λ (is : List Instance). All (λ i. AreInOrder i.pins) is) (sym entries) can.pins);
    names = subst (λ (ns : List (List ℕ)). NoneTwice ns)
        (ap (map (λ (i : Instance). i.name)) (sym entries) ∙ map_twice (λ (i : Instance). i.name) instance_by s.entries.items) can.names;
    many = let a = length-map instance_by s.entries.items in let b = ap length entries in let h = can.many in omega (arith, a, b, h);
    few = subst (λ (is : List Instance). length (listed is) < 2 ^ 32) (sym entries) can.few;
    each = ap length classes ∙ can.each ∙ ap (λ (is : List Instance). length (listed is)) (sym entries);
    inside = subst (λ (ks : List ℕ). All (λ class. class < s.count) ks) (sym classes)
        (subst (λ (m : ℕ). All (λ class. class < m) v.classes.items) (sym count) can.inside);
  }

  pub is_gated : (k : InMemory) → IsBuilt n s k → IsGated n r v k
  is_gated k b = record {
    name = b.name;
    ports = b.ports;
    instances = b.instances ∙ entries;
    classes = λ x y i j p q.
        subst (λ (ks : List ℕ). (i ≡ j) ↔ (class_among (gated_terminals n r v) ks x ≡ class_among (gated_terminals n r v) ks y)) classes
        (subst (λ (is : List Instance). (i ≡ j) ↔ (class_among (listed is) s.classes.items x ≡ class_among (listed is) s.classes.items y)) entries
        (b.classes x y i j p q));
  }

pub if_one : {T E : Type 0} (P Q : T → Type 0) (r : Result T E) → ((x : T) → P x → Q x) → IfOk r P → IfOk r Q
if_one P Q (Ok x) f p = f x p
if_one P Q (Err e) f p = tt

-- the instances of the entries
pub entries_are : (n : InMemory) (r : Option Parts) (v : Wiring) (models : List (List ℕ)) (nodes : List Node) (names : List (List ℕ)) (empty given all : List Entry) → empty ≡ []
    → map instance_by given ≡ map instance_by empty ++ map (instance_of models) nodes → map instance_by all ≡ map instance_by given ++ gates_by r names
    → map (instance_of n.models) nodes ≡ n.instances → models ≡ n.models → names ≡ gate_names n (length v.reads.items) → map instance_by all ≡ gated n r v
entries_are n r v models nodes names empty given all none_yet is_given is_all seen same named =
    is_all
    ∙ ap (λ (is : List Instance). is ++ gates_by r names)
    (is_given ∙ ap (λ (es : List Entry). map instance_by es ++ map (instance_of models) nodes) none_yet ∙ ap (λ (ms : List (List ℕ)). map (instance_of ms) nodes) same ∙ seen)
    ∙ ap (λ (ns : List (List ℕ)). n.instances ++ gates_by r ns) named

-- ---- what it is of

-- instances with pins are no more than the pins
pub instances_few : (is : List Instance) → ((i : Instance) → In i is → 0 < length i.pins) → length is ≤ length (flat_map pins_of is)
instances_few [] each = omega arith
instances_few (i ∷ is) each =
    let a = each i here in
    let b = instances_few is (λ j k. each j (there k)) in
    let m = length-map (pin i) i.pins in
    let n = length-append (pins_of i) (flat_map pins_of is) in
    omega (arith, a, b, m, n) where
      pin : Instance → Name → Terminal
      pin i x = record { instance = Some i.name; pin = x }

module _ (l : Library) (n : InMemory) (r : Option Parts) (v : Wiring) (w : Wired) (f : Follows l [] v w) (ports : w.ports ≡ n.ports) (instances : w.instances ≡ gated n r v) where
  abbrev of_parts : List Port → List Instance → List Terminal
  of_parts ps is = terminals_of ps is

  terms : all_terminals w ≡ gated_terminals n r v
  terms = ap (λ (ps : List Port). terminals_of ps w.instances) ports ∙ ap (terminals_of n.ports) instances

  pub can_gate : AreInOrder (map (λ p. p.name) n.ports) → ((i : Instance) → In i w.instances → AreInOrder i.pins × (0 < length i.pins)) → length (all_terminals w) < 2 ^ 32 → length v.reads.items < 2 ^ 32 → IsGatable n r v
  can_gate order pins few gates = record {
    order = order;
    pins = subst (λ (is : List Instance). All (λ i. AreInOrder i.pins) is) instances (All-from (λ (i : Instance). AreInOrder i.pins) w.instances (λ i k. (pins i k).0));
    names = subst (λ (is : List Instance). NoneTwice (map (λ i. i.name) is)) instances
        (twice_of (names_in w) (subst (λ (ns : List (List ℕ)). AllDifferent ns) (append-nil (names_in w)) f.names));
    many =
        let a = instances_few w.instances (λ i k. (pins i k).1) in
        let b = length-append (map (λ (p : Port). port p.name) w.ports) (flat_map pins_of w.instances) in
        let e = ap length instances in omega (arith, a, b, e, few);
    few = subst (λ (ts : List Terminal). length ts < 2 ^ 32) terms few;
    gates = gates;
    each = ap length f.classes ∙ length-map w.class (all_terminals w) ∙ ap length terms;
    inside = subst (λ (m : ℕ). All (λ class. class < m) v.classes.items) f.count
        (subst (λ (ks : List ℕ). All (λ class. class < w.count) ks) (sym f.classes)
        (All-from (λ (k : ℕ). k < w.count) (map w.class (all_terminals w)) (λ k i.
        let t = In-map_back w.class k (all_terminals w) i in subst (λ (j : ℕ). j < w.count) t.2 (f.below t.0 t.1))));
  }

  pub is_of : (k : InMemory) → IsGated n r v k → IsNetlistOf k w
  is_of k g = record {
    ports = g.ports ∙ sym ports;
    instances = g.instances ∙ sym instances;
    classes = λ a b i j p q.
        let x = told a i p in let y = told b j q in let c = g.classes a b i j p q in
        (λ e. sym x ∙ c.0 e ∙ y, λ e. c.1 (x ∙ e ∙ sym y));
  } where
    here_too : terminals k ≡ all_terminals w
    here_too = ap (λ (ps : List Port). terminals_of ps k.instances) (g.ports ∙ sym ports) ∙ ap (terminals_of w.ports) (g.instances ∙ sym instances)

    told : (t : Terminal) (i : ℕ) → HasClass k t i → class_among (gated_terminals n r v) v.classes.items t ≡ w.class t
    told t i h =
        ap (λ (ts : List Terminal). class_among ts v.classes.items t) (sym terms)
        ∙ ap (λ (ks : List ℕ). class_among (all_terminals w) ks t) f.classes
        ∙ class_of_map (all_terminals w) w.class t (h.0, subst (λ (ts : List Terminal). Stands ts h.0 t) here_too h.1)

-- ---- no net has more sinks

module _ (l : Library) (limit : ℕ) (k : InMemory) (w : Wired) (of : IsNetlistOf k w) (sound : IsNetlist k) (once : NoneTwice (terminals k))
    (few : (class : ℕ) → length (sinks l w class) ≤ limit) (on_vdd : In (port vdd) (terminals k)) (on_vss : In (port vss) (terminals k)) where
  -- the class of a terminal that is there
  class_at : (t : Terminal) → In t (terminals k) → HasClass k t ((wired_of k).class t)
  class_at t i =
      let s = in_place t (terminals k) i in
      let c = there_is (terminals k) k.classes sound.each s.0 t s.1 in
      (s.0, s.1, subst (λ (j : ℕ). Stands k.classes s.0 j) (sym (class_is (terminals k) k.classes t s.0 c.0 once s.1 c.1)) c.1) where
        there_is : (ts : List Terminal) (ks : List ℕ) → length ks ≡ length ts → (p : ℕ) (t : Terminal) → Stands ts p t → (c : ℕ) × Stands ks p c
        there_is [] ks many p t at = absurd cc
        there_is (u ∷ ts) [] many p t at = absurd (omega (arith, many))
        there_is (u ∷ ts) (c ∷ ks) many zero t at = (c, refl)
        there_is (u ∷ ts) (c ∷ ks) many (suc p) t at = there_is ts ks (omega (arith, many)) p t at

  agree : (t u : Terminal) → In t (terminals k) → In u (terminals k) → nat_eq ((wired_of k).class u) ((wired_of k).class t) ≡ nat_eq (w.class u) (w.class t)
  agree t u i j = by (nat_eq (w.class u) (w.class t)) refl where
    same : ((wired_of k).class u ≡ (wired_of k).class t) ↔ (w.class u ≡ w.class t)
    same = of.classes u t ((wired_of k).class u) ((wired_of k).class t) (class_at u j) (class_at t i)

    by : (b : Bool) → nat_eq (w.class u) (w.class t) ≡ b → nat_eq ((wired_of k).class u) ((wired_of k).class t) ≡ b
    by true e = ap (λ (x : ℕ). nat_eq x ((wired_of k).class t)) (same.1 (eqb-true (w.class u) (w.class t) e)) ∙ eq_itself ((wired_of k).class t)
    by false e = eq_not ((wired_of k).class u) ((wired_of k).class t) (λ h.
        let wrong : true ≡ false = sym (eq_itself (w.class t)) ∙ ap (λ (x : ℕ). nat_eq x (w.class t)) (sym (same.0 h)) ∙ e in cc wrong)

  -- a terminal's class is a net where it is one there
  net_at : (t : Terminal) → In t (terminals k) → is_supply_class (wired_of k) ((wired_of k).class t) ≡ is_supply_class w (w.class t)
  net_at t i =
      ap (λ (b : Bool). b || nat_eq ((wired_of k).class (port vss)) ((wired_of k).class t)) (agree t (port vdd) i on_vdd)
      ∙ ap (λ (b : Bool). nat_eq (w.class (port vdd)) (w.class t) || b) (agree t (port vss) i on_vss)

  pub has_fanout : HasFanout l limit k
  has_fanout class = by (sinks l (wired_of k) class) refl where
    by : (ts : List Terminal) → sinks l (wired_of k) class ≡ ts → length (sinks l (wired_of k) class) ≤ limit
    by [] e = let n = ap length e in omega (arith, n)
    by (t ∷ ts) e =
        let sunk : In t (sinks l (wired_of k) class) = subst (λ (us : List Terminal). In t us) (sym e) here in
        let net = is_net l (wired_of k) class t sunk in
        let i = in_filter (λ (u : Terminal). nat_eq ((wired_of k).class u) class) (all_sinks l (wired_of k)) t (sink_reads l (wired_of k) class t sunk) in
        let is : (wired_of k).class t ≡ class = eqb-true ((wired_of k).class t) class i.1 in
        let i_in = sink_there l (wired_of k) t i.0 in
        let net_w : is_supply_class w (w.class t) ≡ false = sym (net_at t i_in) ∙ ap (is_supply_class (wired_of k)) is ∙ net in
        let whole : sinks l (wired_of k) class ≡ sinks l w (w.class t) =
        net_sinks l (wired_of k) class net
        ∙ ap (readers l (wired_of k)) (sym is)
        ∙ filter_same (λ u. nat_eq ((wired_of k).class u) ((wired_of k).class t)) (λ u. nat_eq (w.class u) (w.class t)) (all_sinks l (wired_of k))
        (λ u j. agree t u i_in (sink_there l (wired_of k) u j))
        ∙ ap (λ (is : List Instance). filter (λ u. nat_eq (w.class u) (w.class t)) (flat_map (instance_sinks l) is)) of.instances
        ∙ sym (net_sinks l w (w.class t) net_w) in
        let n = ap length whole in let h = few (w.class t) in omega (arith, n, h)

-- ---- names

free_not : (taken : List (List ℕ)) (text : List ℕ) → is_free taken text ≡ true → In text taken → ⊥
free_not [] text h i = elim i [ ]
free_not (t ∷ taken) text h here = by (bytes_eq t t) (itself t) h where
  by : (b : Bool) → b ≡ true → (not b && is_free taken t) ≡ true → ⊥
  by true e h = absurd (cc h)
  by false e h = absurd (cc e)
free_not (t ∷ taken) text h (there i) = by (bytes_eq t text) h (λ k. free_not taken text k i) where
  by : (b : Bool) → (not b && is_free taken text) ≡ true → (is_free taken text ≡ true → ⊥) → ⊥
  by true h rest = absurd (cc h)
  by false h rest = rest h

pub names_apart : TextsAreFree → (n : InMemory) (many : ℕ) → IsNetlist n → many + length n.instances < 2 ^ 64
    → AllDifferent (map (λ i. i.name) n.instances ++ gate_names n many) × (length (gate_names n many) ≡ many)
names_apart law n many sound room =
    let taken : List (List ℕ) = map (λ (i : Instance). i.name) n.instances in
    let m = length-map (λ (i : Instance). i.name) n.instances in
    let a = law (codes "b") taken many (omega (arith, m, room)) in (
      different_append taken (gate_names n many) (different_of taken sound.names) a.different
          (λ t i j. free_not taken t (All-In (λ u. is_free taken u ≡ true) (gate_names n many) a.free t j) i),
      a.each,
    )
