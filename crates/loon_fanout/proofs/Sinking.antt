-- The sinks of the classes after gates are put in, and after sinks are moved.
use Rattle.std.proofs.Common.{◌≡◌, ◌≢◌, inl, inr, ℕ, ◌-◌, Bool, true, false, not, ◌&&◌, List, [], ◌∷◌, ◌++◌, map, filter, Some, refl, sym, ◌∙◌, ap, subst, append-nil, nat_eq, eqb-true, if◌then◌else◌}
use Rattle.std.proofs.lemmas.Grind.{flat_map-append}
use Rattle.std.specs.List.{flat_map, list_any}
use Rattle.vlsi_base.specs.declared.name.Name.{Name}
use Rattle.vlsi_base.specs.declared.name.Port.{Port}
use Rattle.vlsi_base.specs.declared.name.Terminal.{Terminal}
use Rattle.vlsi_base.specs.Names.{vdd, vss}
use Rattle.vlsi_base.specs.Member.{In, AllDifferent}
use Rattle.cell_model.specs.Cell.{Cell}
use Rattle.cell_model.specs.Library.{Library, cell_of}
use Rattle.cell_model.proofs.Members.{In-split, In-left, In-right, In-map, In-map_back}
use Rattle.cell_model.proofs.Texts.{text_itself, text_differs}
use Rattle.cell_pins.proofs.Ports.{in_filter}
use Rattle.net_core.specs.Netlist.{Instance, port, pin_of, pins_of, terminals_of}
use Rattle.net_right.proofs.Lists.{filter_in}
use Rattle.loon_loads.specs.Sinks.{is_sink_of}
use Rattle.loon_fanout.specs.Sinks.{Wired, instance_sinks, is_supply_class, sinks, is_same_owner, is_same_terminal}
use Rattle.loon_fanout.specs.Wired.{pin_class, with_gate, with_moved}
use Rattle.loon_fanout.specs.Laws.{gate_named}
use Rattle.loon_fanout.proofs.Terminals.{terminal_same, terminal_itself}
use Rattle.loon_fanout.proofs.Picking.{flat_in, in_flat, is_false, any_in, in_any, filter_append, filter_same, filter_twice, filter_all, filter_none, different_filter, different_apart}
use Rattle.loon_fanout.proofs.Supplies.{eq_itself, eq_not, supply_same, readers, net_sinks}
use Rattle.loon_fanout.proofs.Gates.{IsGate}

-- ---- terminals

abbrev pub all_terminals : Wired → List Terminal
all_terminals w = terminals_of w.ports w.instances

abbrev pub all_sinks : Library → Wired → List Terminal
all_sinks l w = flat_map (instance_sinks l) w.instances

abbrev pub names_in : Wired → List (List ℕ)
names_in w = map (λ i. i.name) w.instances

-- a sink belongs to an instance, and is one of its pins
pub record Owned (l : Library) (w : Wired) (t : Terminal) : Type 0 where
  pub owner : Instance
  pub listed : In owner w.instances
  pub pin : Name
  pub among : In pin owner.pins
  pub is : pin_of owner.name pin ≡ t

pub sink_owned : (l : Library) (w : Wired) (t : Terminal) → In t (all_sinks l w) → Owned l w t
sink_owned l w t i =
    let r = flat_in (instance_sinks l) t w.instances i in
    let p = In-map_back (pin_of r.0.name) t (filter (is_sink_of (cell_of l r.0.model)) r.0.pins) r.2 in
    record { owner = r.0; listed = r.1; pin = p.0; among = (in_filter (is_sink_of (cell_of l r.0.model)) r.0.pins p.0 p.1).0; is = p.2 }

pub sink_there : (l : Library) (w : Wired) (t : Terminal) → In t (all_sinks l w) → In t (all_terminals w)
sink_there l w t i =
    let o = sink_owned l w t i in
    subst (λ (u : Terminal). In u (all_terminals w)) o.is
    (In-right (pin_of o.owner.name o.pin) (map (λ p. port p.name) w.ports) (flat_map pins_of w.instances)
    (in_flat pins_of o.owner (pin_of o.owner.name o.pin) w.instances o.listed (In-map (pin_of o.owner.name) o.pin o.owner.pins o.among)))

-- a terminal of a netlist doesn't belong to a new instance
pub not_new : (w : Wired) (name : List ℕ) (t : Terminal) → (In name (names_in w) → ⊥) → In t (all_terminals w) → is_same_owner t.instance (Some name) ≡ false
not_new w name t new i = elim (In-split t (map (λ p. port p.name) w.ports) (flat_map pins_of w.instances) i) [
  | inl a ↦ let r = In-map_back (λ (p : Port). port p.name) t w.ports a in subst (λ (u : Terminal). is_same_owner u.instance (Some name) ≡ false) r.2 refl
  | inr b ↦
      let r = flat_in pins_of t w.instances b in
      let p = In-map_back (pin_of r.0.name) t r.0.pins r.2 in
      subst (λ (u : Terminal). is_same_owner u.instance (Some name) ≡ false) p.2
      (text_differs r.0.name name (λ e. new (subst (λ (n : List ℕ). In n (names_in w)) e (In-map (λ (x : Instance). x.name) r.0 w.instances r.1))))
]

-- ---- a gate

abbrev pub its_input : List ℕ → Name → ℕ → ℕ → List Terminal
its_input name input read k = if nat_eq read k then pin_of name input ∷ [] else []

pub own_class : (c : Cell) (w : Wired) (read : ℕ) (name : List ℕ) (pin : Name) → (with_gate c w read name).class (pin_of name pin) ≡ pin_class w c read pin
own_class c w read name pin = ap (λ (b : Bool). if b then pin_class w c read pin else w.class (pin_of name pin)) (text_itself name)

pub old_class : (c : Cell) (w : Wired) (read : ℕ) (name : List ℕ) → (In name (names_in w) → ⊥) → (t : Terminal) → In t (all_terminals w)
    → (with_gate c w read name).class t ≡ w.class t
old_class c w read name new t i = ap (λ (b : Bool). if b then pin_class w c read t.pin else w.class t) (not_new w name t new i)

abbrev gate_test : Cell → Wired → ℕ → List ℕ → ℕ → Terminal → Bool
gate_test c w read name k t = nat_eq ((with_gate c w read name).class t) k

readers_gate : (l : Library) (c : Cell) (input : Name) → IsGate l c input → (w : Wired) (read : ℕ) (name : List ℕ) → (In name (names_in w) → ⊥) → (k : ℕ)
    → readers l (with_gate c w read name) k ≡ readers l w k ++ its_input name input read k
readers_gate l c input g w read name new k =
    ap (filter (gate_test c w read name k)) (flat_map-append (instance_sinks l) w.instances (gate_named c name ∷ []))
    ∙ filter_append (gate_test c w read name k) (all_sinks l w) (instance_sinks l (gate_named c name) ++ [])
    ∙ ap (λ (ts : List Terminal). ts ++ filter (gate_test c w read name k) (instance_sinks l (gate_named c name) ++ []))
    (filter_same (gate_test c w read name k) (λ t. nat_eq (w.class t) k) (all_sinks l w) (λ t i. ap (λ (j : ℕ). nat_eq j k) (old_class c w read name new t (sink_there l w t i))))
    ∙ ap (λ (ns : List Name). readers l w k ++ filter (gate_test c w read name k) (map (pin_of name) ns ++ [])) g.sinks
    ∙ ap (λ (j : ℕ). readers l w k ++ (if nat_eq j k then pin_of name input ∷ [] else [])) (own_class c w read name input ∙ g.reads w read)

-- a gate that reads a net adds its input to it
pub sinks_gate : (l : Library) (c : Cell) (input : Name) → IsGate l c input → (w : Wired) (read : ℕ) (name : List ℕ) → (In name (names_in w) → ⊥) → is_supply_class w read ≡ false
    → (k : ℕ) → sinks l (with_gate c w read name) k ≡ sinks l w k ++ its_input name input read k
sinks_gate l c input g w read name new net k = by (is_supply_class w k) refl where
  by : (b : Bool) → is_supply_class w k ≡ b
      → (if b then [] else readers l (with_gate c w read name) k) ≡ (if b then [] else readers l w k) ++ its_input name input read k
  by true e = sym (ap (λ (b : Bool). if b then pin_of name input ∷ [] else []) (eq_not read k (λ same.
      let wrong : true ≡ false = sym e ∙ ap (is_supply_class w) (sym same) ∙ net in cc wrong)))
  by false e = readers_gate l c input g w read name new k

-- ---- sinks that are moved

record MovedReaders (l : Library) (m : Wired) (group rest : List Terminal) (class last : ℕ) : Type 0 where
  left : readers l (with_moved group m) class ≡ rest
  gone : readers l (with_moved group m) last ≡ group
  other : (k : ℕ) → k ≢ class → k ≢ last → readers l (with_moved group m) k ≡ readers l m k

module _ (l : Library) (m : Wired) (group rest : List Terminal) (class last : ℕ) (is_last : m.count - 1 ≡ last) (apart : class ≢ last)
    (has : readers l m class ≡ group ++ rest) (empty : readers l m last ≡ []) (different : AllDifferent (all_sinks l m)) where
  abbrev among : Terminal → Bool
  among t = list_any (is_same_terminal t) group

  among_in : (t : Terminal) → among t ≡ true → In t group
  among_in t e = let r = any_in (is_same_terminal t) group e in subst (λ (u : Terminal). In u group) (sym (terminal_same t r.0 r.2)) r.1

  in_among : (t : Terminal) → In t group → among t ≡ true
  in_among t i = in_any (is_same_terminal t) group t i (terminal_itself t)

  among_class : (t : Terminal) → among t ≡ true → m.class t ≡ class
  among_class t e =
      let i : In t (readers l m class) = subst (λ (ts : List Terminal). In t ts) (sym has) (In-left t group rest (among_in t e)) in
      eqb-true (m.class t) class (in_filter (λ (u : Terminal). nat_eq (m.class u) class) (all_sinks l m) t i).1

  parts_differ : AllDifferent (group ++ rest)
  parts_differ = subst (λ (ts : List Terminal). AllDifferent ts) has (different_filter (λ t. nat_eq (m.class t) class) (all_sinks l m) different)

  rest_not : (t : Terminal) → In t rest → among t ≡ false
  rest_not t i = is_false (among t) (λ e. different_apart group rest parts_differ t (among_in t e) i)

  abbrev class_after : Terminal → ℕ
  class_after t = if among t then m.count - 1 else m.class t

  none_last : (t : Terminal) → In t (all_sinks l m) → nat_eq (m.class t) last ≡ false
  none_last t i = is_false (nat_eq (m.class t) last) (λ e.
      elim (subst (λ (ts : List Terminal). In t ts) empty (filter_in (λ (u : Terminal). nat_eq (m.class u) last) (all_sinks l m) t i e)) [ ])

  and_true : (b : Bool) → (b && true) ≡ b
  and_true true = refl
  and_true false = refl

  and_false : (b : Bool) → (b && false) ≡ false
  and_false true = refl
  and_false false = refl

  left_test : (t : Terminal) → nat_eq (class_after t) class ≡ (nat_eq (m.class t) class && not (among t))
  left_test t = by (among t) refl where
    by : (b : Bool) → among t ≡ b → nat_eq (if b then m.count - 1 else m.class t) class ≡ (nat_eq (m.class t) class && not b)
    by true e =
        ap (λ (k : ℕ). nat_eq k class) is_last ∙ eq_not last class (λ h. apart (sym h))
        ∙ sym (ap (λ (k : ℕ). nat_eq k class && false) (among_class t e) ∙ ap (λ (b : Bool). b && false) (eq_itself class))
    by false e = sym (and_true (nat_eq (m.class t) class))

  gone_test : (t : Terminal) → In t (all_sinks l m) → nat_eq (class_after t) last ≡ (nat_eq (m.class t) class && among t)
  gone_test t i = by (among t) refl where
    by : (b : Bool) → among t ≡ b → nat_eq (if b then m.count - 1 else m.class t) last ≡ (nat_eq (m.class t) class && b)
    by true e =
        ap (λ (k : ℕ). nat_eq k last) is_last ∙ eq_itself last
        ∙ sym (ap (λ (k : ℕ). nat_eq k class && true) (among_class t e) ∙ ap (λ (b : Bool). b && true) (eq_itself class))
    by false e = none_last t i ∙ sym (and_false (nat_eq (m.class t) class))

  other_test : (k : ℕ) → k ≢ class → k ≢ last → (t : Terminal) → nat_eq (class_after t) k ≡ nat_eq (m.class t) k
  other_test k p q t = by (among t) refl where
    by : (b : Bool) → among t ≡ b → nat_eq (if b then m.count - 1 else m.class t) k ≡ nat_eq (m.class t) k
    by true e =
        ap (λ (j : ℕ). nat_eq j k) is_last ∙ eq_not last k (λ h. q (sym h))
        ∙ sym (ap (λ (j : ℕ). nat_eq j k) (among_class t e) ∙ eq_not class k (λ h. p (sym h)))
    by false e = refl

  readers_moved : MovedReaders l m group rest class last
  readers_moved = record {
    left =
        filter_same (λ t. nat_eq (class_after t) class) (λ t. nat_eq (m.class t) class && not (among t)) (all_sinks l m) (λ t i. left_test t)
        ∙ sym (filter_twice (λ t. not (among t)) (λ t. nat_eq (m.class t) class) (all_sinks l m))
        ∙ ap (filter (λ t. not (among t))) has
        ∙ filter_append (λ t. not (among t)) group rest
        ∙ ap (λ (ts : List Terminal). ts ++ filter (λ t. not (among t)) rest) (filter_none (λ t. not (among t)) group (λ t i. ap not (in_among t i)))
        ∙ filter_all (λ t. not (among t)) rest (λ t i. ap not (rest_not t i));
    gone =
        filter_same (λ t. nat_eq (class_after t) last) (λ t. nat_eq (m.class t) class && among t) (all_sinks l m) (λ t i. gone_test t i)
        ∙ sym (filter_twice among (λ t. nat_eq (m.class t) class) (all_sinks l m))
        ∙ ap (filter among) has
        ∙ filter_append among group rest
        ∙ ap (λ (ts : List Terminal). ts ++ filter among rest) (filter_all among group (λ t i. in_among t i))
        ∙ ap (λ (ts : List Terminal). group ++ ts) (filter_none among rest (λ t i. rest_not t i))
        ∙ append-nil group;
    other = λ k p q. filter_same (λ t. nat_eq (class_after t) k) (λ t. nat_eq (m.class t) k) (all_sinks l m) (λ t i. other_test k p q t);
  }

pub record Moved (l : Library) (m : Wired) (group rest : List Terminal) (class last : ℕ) : Type 0 where
  pub left : sinks l (with_moved group m) class ≡ rest
  pub gone : sinks l (with_moved group m) last ≡ group
  pub other : (k : ℕ) → k ≢ class → k ≢ last → sinks l (with_moved group m) k ≡ sinks l m k

-- from a net to another one, where the ports of supplies stay in their classes
pub sinks_moved : (l : Library) (m : Wired) (group rest : List Terminal) (class last : ℕ) → m.count - 1 ≡ last → class ≢ last → sinks l m class ≡ group ++ rest → sinks l m last ≡ []
    → AllDifferent (all_sinks l m) → (with_moved group m).class (port vdd) ≡ m.class (port vdd) → (with_moved group m).class (port vss) ≡ m.class (port vss)
    → is_supply_class m class ≡ false → is_supply_class m last ≡ false → Moved l m group rest class last
sinks_moved l m group rest class last is_last apart has empty different high low net net_last = record {
  left = net_sinks l (with_moved group m) class (still class ∙ net) ∙ moved.left;
  gone = net_sinks l (with_moved group m) last (still last ∙ net_last) ∙ moved.gone;
  other = λ k p q.
      ap (λ (b : Bool). if b then [] else readers l (with_moved group m) k) (still k)
      ∙ ap (λ (ts : List Terminal). if is_supply_class m k then [] else ts) (moved.other k p q);
} where
  still : (k : ℕ) → is_supply_class (with_moved group m) k ≡ is_supply_class m k
  still k = supply_same m (with_moved group m) k high low

  moved : MovedReaders l m group rest class last
  moved =
      readers_moved l m group rest class last is_last apart (sym (net_sinks l m class net) ∙ has) (sym (net_sinks l m last net_last) ∙ empty) different
