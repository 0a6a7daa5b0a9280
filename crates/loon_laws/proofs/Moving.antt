-- A group of sinks put behind a row of gates, and the bits of classes.
use Rattle.std.proofs.Common.{◌≡◌, ◌≢◌, inl, inr, ℕ, suc, ◌-◌, ◌<◌, Bool, true, false, not, List, [], ◌∷◌, ◌++◌, map, None, Some, refl, sym, ◌∙◌, ap, subst, arith, if◌then◌else◌}
use Rattle.std.specs.List.{list_any}
use Rattle.vlsi_base.specs.declared.name.Name.{Name}
use Rattle.vlsi_base.specs.declared.name.Terminal.{Terminal}
use Rattle.vlsi_base.specs.Names.{vdd, vss}
use Rattle.vlsi_base.specs.Member.{In}
use Rattle.bool_expr.specs.Expression.{val}
use Rattle.cell_model.specs.Cell.{Cell}
use Rattle.cell_model.specs.Library.{Library}
use Rattle.cell_model.proofs.Members.{In-left, In-split}
use Rattle.net_core.specs.Netlist.{Instance, port, pin_of}
use Rattle.loon_fanout.specs.Sinks.{Wired, is_same_terminal}
use Rattle.loon_fanout.specs.Wired.{with_gate, with_moved, with_group}
use Rattle.loon_fanout.specs.Laws.{gate_named}
use Rattle.loon_fanout.proofs.Picking.{is_false, any_in}
use Rattle.loon_fanout.proofs.Terminals.{terminal_same}
use Rattle.loon_fanout.proofs.RightPins.{input, output}
use Rattle.loon_fanout.proofs.RightStates.{IsGateCell}
use Rattle.loon_fanout.proofs.RightRounds.{AreNew}
use Rattle.net_bits.proofs.Lists.{In-one, Origin, of_port, of_pin, origin}
use Rattle.loon_laws.proofs.Behind.{all_terminals, AreNumbered, value, HaveValues, Behind, kept_in, earlier, new_value, gate_behind}

-- a terminal with this class
pub record Reads (w : Wired) (k : ℕ) (t : Terminal) : Type 0 where
  pub listed : In t (all_terminals w)
  pub class : w.class t ≡ k

module _ (l : Library) (c : Cell) (b : IsGateCell l c) where
  -- no instance of the first netlist has one of these names
  abbrev pub AreApart : Wired → List (List ℕ) → Type 0
  AreApart w names = (name : List ℕ) → In name names → (i : Instance) → In i w.instances → i.name ≢ name

  -- ---- terminals moved

  module _ (w0 w : Wired) (names : List (List ℕ)) (h : Behind l c b w0 w names) (apart : AreApart w0 names) (k : ℕ) (group : List Terminal)
      (each : (t : Terminal) → In t group → Reads w0 k t) (some : 0 < w.count) (last : (f : ℕ → Bool) → HaveValues l c b f w names → f (w.count - 1) ≡ f k) where
    abbrev after : Wired
    after = with_moved group w

    abbrev moved : Terminal → Bool
    moved t = list_any (is_same_terminal t) group

    in_group : (t : Terminal) → moved t ≡ true → In t group
    in_group t e = let u = any_in (is_same_terminal t) group e in subst (λ (x : Terminal). In x group) (sym (terminal_same t u.0 u.2)) u.1

    -- pins of the gates stay
    pin_stays : (name : List ℕ) (pin : Name) → In name names → moved (pin_of name pin) ≡ false
    pin_stays name pin name_in = is_false (moved (pin_of name pin)) (λ e. wrong (origin w0.ports w0.instances (pin_of name pin) (each (pin_of name pin) (in_group (pin_of name pin) e)).listed)) where
      wrong : Origin w0.ports w0.instances (pin_of name pin) → ⊥
      wrong (of_port p p_in e) = let no : None ≡ Some name = ap (λ (t : Terminal). t.instance) e in absurd (cc no)
      wrong (of_pin i q i_in q_in e) = let both : Some i.name ≡ Some name = ap (λ (t : Terminal). t.instance) e in apart name name_in i i_in (cc both)

    pin_class_kept : (name : List ℕ) (pin : Name) → In name names → after.class (pin_of name pin) ≡ w.class (pin_of name pin)
    pin_class_kept name pin name_in = ap (λ (x : Bool). if x then w.count - 1 else w.class (pin_of name pin)) (pin_stays name pin name_in)

    values_to : (f : ℕ → Bool) → HaveValues l c b f w names → HaveValues l c b f after names
    values_to f values name name_in =
        ap f (pin_class_kept name (output l c b) name_in) ∙ values name name_in
        ∙ ap (λ (x : ℕ). value l c b (f x)) (sym (pin_class_kept name (input l c b) name_in))

    values_from : (f : ℕ → Bool) → HaveValues l c b f after names → HaveValues l c b f w names
    values_from f values name name_in =
        sym (ap f (pin_class_kept name (output l c b) name_in)) ∙ values name name_in
        ∙ ap (λ (x : ℕ). value l c b (f x)) (pin_class_kept name (input l c b) name_in)

    numbered_after : AreNumbered after
    numbered_after t t_in = by (moved t) where
      by : (x : Bool) → (if x then w.count - 1 else w.class t) < w.count
      by true = omega (arith, some)
      by false = h.numbered t t_in

    back_after : (f : ℕ → Bool) → HaveValues l c b f after names → (t : Terminal) → In t (all_terminals w0) → f (after.class t) ≡ f (w0.class t)
    back_after f values t t_in = by (moved t) refl where
      by : (x : Bool) → moved t ≡ x → f (if x then w.count - 1 else w.class t) ≡ f (w0.class t)
      by true e = last f (values_from f values) ∙ ap f (sym (each t (in_group t e)).class)
      by false e = h.back f (values_from f values) t t_in

    pub moved_behind : Behind l c b w0 after names
    moved_behind = record {
      ports = h.ports;
      instances = h.instances;
      more = h.more;
      numbered = numbered_after;
      forth = λ f. let p = h.forth f in (p.0, p.1, values_to p.0 p.2);
      back = back_after;
    }

  -- ---- a group

  -- gates behind a netlist, and names that are left
  pub record Grown (w0 w : Wired) (names left : List (List ℕ)) : Type 0 where
    pub behind : Behind l c b w0 w names
    pub apart : AreApart w0 names
    pub rest : AreNew c left w.instances

  one_less : (x : ℕ) → suc x - 1 ≡ x
  one_less x = omega arith

  twice_not : (v : Bool) → not (not v) ≡ v
  twice_not true = refl
  twice_not false = refl

  -- what is new behind the first netlist is new to it
  apart_more : (w0 w : Wired) (names : List (List ℕ)) → Behind l c b w0 w names → AreApart w0 names → (name : List ℕ)
      → ((i : Instance) → In i w.instances → i.name ≢ name)
      → AreApart w0 (names ++ name ∷ [])
  apart_more w0 w names h apart name new x x_in i i_in = elim (In-split x names (name ∷ []) x_in) [
    | inl old ↦ apart x old i i_in
    | inr last ↦
        let there : In i w.instances = subst (λ (is : List Instance). In i is) (sym h.instances) (In-left i w0.instances (map (gate_named c) names) i_in) in
        subst (λ (y : List ℕ). i.name ≢ y) (sym (In-one name x last)) (new i there)
  ]

  module _ (w0 w : Wired) (k : ℕ) (low : k < w0.count) (on_vdd : In (port vdd) (all_terminals w0)) (on_vss : In (port vss) (all_terminals w0))
      (group : List Terminal)
      (each : (t : Terminal) → In t group → Reads w0 k t) (names : List (List ℕ)) (h : Behind l c b w0 w names) (apart : AreApart w0 names) where
    low_here : k < w.count
    low_here = let m = h.more in omega (arith, low, m)

    vdd_here : In (port vdd) (all_terminals w)
    vdd_here = kept_in l c b w0 w names h (port vdd) on_vdd

    vss_here : In (port vss) (all_terminals w)
    vss_here = kept_in l c b w0 w names h (port vss) on_vss

    pub one_gate : ((v : Bool) → val b.expr (v ∷ []) ≡ v) → (name : List ℕ) (left : List (List ℕ)) → ((i : Instance) → In i w.instances → i.name ≢ name)
        → AreNew c left (w.instances ++ gate_named c name ∷ []) → Grown w0 (with_group c w k (name ∷ []) group) (names ++ name ∷ []) left
    one_gate gives name left new rest =
        let u = with_gate c w k name in
        let g = gate_behind l c b w0 w names h k low_here name new vdd_here vss_here in
        let apart_u = apart_more w0 w names h apart name new in
        record {
          behind = moved_behind w0 u (names ++ name ∷ []) g apart_u k group each (omega arith)
              (λ f values. ap f (one_less w.count) ∙ new_value l c b w0 w names h k low_here name new vdd_here vss_here f values ∙ gives (f k));
          apart = apart_u;
          rest = rest;
        }

    pub two_gates : ((v : Bool) → val b.expr (v ∷ []) ≡ not v) → (first second : List ℕ) (left : List (List ℕ))
        → ((i : Instance) → In i w.instances → i.name ≢ first)
        → ((i : Instance) → In i (w.instances ++ gate_named c first ∷ []) → i.name ≢ second)
        → AreNew c left ((w.instances ++ gate_named c first ∷ []) ++ gate_named c second ∷ [])
        → Grown w0 (with_group c w k (first ∷ second ∷ []) group) ((names ++ first ∷ []) ++ second ∷ []) left
    two_gates inverts first second left new_first new_second rest =
        let u = with_gate c w k first in
        let z = with_gate c u w.count second in
        let g = gate_behind l c b w0 w names h k low_here first new_first vdd_here vss_here in
        let vdd_u = kept_in l c b w0 u (names ++ first ∷ []) g (port vdd) on_vdd in
        let vss_u = kept_in l c b w0 u (names ++ first ∷ []) g (port vss) on_vss in
        let low_u : w.count < u.count = omega arith in
        let d = gate_behind l c b w0 u (names ++ first ∷ []) g w.count low_u second new_second vdd_u vss_u in
        let apart_z = apart_more w0 u (names ++ first ∷ []) g (apart_more w0 w names h apart first new_first) second new_second in
        record {
          behind = moved_behind w0 z ((names ++ first ∷ []) ++ second ∷ []) d apart_z k group each (omega arith) (λ f values.
              ap f (one_less u.count)
              ∙ new_value l c b w0 u (names ++ first ∷ []) g w.count low_u second new_second vdd_u vss_u f values
              ∙ ap (value l c b)
              (new_value l c b w0 w names h k low_here first new_first vdd_here vss_here f
              (earlier l c b w0 u (names ++ first ∷ []) g w.count low_u second new_second vdd_u vss_u f values))
              ∙ turned (f k));
          apart = apart_z;
          rest = rest;
        } where
          turned : (v : Bool) → value l c b (value l c b v) ≡ v
          turned v = ap (value l c b) (inverts v) ∙ inverts (not v) ∙ twice_not v
