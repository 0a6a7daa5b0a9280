-- Gates put in behind classes, and the bits of classes.
use Rattle.std.proofs.Common.{◌≡◌, ◌≢◌, inl, inr, ℕ, suc, ◌<◌, ◌≤◌, Bool, true, false, List, [], ◌∷◌, ◌++◌, map, Some, refl, sym, ◌∙◌, ap, subst, arith, nat_eq, eqb-true, eq-eqb, append_assoc, append-nil, if◌then◌else◌}
use Rattle.std.proofs.lemmas.List.{map-append}
use Rattle.std.specs.List.{list_any}
use Rattle.vlsi_base.specs.declared.name.Name.{Name}
use Rattle.vlsi_base.specs.declared.name.Port.{Port}
use Rattle.vlsi_base.specs.declared.name.Terminal.{Terminal}
use Rattle.vlsi_base.specs.Names.{vdd, vss}
use Rattle.vlsi_base.specs.Member.{In, here}
use Rattle.bool_expr.specs.Expression.{val}
use Rattle.machine_core.specs.Named.{is_same_name}
use Rattle.cell_model.specs.Cell.{Cell, cell_inputs}
use Rattle.cell_model.specs.Library.{Library}
use Rattle.cell_model.proofs.Members.{In-split, In-left, In-right, In-map}
use Rattle.cell_model.proofs.Texts.{text_differs}
use Rattle.net_core.specs.Netlist.{Instance, port, pin_of, terminals_of}
use Rattle.loon_fanout.specs.Sinks.{Wired, is_same_owner}
use Rattle.loon_fanout.specs.Wired.{pin_class, with_gate}
use Rattle.loon_fanout.specs.Laws.{gate_named}
use Rattle.loon_fanout.proofs.Picking.{is_false}
use Rattle.loon_fanout.proofs.RightPins.{own_class, input, output, in_inputs, in_outputs, input_class, output_class}
use Rattle.loon_fanout.proofs.RightStates.{IsGateCell}
use Rattle.net_bits.proofs.Lists.{In-one, input_pin, output_pin, Origin, of_port, of_pin, origin, port_in, pin_in, more_in}

abbrev pub all_terminals : Wired → List Terminal
all_terminals w = terminals_of w.ports w.instances

-- the classes of terminals are below the count
abbrev pub AreNumbered : Wired → Type 0
AreNumbered w = (t : Terminal) → In t (all_terminals w) → w.class t < w.count

module _ (l : Library) (c : Cell) (b : IsGateCell l c) where
  abbrev pub value : Bool → Bool
  value v = val b.expr (v ∷ [])

  abbrev pub read_pin : List ℕ → Terminal
  read_pin name = pin_of name (input l c b)

  abbrev pub driven_pin : List ℕ → Terminal
  driven_pin name = pin_of name (output l c b)

  -- the gates of these names have their values, where classes have these bits
  abbrev pub HaveValues : (ℕ → Bool) → Wired → List (List ℕ) → Type 0
  HaveValues f w names = (name : List ℕ) → In name names → f (w.class (driven_pin name)) ≡ value (f (w.class (read_pin name)))

  -- The second has gates of these names behind the instances of the first. The bits of the first one's classes go on to bits by which the
  -- gates have their values; and by such bits the terminals of the first have the same bits in both.
  pub record Behind (w u : Wired) (names : List (List ℕ)) : Type 0 where
    pub ports : u.ports ≡ w.ports
    pub instances : u.instances ≡ w.instances ++ map (gate_named c) names
    pub more : w.count ≤ u.count
    pub numbered : AreNumbered u
    pub forth : (f : ℕ → Bool) → (g : ℕ → Bool) × ((k : ℕ) → k < w.count → g k ≡ f k) × HaveValues g u names
    pub back : (f : ℕ → Bool) → HaveValues f u names → (t : Terminal) → In t (all_terminals w) → f (u.class t) ≡ f (w.class t)

  pub nothing_behind : (w : Wired) → AreNumbered w → Behind w w []
  nothing_behind w numbered = record {
    ports = refl;
    instances = sym (append-nil w.instances);
    more = omega arith;
    numbered = numbered;
    forth = λ f. (f, λ k low. refl, λ name h. elim h [ ]);
    back = λ f values t h. refl;
  }

  -- terminals of the first are terminals of the second
  pub kept_in : (w u : Wired) (names : List (List ℕ)) → Behind w u names → (t : Terminal) → In t (all_terminals w) → In t (all_terminals u)
  kept_in w u names h t t_in =
      subst (λ (is : List Instance). In t (terminals_of u.ports is)) (sym h.instances)
      (subst (λ (ps : List Port). In t (terminals_of ps (w.instances ++ map (gate_named c) names))) (sym h.ports)
      (more_in w.ports w.instances (map (gate_named c) names) t t_in))

  gate_in : (w u : Wired) (names : List (List ℕ)) → Behind w u names → (name : List ℕ) → In name names → In (gate_named c name) u.instances
  gate_in w u names h name name_in =
      subst (λ (is : List Instance). In (gate_named c name) is) (sym h.instances)
      (In-right (gate_named c name) w.instances (map (gate_named c) names) (In-map (gate_named c) name names name_in))

  -- and so are the pins of the gates
  pub read_in : (w u : Wired) (names : List (List ℕ)) → Behind w u names → (name : List ℕ) → In name names → In (read_pin name) (all_terminals u)
  read_in w u names h name name_in =
      pin_in u.ports u.instances (gate_named c name) (input l c b) (gate_in w u names h name name_in) (input_pin c (input l c b) (in_inputs l c b))

  pub driven_in : (w u : Wired) (names : List (List ℕ)) → Behind w u names → (name : List ℕ) → In name names → In (driven_pin name) (all_terminals u)
  driven_in w u names h name name_in =
      pin_in u.ports u.instances (gate_named c name) (output l c b) (gate_in w u names h name name_in) (output_pin c (output l c b) (in_outputs l c b))

  -- ---- one after the other

  module _ (w u z : Wired) (names others : List (List ℕ)) (h : Behind w u names) (k : Behind u z others) where
    first_values : (f : ℕ → Bool) → HaveValues f z (names ++ others) → HaveValues f u names
    first_values f values name name_in =
        let later = λ (x : List ℕ) (x_in : In x others). values x (In-right x names others x_in) in
        sym (k.back f later (driven_pin name) (driven_in w u names h name name_in))
        ∙ values name (In-left name names others name_in)
        ∙ ap value (k.back f later (read_pin name) (read_in w u names h name name_in))

    forth_both : (f : ℕ → Bool) → (g : ℕ → Bool) × ((j : ℕ) → j < w.count → g j ≡ f j) × HaveValues g z (names ++ others)
    forth_both f =
        let p = h.forth f in
        let q = k.forth p.0 in
        let same = λ (t : Terminal) (t_in : In t (all_terminals u)). k.back q.0 q.2 t t_in ∙ q.1 (u.class t) (h.numbered t t_in) in
        let more = h.more in (
          q.0,
          λ j low. q.1 j (omega (arith, low, more)) ∙ p.1 j low,
          λ name name_in. elim (In-split name names others name_in) [
            | inl first ↦
                same (driven_pin name) (driven_in w u names h name first) ∙ p.2 name first
                ∙ ap value (sym (same (read_pin name) (read_in w u names h name first)))
            | inr later ↦ q.2 name later
          ],
        )

    pub both_behind : Behind w z (names ++ others)
    both_behind = record {
      ports = k.ports ∙ h.ports;
      instances =
          k.instances
          ∙ ap (λ (is : List Instance). is ++ map (gate_named c) others) h.instances
          ∙ append_assoc w.instances (map (gate_named c) names) (map (gate_named c) others)
          ∙ ap (λ (is : List Instance). w.instances ++ is) (sym (map-append (gate_named c) names others));
      more = let a = h.more in let d = k.more in omega (arith, a, d);
      numbered = k.numbered;
      forth = forth_both;
      back = λ f values t t_in.
          k.back f (λ x x_in. values x (In-right x names others x_in)) t (kept_in w u names h t t_in)
          ∙ h.back f (first_values f values) t t_in;
    }

  -- ---- one gate more

  module _ (w0 w : Wired) (names : List (List ℕ)) (h : Behind w0 w names) (read : ℕ) (low : read < w.count) (name : List ℕ)
      (new : (i : Instance) → In i w.instances → i.name ≢ name)
      (on_vdd : In (port vdd) (all_terminals w)) (on_vss : In (port vss) (all_terminals w)) where
    abbrev after : Wired
    after = with_gate c w read name

    other_owner : (t : Terminal) → Origin w.ports w.instances t → is_same_owner t.instance (Some name) ≡ false
    other_owner t (of_port p p_in e) = subst (λ (x : Terminal). is_same_owner x.instance (Some name) ≡ false) e refl
    other_owner t (of_pin i pin i_in q e) =
        subst (λ (x : Terminal). is_same_owner x.instance (Some name) ≡ false) e (text_differs i.name name (new i i_in))

    pub class_kept : (t : Terminal) → In t (all_terminals w) → after.class t ≡ w.class t
    class_kept t t_in = ap (λ (x : Bool). if x then pin_class w c read t.pin else w.class t) (other_owner t (origin w.ports w.instances t t_in))

    pub read_class : after.class (read_pin name) ≡ read
    read_class = own_class c w name read (input l c b) ∙ input_class l c b w read

    pub driven_class : after.class (driven_pin name) ≡ w.count
    driven_class = own_class c w name read (output l c b) ∙ output_class l c b w read

    low_pin : (pin : Name) → pin_class w c read pin < suc w.count
    low_pin pin = by (is_same_name pin vdd) (is_same_name pin vss) (list_any (λ x. is_same_name x pin) (cell_inputs c)) where
      by : (x y z : Bool) → (if x then w.class (port vdd) else if y then w.class (port vss) else if z then read else w.count) < suc w.count
      by true y z = let below = h.numbered (port vdd) on_vdd in omega (arith, below)
      by false true z = let below = h.numbered (port vss) on_vss in omega (arith, below)
      by false false true = omega (arith, low)
      by false false false = omega arith

    low_old : (t : Terminal) → In t (all_terminals w) → after.class t < suc w.count
    low_old t t_in = let below = h.numbered t t_in in let same = class_kept t t_in in omega (arith, below, same)

    numbered_after : AreNumbered after
    numbered_after t t_in = by (origin w.ports after.instances t t_in) where
      by : Origin w.ports after.instances t → after.class t < suc w.count
      by (of_port p p_in e) = subst (λ (x : Terminal). after.class x < suc w.count) e (low_old (port p.name) (port_in w.ports w.instances p p_in))
      by (of_pin i pin i_in q e) = elim (In-split i w.instances (gate_named c name ∷ []) i_in) [
        | inl old ↦ subst (λ (x : Terminal). after.class x < suc w.count) e (low_old (pin_of i.name pin) (pin_in w.ports w.instances i pin old q))
        | inr last ↦
            let named : i.name ≡ name = ap (λ (x : Instance). x.name) (In-one (gate_named c name) i last) in
            let own = own_class c w name read pin in
            let below = low_pin pin in
            let mine : after.class (pin_of name pin) < suc w.count = omega (arith, own, below) in
            subst (λ (x : Terminal). after.class x < suc w.count) e (subst (λ (x : List ℕ). after.class (pin_of x pin) < suc w.count) (sym named) mine)
      ]

    -- the gates so far have their values as before
    pub earlier : (f : ℕ → Bool) → HaveValues f after (names ++ name ∷ []) → HaveValues f w names
    earlier f values x x_in =
        sym (ap f (class_kept (driven_pin x) (driven_in w0 w names h x x_in)))
        ∙ values x (In-left x names (name ∷ []) x_in)
        ∙ ap (λ (k : ℕ). value (f k)) (class_kept (read_pin x) (read_in w0 w names h x x_in))

    -- and the new one has the value of what it reads
    pub new_value : (f : ℕ → Bool) → HaveValues f after (names ++ name ∷ []) → f w.count ≡ value (f read)
    new_value f values = sym (ap f driven_class) ∙ values name (In-right name names (name ∷ []) here) ∙ ap (λ (k : ℕ). value (f k)) read_class

    module _ (f : ℕ → Bool) where
      before : (g : ℕ → Bool) × ((k : ℕ) → k < w0.count → g k ≡ f k) × HaveValues g w names
      before = h.forth f

      abbrev wider : ℕ → Bool
      wider k = if nat_eq k w.count then value (before.0 read) else before.0 k

      wider_old : (k : ℕ) → k < w.count → wider k ≡ before.0 k
      wider_old k below =
          ap (λ (x : Bool). if x then value (before.0 read) else before.0 k)
          (is_false (nat_eq k w.count) (λ e. let same = eqb-true k w.count e in absurd (omega (arith, same, below))))

      wider_new : wider w.count ≡ value (before.0 read)
      wider_new = ap (λ (x : Bool). if x then value (before.0 read) else before.0 w.count) (eq-eqb w.count w.count refl)

      wider_at : (t : Terminal) → In t (all_terminals w) → wider (after.class t) ≡ before.0 (w.class t)
      wider_at t t_in = ap wider (class_kept t t_in) ∙ wider_old (w.class t) (h.numbered t t_in)

      forth_after : (g : ℕ → Bool) × ((k : ℕ) → k < w0.count → g k ≡ f k) × HaveValues g after (names ++ name ∷ [])
      forth_after = let more = h.more in (
        wider,
        λ k below. wider_old k (omega (arith, below, more)) ∙ before.1 k below,
        λ x x_in. elim (In-split x names (name ∷ []) x_in) [
          | inl old ↦
              wider_at (driven_pin x) (driven_in w0 w names h x old) ∙ before.2 x old
              ∙ ap value (sym (wider_at (read_pin x) (read_in w0 w names h x old)))
          | inr last ↦
              subst (λ (y : List ℕ). wider (after.class (driven_pin y)) ≡ value (wider (after.class (read_pin y)))) (sym (In-one name x last))
              (ap wider driven_class ∙ wider_new ∙ ap value (sym (ap wider read_class ∙ wider_old read low)))
        ],
      )

    pub gate_behind : Behind w0 after (names ++ name ∷ [])
    gate_behind = record {
      ports = h.ports;
      instances =
          ap (λ (is : List Instance). is ++ gate_named c name ∷ []) h.instances
          ∙ append_assoc w0.instances (map (gate_named c) names) (gate_named c name ∷ [])
          ∙ ap (λ (is : List Instance). w0.instances ++ is) (sym (map-append (gate_named c) names (name ∷ [])));
      more = let m = h.more in omega (arith, m);
      numbered = numbered_after;
      forth = forth_after;
      back = λ f values t t_in. ap f (class_kept t (kept_in w0 w names h t t_in)) ∙ h.back f (earlier f values) t t_in;
    }
