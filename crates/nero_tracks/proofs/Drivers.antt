-- The classes of nets: each but those of the supplies is one, and none is twice.
use Rattle.std.proofs.Common.{◌≡◌, ◌≢◌, ◌⊎◌, inl, inr, ℕ, nat_eq, ◌+◌, ◌<◌, ◌≤◌, Bool, true, false, not, List, [], ◌∷◌, map, filter, length, Option, Some, None, refl, sym, ap, subst, ◌∙◌, arith}
use Rattle.std.specs.Prelude.{AllPairs}
use Rattle.std.proofs.lemmas.Option.{same_Some}
use Rattle.std.proofs.lemmas.Bool.{eqb-true, eq-eqb}
use Rattle.std.proofs.lemmas.List.Elements.{filter-append}
use Rattle.vlsi_base.specs.declared.name.Name.{Name}
use Rattle.vlsi_base.specs.declared.name.Port.{Port}
use Rattle.vlsi_base.specs.declared.name.Terminal.{Terminal}
use Rattle.vlsi_base.specs.Names.{vdd, vss}
use Rattle.vlsi_base.specs.Member.{In, here, there, AllDifferent}
use Rattle.machine_core.specs.Machine.{names_of, is_input}
use Rattle.cell_model.specs.Cell.{Function, gate, flip_flop, other, opaque, Cell, pin_ports, cell_outputs}
use Rattle.cell_model.specs.Library.{Library, cell_of, IsUsable, IsPlain}
use Rattle.cell_model.proofs.Members.{In-split, In-left, In-right, In-map, In-map_back}
use Rattle.cell_pins.proofs.Ports.{in_filter}
use Rattle.net_meaning.specs.Netlist.{Member, AbstractNetlist, port, pin_of, IsTerminal, a_port, a_pin}
use Rattle.net_theory.proofs.Basics.{In-names}
use Rattle.net_right.proofs.Lists.{filter_in}
use Rattle.net_right.proofs.Ports.{supplies_differ}
use Rattle.net_drawing.proofs.Coding.{same_name_false}
use Rattle.ocp_place.specs.Nets.{is_signal, signal_ports, port_classes, driven_by, driven, is_among, net_classes}
use Rattle.net_drawing.specs.Shown.{IsSupplyClass, IsOnNet}
use Rattle.ocp_place.specs.Orderly.{IsOutput, IsSource, from_port, from_output, IsOrderly}
use Rattle.ocp_place.proofs.Lists.{different_append, different_filter, different_names, first_differs, rest_differs, few, many}
use Rattle.nero_tracks.proofs.Among.{among_in, in_among}

-- ---- names

pub signal_true : (name : Name) → name ≢ vdd → name ≢ vss → is_signal name ≡ true
signal_true name p q = rw (same_name_false name vdd p, same_name_false name vss q) refl

pub signal_so : (name : Name) → is_signal name ≡ true → (name ≢ vdd) × (name ≢ vss)
signal_so name h = (
  λ e. let t : false ≡ true = subst (λ (x : Name). is_signal x ≡ true) e h in cc t,
  λ e. let t : false ≡ true = subst (λ (x : Name). is_signal x ≡ true) e h in cc t,
)

one_different : {A : Type 0} (f : A → ℕ) (xs : List A) → length xs ≡ 1 → AllDifferent (map f xs)
one_different f [] e = absurd (omega (arith, e))
one_different f (x ∷ []) e = (λ i. elim i [ ], tt)
one_different f (x ∷ y ∷ xs) e = absurd (omega (arith, e))

one_output : (c : Cell) (u : Function) → IsPlain c u → length (cell_outputs c) ≡ 1
one_output c (gate e) h = h.0
one_output c (flip_flop data_pin clock_pin) h = h.0
one_output c (other machine) h = absurd h
one_output c opaque h = absurd h

same_or_not : (a b : ℕ) → (a ≡ b) ⊎ (a ≡ b → ⊥)
same_or_not a b = by (nat_eq a b) refl where
  by : (r : Bool) → nat_eq a b ≡ r → (a ≡ b) ⊎ (a ≡ b → ⊥)
  by true e = inl (eqb-true a b e)
  by false e = inr (λ same. let f : true ≡ false = sym (eq-eqb a b same) ∙ e in cc f)

module _ (n : AbstractNetlist) (l : Library) (orderly : IsOrderly n l) where
  abbrev test : ℕ → Bool
  test class = not (is_among (port_classes n) class)

  abbrev others : List ℕ
  others = filter test (driven n l n.instances)

  -- ---- ports

  port_listed : (name : Name) → In name (signal_ports n) → In (n.class (port name)) (port_classes n)
  port_listed name i = In-map (λ (x : Name). n.class (port x)) name (signal_ports n) i

  -- a port in no supply's class is none of a supply
  signal_port : (name : Name) → In name n.ports → (IsSupplyClass n (n.class (port name)) → ⊥) → In name (signal_ports n)
  signal_port name i free =
      filter_in is_signal n.ports name i
      (signal_true name (λ e. free (inl (ap (λ (x : Name). n.class (port x)) e))) (λ e. free (inr (ap (λ (x : Name). n.class (port x)) e))))

  -- ---- output pins

  driven_member : (ms : List Member) (i : Member) (c : Cell) (name : Name) → In i ms → cell_of l i.model ≡ Some c → In name (cell_outputs c)
      → In (n.class (pin_of i.name name)) (driven n l ms)
  driven_member [] i c name h found out = elim h [ ]
  driven_member (j ∷ ms) i c name here found out =
      In-left (n.class (pin_of j.name name)) (driven_by n j.name (cell_of l j.model)) (driven n l ms)
      (subst (λ (o : Option Cell). In (n.class (pin_of j.name name)) (driven_by n j.name o)) (sym found) (In-map (λ (pin : Name). n.class (pin_of j.name pin)) name (cell_outputs c) out))
  driven_member (j ∷ ms) i c name (there h) found out =
      In-right (n.class (pin_of i.name name)) (driven_by n j.name (cell_of l j.model)) (driven n l ms) (driven_member ms i c name h found out)

  -- an output pin of one of these instances is in this class
  pub record Drives (ms : List Member) (k : ℕ) : Type 0 where
    pub member : Member
    pub cell : Cell
    pub pin : Name
    pub listed : In member ms
    pub found : cell_of l member.model ≡ Some cell
    pub out : In pin (cell_outputs cell)
    pub is : n.class (pin_of member.name pin) ≡ k

  drives_one : (one : Member) (rest : List Member) (k : ℕ) (o : Option Cell) → cell_of l one.model ≡ o → In k (driven_by n one.name o) → Drives (one ∷ rest) k
  drives_one one rest k None found h = elim h [ ]
  drives_one one rest k (Some c) found h =
      let r = In-map_back (λ (pin : Name). n.class (pin_of one.name pin)) k (cell_outputs c) h in
      record { member = one; cell = c; pin = r.0; listed = here; found = found; out = r.1; is = r.2 }

  drives_more : (one : Member) (rest : List Member) (k : ℕ) → Drives rest k → Drives (one ∷ rest) k
  drives_more one rest k d =
      record { member = d.member; cell = d.cell; pin = d.pin; listed = there d.listed; found = d.found; out = d.out; is = d.is }

  driven_back : (ms : List Member) (k : ℕ) → In k (driven n l ms) → Drives ms k
  driven_back [] k h = elim h [ ]
  driven_back (one ∷ rest) k h = elim (In-split k (driven_by n one.name (cell_of l one.model)) (driven n l rest) h) [
    | inl a ↦ drives_one one rest k (cell_of l one.model) refl a
    | inr b ↦ drives_more one rest k (driven_back rest k b)
  ]

  usable : (i : Member) (c : Cell) → In i n.instances → cell_of l i.model ≡ Some c → IsUsable c
  usable i c listed found =
      let r = orderly.models i listed in
      subst (λ (x : Cell). IsUsable x) (same_Some r.0 c (sym r.1 ∙ found)) r.2

  output : (i : Member) (c : Cell) (pin : Name) → In i n.instances → cell_of l i.model ≡ Some c → In pin (cell_outputs c) → IsOutput n l (pin_of i.name pin)
  output i c pin listed found out = record { owner = i; cell = c; pin = pin; listed = listed; found = found; gives = out; is = refl }

  output_terminal : (i : Member) (c : Cell) (pin : Name) → In i n.instances → cell_of l i.model ≡ Some c → In pin (cell_outputs c) → IsTerminal n l (pin_of i.name pin)
  output_terminal i c pin listed found out =
      let known : In pin (names_of (pin_ports c)) = In-names (λ (p : Port). not (is_input p.dir)) (pin_ports c) pin out in
      a_pin i c listed found (((usable i c listed found).connectors pin).1 (inr (inr known)))

  -- ---- each class but the supplies' is that of a net

  source_listed : (s t : Terminal) → IsSource n l s → n.class s ≡ n.class t → (IsSupplyClass n (n.class t) → ⊥) → is_among (port_classes n) (n.class t) ≡ false → In (n.class t) others
  source_listed s t (from_port name i is) e free none =
      let same : n.class (port name) ≡ n.class t = ap n.class (sym is) ∙ e in
      let signal = signal_port name i (λ x. free (subst (IsSupplyClass n) same x)) in
      let at : In (n.class t) (port_classes n) = subst (λ (k : ℕ). In k (port_classes n)) same (port_listed name signal) in
      absurd (let f : true ≡ false = sym (in_among (port_classes n) (n.class t) at) ∙ none in cc f)
  source_listed s t (from_output o) e free none =
      filter_in test (driven n l n.instances) (n.class t)
      (subst (λ (k : ℕ). In k (driven n l n.instances)) (ap n.class (sym o.is) ∙ e) (driven_member n.instances o.owner o.cell o.pin o.listed o.found o.gives)) (ap not none)

  pub listed : (t : Terminal) → IsOnNet n l t → In (n.class t) (net_classes n l)
  listed t h = by (is_among (port_classes n) (n.class t)) refl where
    by : (r : Bool) → is_among (port_classes n) (n.class t) ≡ r → In (n.class t) (net_classes n l)
    by true e = In-left (n.class t) (port_classes n) others (among_in (port_classes n) (n.class t) e)
    by false e =
        let d = orderly.sources t h.terminal in
        In-right (n.class t) (port_classes n) others (source_listed d.0 t d.1 d.2 h.free e)

  -- ---- and none is twice

  ports_differ : (names : List Name) → AllDifferent names → ((x : Name) → In x names → In x n.ports) → AllDifferent (map (λ name. n.class (port name)) names)
  ports_differ [] d each = tt
  ports_differ (x ∷ xs) d each = (
    λ i. let r = In-map_back (λ (name : Name). n.class (port name)) (n.class (port x)) xs i in
        d.0 (subst (λ (y : Name). In y xs) (orderly.apart r.0 x (each r.0 (there r.1)) (each x here) r.2) r.1),
    ports_differ xs d.1 (λ y i. each y (there i)),
  )

  -- two output pins of one class are those of one instance
  one_pin : (i j : Member) (c d : Cell) (p q : Name) → In i n.instances → In j n.instances → cell_of l i.model ≡ Some c → cell_of l j.model ≡ Some d
      → In p (cell_outputs c) → In q (cell_outputs d) → n.class (pin_of i.name p) ≡ n.class (pin_of j.name q) → i.name ≡ j.name
  one_pin i j c d p q li lj fi fj op oq e =
      let same : pin_of i.name p ≡ pin_of j.name q = orderly.outputs (pin_of i.name p) (pin_of j.name q) (output i c p li fi op) (output j d q lj fj oq) e in
      same_Some i.name j.name (ap (λ (t : Terminal). t.instance) same)

  own_different : (one : Member) → In one n.instances → (o : Option Cell) → cell_of l one.model ≡ o → AllDifferent (driven_by n one.name o)
  own_different one h None found = tt
  own_different one h (Some c) found =
      one_different (λ (pin : Name). n.class (pin_of one.name pin)) (cell_outputs c) (one_output c c.function (usable one c h found).function)

  others_differ : (ms : List Member) → ((i : Member) → In i ms → In i n.instances) → AllPairs (λ a b. a.name ≢ b.name) ms → AllDifferent (filter test (driven n l ms))
  others_differ [] each names = tt
  others_differ (one ∷ rest) each names =
      let own = driven_by n one.name (cell_of l one.model) in
      let more = driven n l rest in
      subst (λ (ks : List ℕ). AllDifferent ks) (sym (filter-append test own more))
      (different_append (filter test own) (filter test more)
      (different_filter test own (own_different one (each one here) (cell_of l one.model) refl))
      (others_differ rest (λ i j. each i (there j)) (rest_differs one rest names))
      (λ k p q. apart k (in_filter test own k p) (in_filter test more k q)))
    where
      apart : (k : ℕ) → In k (driven_by n one.name (cell_of l one.model)) × (test k ≡ true) → In k (driven n l rest) × (test k ≡ true) → ⊥
      apart k p q =
          let a = drives_one one [] k (cell_of l one.model) refl p.0 in
          let b = driven_back rest k q.0 in
          let first : a.member ≡ one = only a.member a.listed in
          let ia : In a.member n.instances = subst (λ (x : Member). In x n.instances) (sym first) (each one here) in
          let same : a.member.name ≡ b.member.name = one_pin a.member b.member a.cell b.cell a.pin b.pin ia (each b.member (there b.listed)) a.found b.found a.out b.out (a.is ∙ sym b.is) in
          first_differs one rest names b.member b.listed (ap (λ (x : Member). x.name) (sym first) ∙ same)
        where
          only : (i : Member) → In i (one ∷ []) → i ≡ one
          only i here = refl
          only i (there h) = elim h [ ]

  others_back : (k : ℕ) → In k others → Drives n.instances k × (test k ≡ true)
  others_back k i = let r = in_filter test (driven n l n.instances) k i in (driven_back n.instances k r.0, r.1)

  pub nets_differ : AllDifferent (net_classes n l)
  nets_differ =
      different_append (port_classes n) others
      (ports_differ (signal_ports n) (different_filter is_signal n.ports (different_names n.ports orderly.order)) (λ x i. (in_filter is_signal n.ports x i).0))
      (others_differ n.instances (λ i h. h) orderly.names)
      (λ k p q. let f : true ≡ false = sym (in_among (port_classes n) k p) ∙ none_of (is_among (port_classes n) k) (others_back k q).1 in cc f)
    where
      none_of : (b : Bool) → not b ≡ true → b ≡ false
      none_of true e = absurd (cc e)
      none_of false e = refl

  -- ---- the supplies' classes are none of them

  -- the class of a net is that of a terminal, and no supply's
  pub record IsNet (k : ℕ) : Type 0 where
    pub at : Terminal
    pub terminal : IsTerminal n l at
    pub is : n.class at ≡ k
    pub free : IsSupplyClass n k → ⊥

  pub port_free : (name : Name) → In name (signal_ports n) → IsSupplyClass n (n.class (port name)) → ⊥
  port_free name i x =
      let s = in_filter is_signal n.ports name i in
      let free = signal_so name s.1 in
      by x s.0 free
    where
      by : IsSupplyClass n (n.class (port name)) → In name n.ports → (name ≢ vdd) × (name ≢ vss) → ⊥
      by (inl e) h f = f.0 (orderly.apart name vdd h orderly.has_vdd e)
      by (inr e) h f = f.1 (orderly.apart name vss h orderly.has_vss e)

  net_of : (k : ℕ) → In k (net_classes n l) → IsNet k
  net_of k h = elim (In-split k (port_classes n) others h) [
    | inl a ↦
        let r = In-map_back (λ (name : Name). n.class (port name)) k (signal_ports n) a in
        let s = in_filter is_signal n.ports r.0 r.1 in
        record { at = port r.0; terminal = a_port s.0; is = r.2; free = subst (λ (c : ℕ). IsSupplyClass n c → ⊥) r.2 (port_free r.0 r.1) }
    | inr b ↦
        let d = (others_back k b).0 in
        let t = pin_of d.member.name d.pin in
        record {
          at = t;
          terminal = output_terminal d.member d.cell d.pin d.listed d.found d.out;
          is = d.is;
          free = subst (λ (c : ℕ). IsSupplyClass n c → ⊥) d.is (orderly.free t (output d.member d.cell d.pin d.listed d.found d.out));
        }
  ]

  abbrev all_classes : List ℕ
  all_classes = n.class (port vdd) ∷ n.class (port vss) ∷ net_classes n l

  -- no class of a supply is one of these
  pub not_net : (k : ℕ) → IsSupplyClass n k → In k (net_classes n l) → ⊥
  not_net k x h = (net_of k h).free x

  all_differ : AllDifferent all_classes
  all_differ = (first, (not_net (n.class (port vss)) (inr refl), nets_differ)) where
    first : In (n.class (port vdd)) (n.class (port vss) ∷ net_classes n l) → ⊥
    first h = elim (In-split (n.class (port vdd)) (n.class (port vss) ∷ []) (net_classes n l) h) [
      | inl a ↦ supplies_differ (orderly.apart vdd vss orderly.has_vdd orderly.has_vss (single (n.class (port vdd)) (n.class (port vss)) a))
      | inr b ↦ not_net (n.class (port vdd)) (inl refl) b
    ] where
      single : (x y : ℕ) → In x (y ∷ []) → x ≡ y
      single x y here = refl
      single x y (there i) = elim i [ ]

  pub all_below : (k : ℕ) → In k all_classes → k < n.classes
  all_below k h = elim (In-split k (n.class (port vdd) ∷ n.class (port vss) ∷ []) (net_classes n l) h) [
    | inl a ↦ supply_below k a
    | inr b ↦ let r = net_of k b in subst (λ (x : ℕ). x < n.classes) r.is (orderly.counted.numbered r.at r.terminal)
  ] where
    supply_below : (k : ℕ) → In k (n.class (port vdd) ∷ n.class (port vss) ∷ []) → k < n.classes
    supply_below k here = orderly.counted.numbered (port vdd) (a_port orderly.has_vdd)
    supply_below k (there here) = orderly.counted.numbered (port vss) (a_port orderly.has_vss)
    supply_below k (there (there i)) = elim i [ ]

  all_there : (k : ℕ) → k < n.classes → In k all_classes
  all_there k low =
      let u = orderly.counted.used k low in
      by u.0 u.1 u.2 (same_or_not k (n.class (port vdd))) (same_or_not k (n.class (port vss)))
    where
      by : (t : Terminal) → IsTerminal n l t → n.class t ≡ k → (k ≡ n.class (port vdd)) ⊎ (k ≡ n.class (port vdd) → ⊥) → (k ≡ n.class (port vss)) ⊎ (k ≡ n.class (port vss) → ⊥) → In k all_classes
      by t is e (inl p) q = subst (λ (x : ℕ). In x all_classes) (sym p) here
      by t is e (inr p) (inl q) = subst (λ (x : ℕ). In x all_classes) (sym q) (there here)
      by t is e (inr p) (inr q) =
          subst (λ (x : ℕ). In x all_classes) e (there (there (listed t (record { terminal = is; free = λ x. elim x [ inl a ↦ p (sym e ∙ a) | inr b ↦ q (sym e ∙ b) ] }))))

  pub not_more : length (net_classes n l) + 2 ≤ n.classes
  not_more = let h = few n.classes all_classes all_differ all_below in omega (arith, h)

  pub not_fewer : n.classes ≤ length (net_classes n l) + 2
  not_fewer = let h = many n.classes all_classes all_there in omega (arith, h)
