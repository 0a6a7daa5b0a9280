-- The nets by number have the pins of ports and of signal pins.
use Rattle.std.proofs.Common.{◌≡◌, ◌≢◌, ◌⊎◌, inl, inr, ℕ, zero, suc, ◌<◌, Bool, true, false, not, ◌||◌, cond, nat_eq, All, Contains, List, [], ◌∷◌, map, filter, length, get_or, Option, Some, None, refl, sym, ap, subst, ◌∙◌, eqb-true, eq-eqb, arith}
use Rattle.std.specs.Prelude.{flat_map, slice_index_or, AllPairs}
use Rattle.std.specs.Option.{option_map}
use Rattle.std.proofs.lemmas.Bool.{cond-true}
use Rattle.std.proofs.lemmas.Option.{same_Some}
use Rattle.std.proofs.lemmas.List.{length-map}
use Rattle.vlsi_base.specs.declared.name.Name.{Name}
use Rattle.vlsi_base.specs.declared.name.Terminal.{Terminal}
use Rattle.vlsi_base.specs.Names.{vdd, vss}
use Rattle.vlsi_base.specs.Member.{In, here, there}
use Rattle.machine_core.specs.Machine.{names_of}
use Rattle.sym_shapes.specs.Shape.{connector_names}
use Rattle.cell_model.specs.Access.{Point, count_to, access_point}
use Rattle.cell_model.specs.Cell.{Cell, pin_ports}
use Rattle.cell_model.specs.Library.{Library, cell_of, IsUsable}
use Rattle.cell_model.proofs.Members.{In-at, place-In, In-split, In-left, In-right, In-map, In-map_back, All-from}
use Rattle.cell_model.proofs.Texts.{text_itself}
use Rattle.cell_pins.proofs.Ports.{in_filter}
use Rattle.net_meaning.specs.Netlist.{Member, AbstractNetlist, port, pin_of, IsTerminal, a_pin}
use Rattle.net_drawing.specs.Shown.{IsSupplyClass}
use Rattle.ocp_rows.specs.Placement.{Placement}
use Rattle.ocp_rows.specs.Length.{point_of, cell_terminals, terminals, is_net}
use Rattle.ocp_place.specs.Orderly.{IsOrderly}
use Rattle.ocp_place.specs.Stood.{member}
use Rattle.ocp_place.proofs.Lists.{first_differs, rest_differs}
use Rattle.ocp_place.proofs.Points.{kept_back, kept_there, flat_back, flat_there}
use Rattle.ocp_place.proofs.Widths.{member_in}
use Rattle.row_meaning.specs.declared.Pin.{Pin}
use Rattle.row_bridge.specs.Numbered.{number_of, pin_at, cell_pin, own_pin, terminal_pin, net_pins}
use Rattle.row_bridge.specs.Nets.{IsNetPin}
use Rattle.row_bridge.specs.Law.{NetsAreAlike}
use Rattle.row_bridge.proofs.Names.{number_found, number_none}

-- ---- names

-- the number of an instance by its own name
number_own : (ms : List Member) → AllPairs (λ a b. a.name ≢ b.name) ms → (i : ℕ) → i < length ms → number_of 0 ms (member ms i).name ≡ Some i
number_own ms apart i low = by (number_of 0 ms (member ms i).name) refl where
  one : (some : List Member) → AllPairs (λ a b. a.name ≢ b.name) some → (j k : ℕ) → j < length some → k < length some → (member some j).name ≡ (member some k).name → j ≡ k
  one [] h j k l m e = absurd (omega arith)
  one (x ∷ xs) h zero zero l m e = refl
  one (x ∷ xs) h zero (suc k) l m e = absurd (first_differs x xs h (member xs k) (member_in xs k (omega arith)) e)
  one (x ∷ xs) h (suc j) zero l m e = absurd (first_differs x xs h (member xs j) (member_in xs j (omega arith)) (sym e))
  one (x ∷ xs) h (suc j) (suc k) l m e = ap suc (one xs (rest_differs x xs h) j k (omega arith) (omega arith) e)

  by : (o : Option ℕ) → number_of 0 ms (member ms i).name ≡ o → o ≡ Some i
  by None e =
      let f : true ≡ false = sym (text_itself (member ms i).name) ∙ number_none 0 ms (member ms i).name e (member ms i) (member_in ms i low) in
      absurd (cc f)
  by (Some j) e =
      let r = number_found 0 ms (member ms i).name j e in
      let same = one ms apart r.0 i r.2.inside low r.2.is in
      ap (λ (k : ℕ). Some k) (let a = r.1 in omega arith)

-- a point as a pin, back
pin_back : (i : ℕ) (o : Option Point) (q : Pin) → option_map (pin_at i) o ≡ Some q → (a : Point) × (o ≡ Some a) × (q ≡ pin_at i a)
pin_back i None q e = absurd (cc e)
pin_back i (Some a) q e = (a, refl, sym (same_Some (pin_at i a) q e))

module _ (n : AbstractNetlist) (l : Library) (orderly : IsOrderly n l) (p : Placement) (class : ℕ) (free : IsSupplyClass n class → ⊥) where
  abbrev ms : List Member
  ms = n.instances

  abbrev own_terminals : Member → List Terminal
  own_terminals m = cell_terminals (cell_of l m.model) m.name

  abbrev test : Terminal → Option Pin
  test t = cond (nat_eq (n.class t) class) (terminal_pin n l p t.instance t.pin) None

  usable : (m : Member) → In m ms → (c : Cell) → cell_of l m.model ≡ Some c → IsUsable c
  usable m h c found = let r = orderly.models m h in subst (λ (x : Cell). IsUsable x) (same_Some r.0 c (sym r.1 ∙ found)) r.2

  split_test : (t : Terminal) (q : Pin) → test t ≡ Some q → (n.class t ≡ class) × (terminal_pin n l p t.instance t.pin ≡ Some q)
  split_test t q e = by (nat_eq (n.class t) class) refl e where
    by : (b : Bool) → nat_eq (n.class t) class ≡ b → cond b (terminal_pin n l p t.instance t.pin) None ≡ Some q
        → (n.class t ≡ class) × (terminal_pin n l p t.instance t.pin ≡ Some q)
    by true f g = (eqb-true (n.class t) class f, g)
    by false f g = absurd (cc g)

  join_test : (t : Terminal) (q : Pin) → n.class t ≡ class → terminal_pin n l p t.instance t.pin ≡ Some q → test t ≡ Some q
  join_test t q e f = cond-true (nat_eq (n.class t) class) (terminal_pin n l p t.instance t.pin) None (eq-eqb (n.class t) class e) ∙ f

  only_signal : {A : Type 0} (name : Name) → (name ≡ vdd) ⊎ ((name ≡ vss) ⊎ A) → name ≢ vdd → name ≢ vss → A
  only_signal name (inl v) a b = absurd (a v)
  only_signal name (inr (inl v)) a b = absurd (b v)
  only_signal name (inr (inr x)) a b = x

  from_port : (t : Terminal) (name : Name) (q : Pin) → port name ≡ t → In name n.ports → test t ≡ Some q → IsNetPin n l p class q
  from_port t name q is listed e =
      let r = split_test (port name) q (ap test is ∙ e) in
      let a = pin_back (length ms) (point_of l p None name) q r.1 in
      inl (record { name = name; place = a.0; listed = listed; class_is = r.0; at = a.1; is = a.2 })

  -- the instance of a number
  from_number : (i : ℕ) (pin : Name) (q : Pin) (o : Option Cell) → i < length ms → cell_of l (member ms i).model ≡ o
      → In (pin_of (member ms i).name pin) (cell_terminals o (member ms i).name) → test (pin_of (member ms i).name pin) ≡ Some q → IsNetPin n l p class q
  from_number i pin q None low found h e = elim h [ ]
  from_number i pin q (Some c) low found h e =
      let m = member ms i in
      let r = In-map_back (pin_of m.name) (pin_of m.name pin) (connector_names c.items) h in
      let is_pin : r.0 ≡ pin = ap (λ (t : Terminal). t.pin) r.2 in
      let connector : In pin (connector_names c.items) = subst (λ (x : Name). In x (connector_names c.items)) is_pin r.1 in
      let s = split_test (pin_of m.name pin) q e in
      let terminal : IsTerminal n l (pin_of m.name pin) = a_pin m c (member_in ms i low) found connector in
      let signal : In pin (names_of (pin_ports c)) = only_signal pin (((usable m (member_in ms i low) c found).connectors pin).0 connector)
      (λ v. free (inl (sym s.0 ∙ orderly.high (pin_of m.name pin) terminal v))) (λ v. free (inr (sym s.0 ∙ orderly.low (pin_of m.name pin) terminal v))) in
      let own : cell_pin i (Some c) pin ≡ Some q =
      ap (λ (o : Option Cell). cell_pin i o pin) (sym found) ∙ ap (λ (o : Option ℕ). own_pin l ms o pin) (sym (number_own ms orderly.names i low)) ∙ s.1 in
      let a = pin_back i (access_point c pin) q own in
      inr (record {
        number = i;
        cell = c;
        pin = pin;
        place = a.0;
        inside = low;
        found = found;
        is_pin = signal;
        class_is = s.0;
        at = a.1;
        is = a.2;
      })

  from_instance : (t : Terminal) (m : Member) (q : Pin) → In m ms → In t (own_terminals m) → test t ≡ Some q → IsNetPin n l p class q
  from_instance t m q h g e =
      let r = place-In m ms h in
      let is : member ms r.0 ≡ m = r.2 (record { name = []; model = [] }) in
      let own = named_so (cell_of l m.model) g in
      let same : pin_of (member ms r.0).name t.pin ≡ t = ap (λ (x : Member). pin_of x.name t.pin) is ∙ own in
      from_number r.0 t.pin q (cell_of l (member ms r.0).model) r.1 refl
      (subst (λ (x : Member). In (pin_of x.name t.pin) (own_terminals x)) (sym is) (subst (λ (u : Terminal). In u (own_terminals m)) (sym own) g))
      (ap test same ∙ e)
    where
      named_so : (o : Option Cell) → In t (cell_terminals o m.name) → pin_of m.name t.pin ≡ t
      named_so None i = elim i [ ]
      named_so (Some c) i =
          let r = In-map_back (pin_of m.name) t (connector_names c.items) i in
          subst (λ (u : Terminal). pin_of m.name u.pin ≡ u) r.2 refl

  pub back : (q : Pin) → In q (net_pins n l p class) → IsNetPin n l p class q
  back q i =
      let r = kept_back test (terminals n l) q i in
      elim (In-split r.0 (map port n.ports) (flat_map own_terminals ms) r.1) [
        | inl a ↦ let s = In-map_back port r.0 n.ports a in from_port r.0 s.0 q s.2 s.1 r.2
        | inr b ↦ let s = flat_back own_terminals ms r.0 b in from_instance r.0 s.0 q s.1 s.2 r.2
      ]

  pub forth : (q : Pin) → IsNetPin n l p class q → In q (net_pins n l p class)
  forth q (inl r) =
      kept_there test (terminals n l) (port r.name) q (In-left (port r.name) (map port n.ports) (flat_map own_terminals ms) (In-map port r.name n.ports r.listed))
      (join_test (port r.name) q r.class_is (ap (λ (o : Option Point). option_map (pin_at (length ms)) o) r.at ∙ ap (λ (x : Pin). Some x) (sym r.is)))
  forth q (inr r) =
      let m = member ms r.number in
      let listed = member_in ms r.number r.inside in
      let connector : In r.pin (connector_names r.cell.items) = ((usable m listed r.cell r.found).connectors r.pin).1 (inr (inr r.is_pin)) in
      let own : In (pin_of m.name r.pin) (own_terminals m) =
      subst (λ (o : Option Cell). In (pin_of m.name r.pin) (cell_terminals o m.name)) (sym r.found) (In-map (pin_of m.name) r.pin (connector_names r.cell.items) connector) in
      kept_there test (terminals n l) (pin_of m.name r.pin) q
      (In-right (pin_of m.name r.pin) (map port n.ports) (flat_map own_terminals ms) (flat_there own_terminals ms m (pin_of m.name r.pin) listed own))
      (join_test (pin_of m.name r.pin) q r.class_is
      (ap (λ (o : Option ℕ). own_pin l ms o r.pin) (number_own ms orderly.names r.number r.inside)
      ∙ ap (λ (o : Option Cell). cell_pin r.number o r.pin) r.found
      ∙ ap (λ (o : Option Point). option_map (pin_at r.number) o) r.at
      ∙ ap (λ (x : Pin). Some x) (sym r.is)))

-- ---- all nets

contained : (xs : List Pin) (q : Pin) → In q xs → Contains xs q
contained xs q i = let r = place-In q xs i in (r.0, r.1, r.2 q)

at_map : (f : ℕ → List Pin) (ks : List ℕ) (j : ℕ) → j < length ks → slice_index_or (map f ks) j [] ≡ f (get_or ks j 0)
at_map f [] j low = absurd (omega arith)
at_map f (k ∷ ks) zero low = refl
at_map f (k ∷ ks) (suc j) low = at_map f ks j (omega arith)

-- lists of pins by the same keys, of which each of the first lies in that of the second
contain : (f g : ℕ → List Pin) (ks : List ℕ) → ((k : ℕ) → In k ks → (q : Pin) → In q (f k) → In q (g k)) → (j : ℕ) → j < length (map f ks)
    → All (Contains (slice_index_or (map g ks) j [])) (slice_index_or (map f ks) j [])
contain f g ks each j low =
    let inside : j < length ks = (let a = length-map ks f in omega arith) in
    let k = get_or ks j 0 in
    let all : All (Contains (g k)) (f k) = All-from (Contains (g k)) (f k) (λ q i. contained (g k) q (each k (In-at ks j 0 inside) q i)) in
    subst (λ (xs : List Pin). All (Contains (slice_index_or (map g ks) j [])) xs) (sym (at_map f ks j inside))
    (subst (λ (ys : List Pin). All (Contains ys) (f k)) (sym (at_map g ks j inside)) all)

free_class : (n : AbstractNetlist) (class : ℕ) → is_net n class ≡ true → IsSupplyClass n class → ⊥
free_class n class e = by (nat_eq class (n.class (port vdd))) refl (nat_eq class (n.class (port vss))) refl e where
  by : (a : Bool) → nat_eq class (n.class (port vdd)) ≡ a → (b : Bool) → nat_eq class (n.class (port vss)) ≡ b → not (a || b) ≡ true → IsSupplyClass n class → ⊥
  by true f b g h s = absurd (cc h)
  by false f true g h s = absurd (cc h)
  by false f false g h (inl v) = let t : true ≡ false = sym (eq-eqb class (n.class (port vdd)) v) ∙ f in absurd (cc t)
  by false f false g h (inr v) = let t : true ≡ false = sym (eq-eqb class (n.class (port vss)) v) ∙ g in absurd (cc t)

counted_below : (k a : ℕ) → In a (count_to k) → a < k
counted_below zero a i = elim i [ ]
counted_below (suc k) a i = elim (In-split a (count_to k) (k ∷ []) i) [
  | inl h ↦ let less = counted_below k a h in omega (arith, less)
  | inr h ↦ last a h
] where
  last : (x : ℕ) → In x (k ∷ []) → x < suc k
  last x here = omega arith
  last x (there j) = elim j [ ]

pub nets_are_alike : NetsAreAlike
nets_are_alike n l p f orderly each =
    let classes = filter (is_net n) (count_to n.classes) in
    record {
      many = length-map classes f ∙ sym (length-map classes (net_pins n l p));
      there = λ k low. contain f (net_pins n l p) classes (λ c i q h. let r = kept c i in forth n l orderly p c r.1 q ((each c q r.0 r.1).0 h)) k low;
      back = λ k low. contain (net_pins n l p) f classes (λ c i q h. let r = kept c i in (each c q r.0 r.1).1 (back n l orderly p c r.1 q h)) k (let a = length-map classes f in let b = length-map classes (net_pins n l p) in omega arith);
    }
  where
    kept : (c : ℕ) → In c (filter (is_net n) (count_to n.classes)) → (c < n.classes) × (IsSupplyClass n c → ⊥)
    kept c i = let r = in_filter (is_net n) (count_to n.classes) c i in (counted_below n.classes c r.0, free_class n c r.1)
