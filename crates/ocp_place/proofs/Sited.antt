-- How long nets are, where the points of terminals are those of sites.
use Rattle.std.proofs.Common.{◌≡◌, ◌≢◌, ◌⊎◌, inl, inr, ℕ, zero, suc, ◌<◌, Bool, true, false, not, ◌||◌, cond, nat_eq, List, [], ◌∷◌, ◌++◌, map, filter, length, Option, Some, None, refl, sym, ap, subst, ◌∙◌, arith}
use Rattle.std.specs.Prelude.{flat_map, sum, slice_index_or}
use Rattle.std.proofs.lemmas.Bool.{cond-true, eqb-true, eq-eqb}
use Rattle.std.proofs.lemmas.Option.{same_Some}
use Rattle.vlsi_base.specs.declared.name.Name.{Name}
use Rattle.vlsi_base.specs.declared.name.Terminal.{Terminal}
use Rattle.vlsi_base.specs.Names.{vdd, vss}
use Rattle.vlsi_base.specs.Member.{In, here, there}
use Rattle.machine_core.specs.Machine.{names_of}
use Rattle.sym_shapes.specs.Shape.{connector_names}
use Rattle.cell_model.specs.Cell.{Cell, pin_ports}
use Rattle.cell_model.specs.Library.{Library, cell_of, IsUsable}
use Rattle.cell_model.specs.Access.{Point, count_to}
use Rattle.cell_model.proofs.Members.{In-split, In-left, In-right, In-map, In-map_back}
use Rattle.cell_pins.proofs.Ports.{in_filter}
use Rattle.net_meaning.specs.Netlist.{Member, AbstractNetlist, port, pin_of, IsTerminal, a_pin}
use Rattle.ocp_rows.specs.Placement.{Placement}
use Rattle.ocp_rows.specs.Length.{point_of, cell_terminals, terminals, net_points, half_box, half_perimeter}
use Rattle.ocp_place.specs.Nets.{is_signal, signal_ports}
use Rattle.ocp_place.specs.Orderly.{IsOrderly}
use Rattle.ocp_place.specs.Sites.{Site, points_in, length_of}
use Rattle.ocp_place.proofs.Boxes.{same_box}
use Rattle.ocp_place.proofs.Points.{points_back, points_there, kept_back, kept_there, flat_back, flat_there}

-- a site of a pin: its point is that of a signal pin in its class
pub record IsPinSite (n : AbstractNetlist) (l : Library) (p : Placement) (class : ℕ) (q : Point) : Type 0 where
  pub owner : Member
  pub cell : Cell
  pub pin : Name
  pub listed : In owner n.instances
  pub found : cell_of l owner.model ≡ Some cell
  pub is_pin : In pin (names_of (pin_ports cell))
  pub class_is : n.class (pin_of owner.name pin) ≡ class
  pub at : point_of l p (Some owner.name) pin ≡ Some q

-- the points of ports and of signal pins are those of these sites, and no others are there
pub record AreSited (n : AbstractNetlist) (l : Library) (p : Placement) (ports pins : List Site) : Type 0 where
  pub port_back : (name : Name) (q : Point) → point_of l p None name ≡ Some q → In (n.class (port name), q) ports
  pub port_there : (class : ℕ) (q : Point) → In (class, q) ports
      → (name : Name) × In name (signal_ports n) × (n.class (port name) ≡ class) × (point_of l p None name ≡ Some q)
  pub pin_back : (i : Member) (c : Cell) (pin : Name) (q : Point) → In i n.instances → cell_of l i.model ≡ Some c → In pin (names_of (pin_ports c))
      → point_of l p (Some i.name) pin ≡ Some q → In (n.class (pin_of i.name pin), q) pins
  pub pin_there : (class : ℕ) (q : Point) → In (class, q) pins → IsPinSite n l p class q

module _ (n : AbstractNetlist) (l : Library) (orderly : IsOrderly n l) (p : Placement) (ports pins : List Site) (sited : AreSited n l p ports pins) where
  cell_is : (i : Member) → In i n.instances → (c : Cell) → cell_of l i.model ≡ Some c → IsUsable c
  cell_is i h c found = let r = orderly.models i h in subst (λ (x : Cell). IsUsable x) (same_Some r.0 c (sym r.1 ∙ found)) r.2

  module _ (class : ℕ) (no_vdd : class ≢ n.class (port vdd)) (no_vss : class ≢ n.class (port vss)) where
    abbrev test : Terminal → Option Point
    test t = cond (nat_eq (n.class t) class) (point_of l p t.instance t.pin) None

    split_test : (t : Terminal) (q : Point) → test t ≡ Some q → (n.class t ≡ class) × (point_of l p t.instance t.pin ≡ Some q)
    split_test t q e = by (nat_eq (n.class t) class) refl e where
      by : (b : Bool) → nat_eq (n.class t) class ≡ b → cond b (point_of l p t.instance t.pin) None ≡ Some q
          → (n.class t ≡ class) × (point_of l p t.instance t.pin ≡ Some q)
      by true f g = (eqb-true (n.class t) class f, g)
      by false f g = absurd (cc g)

    join_test : (t : Terminal) (q : Point) → n.class t ≡ class → point_of l p t.instance t.pin ≡ Some q → test t ≡ Some q
    join_test t q e f = cond-true (nat_eq (n.class t) class) (point_of l p t.instance t.pin) None (eq-eqb (n.class t) class e) ∙ f

    port_in : (t : Terminal) (name : Name) (q : Point) → port name ≡ t → In name n.ports → test t ≡ Some q → In q (points_in class (ports ++ pins))
    port_in t name q is i e =
        let r = split_test (port name) q (ap test is ∙ e) in
        points_there class (ports ++ pins) q (In-left (class, q) ports pins (subst (λ (k : ℕ). In (k, q) ports) r.0 (sited.port_back name q r.1)))

    pin_in : (t : Terminal) (i : Member) (q : Point) (o : Option Cell) → cell_of l i.model ≡ o → In i n.instances → In t (cell_terminals o i.name) → test t ≡ Some q → In q (points_in class (ports ++ pins))
    pin_in t i q None found h g e = elim g [ ]
    pin_in t i q (Some c) found h g e =
        let r = In-map_back (pin_of i.name) t (connector_names c.items) g in
        let name = r.0 in
        let s = split_test (pin_of i.name name) q (ap test r.2 ∙ e) in
        let terminal : IsTerminal n l (pin_of i.name name) = a_pin i c h found r.1 in
        let signal : In name (names_of (pin_ports c)) = only_signal name (((cell_is i h c found).connectors name).0 r.1)
        (λ v. no_vdd (sym s.0 ∙ orderly.high (pin_of i.name name) terminal v)) (λ v. no_vss (sym s.0 ∙ orderly.low (pin_of i.name name) terminal v)) in
        points_there class (ports ++ pins) q
        (In-right (class, q) ports pins (subst (λ (k : ℕ). In (k, q) pins) s.0 (sited.pin_back i c name q h found signal s.1)))
      where
        only_signal : {A : Type 0} (name : Name) → (name ≡ vdd) ⊎ ((name ≡ vss) ⊎ A) → name ≢ vdd → name ≢ vss → A
        only_signal name (inl v) a b = absurd (a v)
        only_signal name (inr (inl v)) a b = absurd (b v)
        only_signal name (inr (inr x)) a b = x

    points_in_sites : (q : Point) → In q (net_points n l p class) → In q (points_in class (ports ++ pins))
    points_in_sites q i =
        let r = kept_back test (terminals n l) q i in
        elim (In-split r.0 (map port n.ports) (flat_map (λ j. cell_terminals (cell_of l j.model) j.name) n.instances) r.1) [
          | inl a ↦ let s = In-map_back port r.0 n.ports a in port_in r.0 s.0 q s.2 s.1 r.2
          | inr b ↦
              let s = flat_back (λ j. cell_terminals (cell_of l j.model) j.name) n.instances r.0 b in
              pin_in r.0 s.0 q (cell_of l s.0.model) refl s.1 s.2 r.2
        ]

    sites_in_points : (q : Point) → In q (points_in class (ports ++ pins)) → In q (net_points n l p class)
    sites_in_points q i = elim (In-split (class, q) ports pins (points_back class (ports ++ pins) q i)) [
      | inl a ↦
          let r = sited.port_there class q a in
          let listed : In r.0 n.ports = (in_filter is_signal n.ports r.0 r.1).0 in
          kept_there test (terminals n l) (port r.0) q
          (In-left (port r.0) (map port n.ports) (flat_map (λ j. cell_terminals (cell_of l j.model) j.name) n.instances) (In-map port r.0 n.ports listed))
          (join_test (port r.0) q r.2 r.3)
      | inr b ↦
          let s = sited.pin_there class q b in
          let connector : In s.pin (connector_names s.cell.items) = ((cell_is s.owner s.listed s.cell s.found).connectors s.pin).1 (inr (inr s.is_pin)) in
          let own : In (pin_of s.owner.name s.pin) (cell_terminals (cell_of l s.owner.model) s.owner.name) =
          subst (λ (o : Option Cell). In (pin_of s.owner.name s.pin) (cell_terminals o s.owner.name)) (sym s.found) (In-map (pin_of s.owner.name) s.pin (connector_names s.cell.items) connector) in
          kept_there test (terminals n l) (pin_of s.owner.name s.pin) q
          (In-right (pin_of s.owner.name s.pin) (map port n.ports) (flat_map (λ j. cell_terminals (cell_of l j.model) j.name) n.instances)
          (flat_there (λ j. cell_terminals (cell_of l j.model) j.name) n.instances s.owner (pin_of s.owner.name s.pin) s.listed own))
          (join_test (pin_of s.owner.name s.pin) q s.class_is s.at)
    ]

    pub same_boxes : half_box (points_in class (ports ++ pins)) ≡ half_box (net_points n l p class)
    same_boxes = same_box (points_in class (ports ++ pins)) (net_points n l p class) sites_in_points points_in_sites

  -- ---- all classes

  abbrev is_other : ℕ → Bool
  is_other class = not (nat_eq class (n.class (port vdd)) || nat_eq class (n.class (port vss)))

  others : (class : ℕ) → is_other class ≡ true → (class ≢ n.class (port vdd)) × (class ≢ n.class (port vss))
  others class e = by (nat_eq class (n.class (port vdd))) refl (nat_eq class (n.class (port vss))) refl e where
    by : (a : Bool) → nat_eq class (n.class (port vdd)) ≡ a → (b : Bool) → nat_eq class (n.class (port vss)) ≡ b → not (a || b) ≡ true
        → (class ≢ n.class (port vdd)) × (class ≢ n.class (port vss))
    by true f b g h = absurd (cc h)
    by false f true g h = absurd (cc h)
    by false f false g h = (
      λ v. let t : true ≡ false = sym (eq-eqb class (n.class (port vdd)) v) ∙ f in cc t,
      λ v. let t : true ≡ false = sym (eq-eqb class (n.class (port vss)) v) ∙ g in cc t,
    )

  counted_low : (k class : ℕ) → In class (count_to k) → class < k
  counted_low zero class i = elim i [ ]
  counted_low (suc k) class i = elim (In-split class (count_to k) (k ∷ []) i) [
    | inl a ↦ let h = counted_low k class a in omega (arith, h)
    | inr b ↦ last class b
  ] where
    last : (x : ℕ) → In x (k ∷ []) → x < suc k
    last x here = omega arith
    last x (there j) = elim j [ ]

  same_sum : (f g : ℕ → ℕ) (ks : List ℕ) → ((k : ℕ) → In k ks → f k ≡ g k) → sum (map f ks) ≡ sum (map g ks)
  same_sum f g ks each = ap sum (same_map ks each) where
    same_map : (ks : List ℕ) → ((k : ℕ) → In k ks → f k ≡ g k) → map f ks ≡ map g ks
    same_map [] each = refl
    same_map (k ∷ ks) each = ap (λ (x : ℕ). x ∷ map f ks) (each k here) ∙ ap (λ (xs : List ℕ). g k ∷ xs) (same_map ks (λ j i. each j (there i)))

  pub lengths : (high low : ℕ) (ends : List (List Point)) → high ≡ n.class (port vdd) → low ≡ n.class (port vss) → length ends ≡ n.classes
      → ((class : ℕ) (d : List Point) → class < n.classes → slice_index_or ends class d ≡ points_in class (ports ++ pins))
      → length_of high low ends ≡ half_perimeter n l p
  lengths high low ends high_is low_is many each =
      ap (λ (h : ℕ). length_of h low ends) high_is
      ∙ ap (λ (h : ℕ). length_of (n.class (port vdd)) h ends) low_is
      ∙ ap (λ (k : ℕ). sum (map (λ class. half_box (slice_index_or ends class [])) (filter is_other (count_to k)))) many
      ∙ same_sum (λ class. half_box (slice_index_or ends class [])) (λ class. half_box (net_points n l p class)) (filter is_other (count_to n.classes))
      (λ class i.
      let r = in_filter is_other (count_to n.classes) class i in
      let free = others class r.1 in
      ap half_box (each class [] (counted_low n.classes class r.0)) ∙ same_boxes class free.0 free.1)
