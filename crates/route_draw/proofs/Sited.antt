-- The points of a net's pins are those of its class.
use Rattle.std.proofs.Common.{◌≡◌, ℕ, zero, suc, Bool, true, false, cond, nat_eq, List, [], ◌∷◌, ◌++◌, Option, Some, None, refl, sym, ap, subst, ◌∙◌, append-nil, append_assoc, arith}
use Rattle.std.specs.Prelude.{ℤ, ◌+ℤ◌, flat_map, slice_get}
use Rattle.std.proofs.lemmas.Bool.{eqb-true, eq-eqb, false_from_ne_true}
use Rattle.std.proofs.lemmas.Grind.{flat_map-append}
use Rattle.std.proofs.lemmas.Option.{same_Some, slice_get_within}
use Rattle.vlsi_base.specs.declared.name.Name.{Name}
use Rattle.vlsi_base.specs.Member.{In, here, there, AllDifferent}
use Rattle.machine_core.specs.Machine.{names_of}
use Rattle.cell_model.specs.Cell.{Cell, pin_ports}
use Rattle.cell_model.specs.Library.{Library, cell_of}
use Rattle.cell_model.specs.Access.{Point, access_point}
use Rattle.net_meaning.specs.Netlist.{Member, AbstractNetlist, pin_of}
use Rattle.ocp_rows.specs.Placement.{model_width}
use Rattle.net_drawing.specs.Drawing.{along, on_net, at_point, of_pin, of_cell}
use Rattle.net_drawing.proofs.Coding.{In_get}
use Rattle.ocp_place.specs.Nets.{is_among, net_classes, net_number}
use Rattle.ocp_place.specs.Orderly.{IsOrderly}
use Rattle.ocp_place.specs.Sites.{Site, site_at, own_sites, row_sites, points_in}
use Rattle.nero_tracks.proofs.Among.{among_in, in_among, placed, not_placed}
use Rattle.nero_tracks.proofs.Drivers.{nets_differ}

-- ---- lists

pub points_append : (class : ℕ) (xs ys : List Site) → points_in class (xs ++ ys) ≡ points_in class xs ++ points_in class ys
points_append class [] ys = refl
points_append class (x ∷ xs) ys =
    ap (λ (qs : List Point). cond (nat_eq x.0 class) (x.1 ∷ []) [] ++ qs) (points_append class xs ys)
    ∙ sym (append_assoc (cond (nat_eq x.0 class) (x.1 ∷ []) []) (points_in class xs) (points_in class ys))

-- what differs stands at one place
pub once : (xs : List ℕ) → AllDifferent xs → (i j x : ℕ) → slice_get xs i ≡ Some x → slice_get xs j ≡ Some x → i ≡ j
once [] d i j x p q = let n : None ≡ Some x = p in absurd (cc n)
once (y ∷ ys) d zero zero x p q = refl
once (y ∷ ys) d zero (suc j) x p q = absurd (d.0 (subst (λ (z : ℕ). In z ys) (sym (same_Some y x p)) (In_get ys j x q)))
once (y ∷ ys) d (suc i) zero x p q = absurd (d.0 (subst (λ (z : ℕ). In z ys) (sym (same_Some y x q)) (In_get ys i x p)))
once (y ∷ ys) d (suc i) (suc j) x p q = ap suc (once ys d.1 i j x p q)

same_test : (a b c d : ℕ) → (a ≡ b → c ≡ d) → (c ≡ d → a ≡ b) → nat_eq a b ≡ nat_eq c d
same_test a b c d f g = by (nat_eq a b) refl where
  by : (r : Bool) → nat_eq a b ≡ r → nat_eq a b ≡ nat_eq c d
  by true e = e ∙ sym (eq-eqb c d (f (eqb-true a b e)))
  by false e = e ∙ sym (false_from_ne_true (nat_eq c d) (λ t. let n : true ≡ false = sym (eq-eqb a b (g (eqb-true c d t))) ∙ e in cc n))

module _ (n : AbstractNetlist) (l : Library) (orderly : IsOrderly n l) where
  abbrev order : List ℕ
  order = net_classes n l

  -- a pin is on net k exactly where it is in the class of net k
  on_it : (k class : ℕ) → slice_get order k ≡ Some class → (one : Member) (c : Cell) (pin : Name) → In one n.instances → cell_of l one.model ≡ Some c
      → In pin (names_of (pin_ports c)) → on_net n (net_number n l) k (pin_of one.name pin) ≡ nat_eq (n.class (pin_of one.name pin)) class
  on_it k class at one c pin h found i =
      let own = n.class (pin_of one.name pin) in
      same_test (net_number n l own) k own class
      (λ e. by own e (is_among order own) refl)
      (λ e. let there_ : In own order = subst (λ (x : ℕ). In x order) (sym e) (In_get order k class at) in
      once order (nets_differ n l orderly) (net_number n l own) k class ((placed order own there_).1 ∙ ap (λ (x : ℕ). Some x) e) at)
    where
      by : (own : ℕ) → net_number n l own ≡ k → (r : Bool) → is_among order own ≡ r → own ≡ class
      by own e true f = same_Some own class (sym (placed order own (among_in order own f)).1 ∙ ap (slice_get order) e ∙ at)
      by own e false f =
          let past = not_placed order own (λ j. let never : true ≡ false = sym (in_among order own j) ∙ f in cc never) in
          let low = slice_get_within order k class at in
          absurd (omega (arith, e, past, low))

  module _ {A : Type 0} (g : Point → List A) (k class : ℕ) (at : slice_get order k ≡ Some class) where
    -- one pin
    pin_points : (x : ℤ) (own : ℕ) (b : Bool) (o : Option Point) → nat_eq own class ≡ b
        → (cond b (at_point g x o) []) ≡ flat_map g (points_in class (site_at own x o))
    pin_points x own true None e = refl
    pin_points x own false None e = refl
    pin_points x own true (Some q) e =
        sym (append-nil (g (q.0 +ℤ x, q.1))) ∙ sym (ap (λ (b : Bool). flat_map g (cond b ((q.0 +ℤ x, q.1) ∷ []) [] ++ [])) e)
    pin_points x own false (Some q) e = sym (ap (λ (b : Bool). flat_map g (cond b ((q.0 +ℤ x, q.1) ∷ []) [] ++ [])) e)

    both_append : (xs ys : List Site) → flat_map g (points_in class (xs ++ ys)) ≡ flat_map g (points_in class xs) ++ flat_map g (points_in class ys)
    both_append xs ys = ap (flat_map g) (points_append class xs ys) ∙ flat_map-append g (points_in class xs) (points_in class ys)

    cell_points : (x : ℤ) (one : Member) (c : Cell) → In one n.instances → cell_of l one.model ≡ Some c → (names : List Name)
        → ((pin : Name) → In pin names → In pin (names_of (pin_ports c)))
        → flat_map (of_pin n (net_number n l) k g x one.name c) names
        ≡ flat_map g (points_in class (flat_map (λ pin. site_at (n.class (pin_of one.name pin)) x (access_point c pin)) names))
    cell_points x one c h found [] each = refl
    cell_points x one c h found (pin ∷ names) each =
        let own = n.class (pin_of one.name pin) in
        let test = on_it k class at one c pin h found (each pin here) in
        let first : of_pin n (net_number n l) k g x one.name c pin ≡ flat_map g (points_in class (site_at own x (access_point c pin))) =
        ap (λ (b : Bool). cond b (at_point g x (access_point c pin)) []) test ∙ pin_points x own (nat_eq own class) (access_point c pin) refl in
        ap (λ (xs : List A). xs ++ flat_map (of_pin n (net_number n l) k g x one.name c) names) first
        ∙ ap (λ (xs : List A). flat_map g (points_in class (site_at own x (access_point c pin))) ++ xs) (cell_points x one c h found names (λ q i. each q (there i)))
        ∙ sym (both_append (site_at own x (access_point c pin)) (flat_map (λ q. site_at (n.class (pin_of one.name q)) x (access_point c q)) names))

    own_points : (x : ℤ) (one : Member) → In one n.instances → (o : Option Cell) → cell_of l one.model ≡ o
        → of_cell n (net_number n l) k g x one.name o ≡ flat_map g (points_in class (own_sites n x one.name o))
    own_points x one h None found = refl
    own_points x one h (Some c) found = cell_points x one c h found (names_of (pin_ports c)) (λ pin i. i)

    pub row_points : (x : ℤ) (ms : List Member) → ((one : Member) → In one ms → In one n.instances)
        → along l (λ z one. of_cell n (net_number n l) k g z one.name (cell_of l one.model)) x ms ≡ flat_map g (points_in class (row_sites n l x ms))
    row_points x [] each = refl
    row_points x (one ∷ rest) each =
        let more = along l (λ z i. of_cell n (net_number n l) k g z i.name (cell_of l i.model)) (x +ℤ model_width l one.model) rest in
        let own = own_sites n x one.name (cell_of l one.model) in
        ap (λ (xs : List A). xs ++ more) (own_points x one (each one here) (cell_of l one.model) refl)
        ∙ ap (λ (xs : List A). flat_map g (points_in class own) ++ xs) (row_points (x +ℤ model_width l one.model) rest (λ i j. each i (there j)))
        ∙ sym (both_append own (row_sites n l (x +ℤ model_width l one.model) rest))
