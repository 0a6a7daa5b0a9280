-- The points of a net's pins and of its port are those of its class.
use Rattle.std.proofs.Common.{◌≡◌, ℕ, zero, suc, ◌+◌, ◌*◌, ◌/◌, ◌<◌, ◌≤◌, Bool, true, false, cond, nat_eq, List, [], ◌∷◌, ◌++◌, map, take, drop, length, Option, Some, None, refl, sym, ap, subst, ◌∙◌, append_assoc, arith}
use Rattle.std.specs.Prelude.{pos, ◌-ℤ◌, flat_map, slice_get, nat_lt}
use Rattle.std.proofs.lemmas.Bool.{eqb-true, eq-eqb, false_from_ne_true}
use Rattle.std.proofs.lemmas.Bool.Decides.{nat_tests}
use Rattle.std.proofs.lemmas.Int.{ints}
use Rattle.std.proofs.lemmas.List.{map-append}
use Rattle.std.proofs.lemmas.Option.{same_Some, slice_get_within}
use Rattle.vlsi_base.specs.Member.{In, here, there, AllDifferent}
use Rattle.machine_core.specs.Machine.{names_of}
use Rattle.sym_geom.specs.declared.item.Instance.{Instance}
use Rattle.cell_model.specs.Cell.{Cell, pin_ports}
use Rattle.cell_model.specs.Library.{Library, cell_of}
use Rattle.cell_model.specs.Access.{Point, access_point}
use Rattle.cell_model.proofs.Members.{In-left}
use Rattle.net_core.proofs.Standing.{stands_left}
use Rattle.net_meaning.specs.Netlist.{AbstractNetlist, pin_of}
use Rattle.ocp_rows.specs.Placement.{natural, port_row, column_x, row_y}
use Rattle.ocp_rows.specs.Length.{instance_point, shown_point}
use Rattle.net_drawing.proofs.Coding.{In_get, get_In, columns_of}
use Rattle.ocp_place.specs.Nets.{is_among, place_among, net_classes, net_number}
use Rattle.ocp_place.specs.Sites.{Site, points_in}
use Rattle.ocp_place.specs.Stood.{point_site, shown_sites, stood_sites, grid_sites}
use Rattle.nero_tracks.specs.Tracks.{net_pins}
use Rattle.nero_tracks.proofs.Among.{among_in, in_among, placed, not_placed}
use Rattle.grid_core.specs.declared.grid.Node.{Node}
use Rattle.maze_drawing.specs.Points.{node_at, signal_names, instance_nodes, terminal_nodes}
use Rattle.ocp_grid.specs.Sites.{point_node, net_port}

-- ---- lists

pub points_append : (class : ℕ) (xs ys : List Site) → points_in class (xs ++ ys) ≡ points_in class xs ++ points_in class ys
points_append class [] ys = refl
points_append class (x ∷ xs) ys =
    ap (λ (qs : List Point). cond (nat_eq x.0 class) (x.1 ∷ []) [] ++ qs) (points_append class xs ys)
    ∙ sym (append_assoc (cond (nat_eq x.0 class) (x.1 ∷ []) []) (points_in class xs) (points_in class ys))

-- what differs stands at one place
once : (xs : List ℕ) → AllDifferent xs → (i j x : ℕ) → slice_get xs i ≡ Some x → slice_get xs j ≡ Some x → i ≡ j
once [] d i j x p q = let n : None ≡ Some x = p in absurd (cc n)
once (y ∷ ys) d zero zero x p q = refl
once (y ∷ ys) d zero (suc j) x p q = absurd (d.0 (subst (λ (z : ℕ). In z ys) (sym (same_Some y x p)) (In_get ys j x q)))
once (y ∷ ys) d (suc i) zero x p q = absurd (d.0 (subst (λ (z : ℕ). In z ys) (sym (same_Some y x q)) (In_get ys i x p)))
once (y ∷ ys) d (suc i) (suc j) x p q = ap suc (once ys d.1 i j x p q)

pub different_left : (xs ys : List ℕ) → AllDifferent (xs ++ ys) → AllDifferent xs
different_left [] ys d = tt
different_left (x ∷ xs) ys d = (λ i. d.0 (In-left x xs ys i), different_left xs ys d.1)

-- what stands past some that differ from it is none of them
pub past_all : (xs ys : List ℕ) → AllDifferent (xs ++ ys) → (k x : ℕ) → slice_get (xs ++ ys) k ≡ Some x → length xs ≤ k → In x xs → ⊥
past_all xs ys d k x at past i =
    let r = get_In xs x i in
    let same : r.0 ≡ k = once (xs ++ ys) d r.0 k x (stands_left xs ys r.0 x r.1) at in
    let low = slice_get_within xs r.0 x r.1 in
    omega (arith, same, low, past)

-- what stands among the first of two lists
pub stands_first : (xs ys : List ℕ) (k x : ℕ) → slice_get (xs ++ ys) k ≡ Some x → k < length xs → slice_get xs k ≡ Some x
stands_first [] ys k x at low = absurd (omega arith)
stands_first (y ∷ xs) ys zero x at low = at
stands_first (y ∷ xs) ys (suc k) x at low = stands_first xs ys k x at (omega arith)

same_test : (a b c d : ℕ) → (a ≡ b → c ≡ d) → (c ≡ d → a ≡ b) → nat_eq a b ≡ nat_eq c d
same_test a b c d f g = by (nat_eq a b) refl where
  by : (r : Bool) → nat_eq a b ≡ r → nat_eq a b ≡ nat_eq c d
  by true e = e ∙ sym (eq-eqb c d (f (eqb-true a b e)))
  by false e = e ∙ sym (false_from_ne_true (nat_eq c d) (λ t. let n : true ≡ false = sym (eq-eqb a b (g (eqb-true c d t))) ∙ e in cc n))

-- a class has the place of another exactly where it is that one
placed_test : (order : List ℕ) → AllDifferent order → (k class : ℕ) → slice_get order k ≡ Some class → (own : ℕ) → nat_eq (place_among order own) k ≡ nat_eq own class
placed_test order differ k class at own =
    same_test (place_among order own) k own class (λ e. by e (is_among order own) refl)
    (λ e. let i : In own order = subst (λ (x : ℕ). In x order) (sym e) (In_get order k class at) in
    once order differ (place_among order own) k class ((placed order own i).1 ∙ ap (λ (x : ℕ). Some x) e) at)
  where
    by : place_among order own ≡ k → (r : Bool) → is_among order own ≡ r → own ≡ class
    by e true f = same_Some own class (sym (placed order own (among_in order own f)).1 ∙ ap (slice_get order) e ∙ at)
    by e false f =
        let past = not_placed order own (λ j. let never : true ≡ false = sym (in_among order own j) ∙ f in cc never) in
        let low = slice_get_within order k class at in
        absurd (omega (arith, e, past, low))

-- ---- pins

abbrev pub nodes_in : ℕ → List Site → List Node
nodes_in class sites = map (point_node 2) (points_in class sites)

nodes_append : (class : ℕ) (xs ys : List Site) → nodes_in class (xs ++ ys) ≡ nodes_in class xs ++ nodes_in class ys
nodes_append class xs ys = ap (map (point_node 2)) (points_append class xs ys) ∙ map-append (point_node 2) (points_in class xs) (points_in class ys)

flat_nodes : {A : Type 0} (class : ℕ) (f : A → List Site) (g : A → List Node) (xs : List A) → ((x : A) → nodes_in class (f x) ≡ g x)
    → nodes_in class (flat_map f xs) ≡ flat_map g xs
flat_nodes class f g [] each = refl
flat_nodes class f g (x ∷ xs) each =
    nodes_append class (f x) (flat_map f xs)
    ∙ ap (λ (ns : List Node). ns ++ nodes_in class (flat_map f xs)) (each x)
    ∙ ap (λ (ns : List Node). g x ++ ns) (flat_nodes class f g xs each)

-- one pin
pin_is : (class own : ℕ) (t : Bool) (o : Option Point) → t ≡ nat_eq own class → nodes_in class (point_site own o) ≡ cond t (node_at o) []
pin_is class own true None e = refl
pin_is class own false None e = refl
pin_is class own true (Some q) e = ap (λ (b : Bool). map (point_node 2) (cond b (q ∷ []) [] ++ [])) (sym e)
pin_is class own false (Some q) e = ap (λ (b : Bool). map (point_node 2) (cond b (q ∷ []) [] ++ [])) (sym e)

module _ (n : AbstractNetlist) (l : Library) (differ : AllDifferent (net_classes n l)) (k class : ℕ) (at : slice_get (net_classes n l) k ≡ Some class) where
  instance_is : (i : Instance) (o : Option Cell) → cell_of l i.model ≡ o → nodes_in class (shown_sites n i o) ≡ instance_nodes n l (net_number n l) k i
  instance_is i None found = sym (ap (λ o. flat_map (λ pin. cond (nat_eq (net_number n l (n.class (pin_of i.name pin))) k) (node_at (instance_point o i pin)) []) (signal_names o)) found)
  instance_is i (Some c) found =
      flat_nodes class (λ pin. point_site (n.class (pin_of i.name pin)) (shown_point c i (access_point c pin)))
      (λ pin. cond (nat_eq (net_number n l (n.class (pin_of i.name pin))) k) (node_at (instance_point (Some c) i pin)) []) (names_of (pin_ports c))
      (λ pin. pin_is class (n.class (pin_of i.name pin)) (nat_eq (net_number n l (n.class (pin_of i.name pin))) k) (shown_point c i (access_point c pin))
      (placed_test (net_classes n l) differ k class at (n.class (pin_of i.name pin))))
      ∙ sym (ap (λ o. flat_map (λ pin. cond (nat_eq (net_number n l (n.class (pin_of i.name pin))) k) (node_at (instance_point o i pin)) []) (signal_names o)) found)

  -- the nodes of the pins in the class of net k are those of the pins on it
  pub pins_are : (is : List Instance) → nodes_in class (stood_sites n l is) ≡ terminal_nodes n l (net_number n l) is k
  pins_are is =
      flat_nodes class (λ i. shown_sites n i (cell_of l i.model)) (instance_nodes n l (net_number n l) k) is
      (λ i. instance_is i (cell_of l i.model) refl)

-- ---- ports

single : (x class : ℕ) (q : Point) (more : List Point) → x ≡ class → more ≡ [] → cond (nat_eq x class) (q ∷ []) [] ++ more ≡ q ∷ []
single x class q more e none =
    ap (λ (b : Bool). cond b (q ∷ []) [] ++ more) (eq-eqb x class e) ∙ ap (λ (qs : List Point). q ∷ qs) none

other_class : (x class : ℕ) (q : Point) (more : List Point) → (x ≡ class → ⊥) → cond (nat_eq x class) (q ∷ []) [] ++ more ≡ more
other_class x class q more apart =
    ap (λ (b : Bool). cond b (q ∷ []) [] ++ more) (false_from_ne_true (nat_eq x class) (λ t. apart (eqb-true x class t)))

module _ (column : ℕ → ℕ) (rows : ℕ) where
  abbrev pub top : ℕ → Point
  top k = (column_x (column k), row_y (port_row rows))

  -- a class that no port has
  pub no_port : (j class : ℕ) (classes : List ℕ) → (In class classes → ⊥) → points_in class (grid_sites column rows j classes) ≡ []
  no_port j class [] none = refl
  no_port j class (c ∷ rest) none =
      other_class c class (top j) (points_in class (grid_sites column rows (suc j) rest)) (λ e. none (subst (λ (x : ℕ). In x (c ∷ rest)) e here))
      ∙ no_port (suc j) class rest (λ i. none (there i))

  -- that of a port
  pub one_port : (j k class : ℕ) (classes : List ℕ) → AllDifferent classes → slice_get classes k ≡ Some class
      → points_in class (grid_sites column rows j classes) ≡ top (j + k) ∷ []
  one_port j k class [] d at = let n : None ≡ Some class = at in absurd (cc n)
  one_port j zero class (c ∷ rest) d at =
      single c class (top j) (points_in class (grid_sites column rows (suc j) rest)) (same_Some c class at)
      (no_port (suc j) class rest (λ i. d.0 (subst (λ (x : ℕ). In x rest) (sym (same_Some c class at)) i)))
      ∙ ap (λ (i : ℕ). top i ∷ []) (let e : j ≡ j + 0 = omega arith in e)
  one_port j (suc k) class (c ∷ rest) d at =
      other_class c class (top j) (points_in class (grid_sites column rows (suc j) rest)) (λ e. d.0 (subst (λ (x : ℕ). In x rest) (sym e) (In_get rest k class at)))
      ∙ one_port (suc j) k class rest d.1 at
      ∙ ap (λ (i : ℕ). top i ∷ []) (let e : suc j + k ≡ j + suc k = omega arith in e)

-- ---- the port's point first

pub is_less : (a b : ℕ) → a < b → nat_lt a b ≡ true
is_less a b h = grind (arith, nat_tests)

pub is_not_less : (a b : ℕ) → b ≤ a → nat_lt a b ≡ false
is_not_less a b h = grind (arith, nat_tests)

pub port_first : (many k : ℕ) (q : Point) (pins : List Point) → k < many → net_port many k (q ∷ pins) ≡ q ∷ []
port_first many k q pins low = ap (λ (b : Bool). cond b (take 1 (q ∷ pins)) []) (is_less k many low)

pub pins_behind : (many k : ℕ) (q : Point) (pins : List Point) → k < many → net_pins many k (q ∷ pins) ≡ pins
pins_behind many k q pins low = ap (λ (b : Bool). cond b (drop 1 (q ∷ pins)) (q ∷ pins)) (is_less k many low)

pub port_none : (many k : ℕ) (pins : List Point) → many ≤ k → net_port many k pins ≡ []
port_none many k pins past = ap (λ (b : Bool). cond b (take 1 pins) []) (is_not_less k many past)

pub pins_alone : (many k : ℕ) (pins : List Point) → many ≤ k → net_pins many k pins ≡ pins
pins_alone many k pins past = ap (λ (b : Bool). cond b (drop 1 pins) pins) (is_not_less k many past)

-- ---- the node of a port's point

pub top_node : (metal c r : ℕ) → point_node metal (column_x c, row_y r) ≡ (λ (v : Node). v) (record { metal = metal; column = c; row = r })
top_node metal c r =
    let e : column_x c -ℤ pos 1500 ≡ pos (500 * c) = omega (arith, ints) in
    ap (λ z. record { metal = metal; column = natural z / 500; row = natural (row_y r) / 500 }) e
    ∙ ap (λ z. record { metal = metal; column = z; row = natural (row_y r) / 500 }) (columns_of c)
    ∙ ap (λ z. record { metal = metal; column = c; row = z }) (columns_of r)
