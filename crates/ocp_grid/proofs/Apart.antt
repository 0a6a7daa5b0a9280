-- The points of nets in rows are apart, and lie in the grid.
use Rattle.std.proofs.Common.{◌≡◌, ℕ, suc, ◌+◌, ◌-◌, ◌*◌, ◌<◌, ◌≤◌, ◌⊎◌, inl, inr, ⊎_elim, Bool, true, false, List, [], ◌∷◌, ◌++◌, length, Option, None, Some, refl, sym, ap, ◌∙◌, subst, arith, if◌then◌else◌, mul-le-mul_right, div-mul-le_self, mul_comm}
use Rattle.std.specs.Prelude.{ℤ, pos, ◌-ℤ◌, slice_get, flat_map, nat_lt, ◌/◌}
use Rattle.std.proofs.lemmas.Int.{ints}
use Rattle.std.proofs.lemmas.Bool.{eqb-true}
use Rattle.std.proofs.lemmas.Bool.Decides.{nat_tests}
use Rattle.std.proofs.lemmas.Option.{slice_get_within}
use Rattle.vlsi_base.specs.declared.name.Name.{Name}
use Rattle.vlsi_base.specs.Member.{In, here, there, AllDifferent}
use Rattle.machine_core.specs.Machine.{names_of}
use Rattle.sym_geom.specs.Rect.{moved, turned, square}
use Rattle.sym_geom.specs.declared.rect.Rect.{Rect}
use Rattle.sym_geom.specs.declared.item.Instance.{Instance}
use Rattle.cell_model.specs.Access.{Point}
use Rattle.cell_model.specs.Cell.{pin_ports}
use Rattle.cell_model.specs.Library.{Library, cell_of}
use Rattle.net_meaning.specs.Netlist.{AbstractNetlist, pin_of}
use Rattle.ocp_rows.specs.Placement.{Placement, turn_of, block_columns, port_column, column_x, row_y, net_count}
use Rattle.ocp_rows.specs.Length.{instance_point, shown_point}
use Rattle.block_geom.specs.Block.{Cell, at_x, flip_of, turned_row, pin_column, pin_row}
use Rattle.block_geom.proofs.Tracks.{pin_inside}
use Rattle.net_drawing.specs.Drawing.{Numbering, on_net}
use Rattle.net_drawing.proofs.Access.{reached}
use Rattle.net_drawing.proofs.Coding.{In_get, cell_by}
use Rattle.net_drawing.proofs.Cells.{passes, column_is, row_is}
use Rattle.net_drawing.proofs.Block.{cell_is}
use Rattle.grid_core.specs.declared.grid.Node.{Node}
use Rattle.grid_core.specs.Grid.{IsInGrid, above}
use Rattle.grid_core.specs.Routes.{NetRoutes}
use Rattle.grid_core.proofs.Lists.{In_either}
use Rattle.maze_drawing.specs.Wiring.{Wiring, HasVia, in_tree, at_terminal}
use Rattle.maze_drawing.specs.Points.{grid_over, node_at, signal_names, pin_nodes, instance_nodes, terminal_nodes, port_node, port_nodes, net_nodes, reserved}
use Rattle.maze_drawing.specs.Law.{IsRouted}
use Rattle.maze_drawing.proofs.Rows.{member_of}
use Rattle.maze_drawing.proofs.Stands as stands
use Rattle.maze_drawing.proofs.Stands.{put_of, block_at, Site, site_of, sound, columns_are}
use Rattle.maze_drawing.proofs.Pins.{flat_cases, if_cases, grid_node, spot_of, terminal_there}
use Rattle.maze_drawing.proofs.Wired.{ports_apart}
use Rattle.ocp_grid.specs.Law.{IsInRows, ArePointsApart, PointsAreApart}
use Rattle.ocp_grid.proofs.PinPlaces.{pin_within, pins_apart}

-- ---- lists
append_apart : {A : Type 0} (xs ys : List A) → AllDifferent xs → AllDifferent ys → ((x : A) → In x xs → In x ys → ⊥) → AllDifferent (xs ++ ys)
append_apart [] ys a b apart = b
append_apart (x ∷ xs) ys a b apart =
    (λ h. ⊎_elim (λ g. a.0 g) (λ g. apart x here g) (In_either xs ys x h), append_apart xs ys a.1 b (λ y h g. apart y (there h) g))

flat_apart : {A B : Type 0} (f : A → List B) (xs : List A) → ((i : ℕ) (x : A) → slice_get xs i ≡ Some x → AllDifferent (f x))
    → ((i j : ℕ) (x y : A) (b : B) → slice_get xs i ≡ Some x → slice_get xs j ≡ Some y → In b (f x) → In b (f y) → i ≡ j) → AllDifferent (flat_map f xs)
flat_apart f [] each apart = tt
flat_apart f (x ∷ xs) each apart =
    append_apart (f x) (flat_map f xs) (each 0 x refl)
    (flat_apart f xs (λ i y e. each (suc i) y e) (λ i j y z b e g h k. let s = apart (suc i) (suc j) y z b e g h k in omega arith))
    (λ b h g. let c = flat_cases f xs b g in let s = apart 0 (suc c.0) x c.1 b refl c.2 h c.3 in omega arith)

one_of : {A : Type 0} (x y : A) → In x (y ∷ []) → x ≡ y
one_of x y here = refl
one_of x y (there h) = elim h [ ]

two_of : {A : Type 0} (x y z : A) → In x (y ∷ z ∷ []) → (x ≡ y) ⊎ (x ≡ z)
two_of x y z here = inl refl
two_of x y z (there h) = inr (one_of x z h)

single : (v : Bool) (o : Option Point) → AllDifferent (if v then node_at o else [])
single true None = tt
single true (Some q) = (λ h. elim h [ ], tt)
single false o = tt

port_single : (v : Bool) (q : Node) → AllDifferent (if v then q ∷ [] else [])
port_single true q = (λ h. elim h [ ], tt)
port_single false q = tt

is_less : (a b : ℕ) → nat_lt a b ≡ true → a < b
is_less a b h = grind (arith, nat_tests)

-- ---- the column of a port lies in the block
column_low : (count columns k : ℕ) → count + 1 ≤ columns → k < count → port_column count columns k ≤ columns
column_low count columns k wide lt =
    let a : k * ((columns - 1) / count) ≤ count * ((columns - 1) / count) = mul-le-mul_right ((columns - 1) / count) (omega (arith, lt)) in
    let b : (columns - 1) / count * count ≤ columns - 1 = div-mul-le_self (columns - 1) count in
    let c : (columns - 1) / count * count ≡ count * ((columns - 1) / count) = mul_comm ((columns - 1) / count) count in
    omega (arith, a, b, c, wide)

-- ---- the point of a pin
abbrev corner_of : Rect → Point
corner_of r = (r.x1, r.y1)

pair_is : (x y z t : ℤ) → x ≡ z → y ≡ t → (λ (q : ℤ × ℤ). q) (x, y) ≡ (z, t)
pair_is x y z t a b = ap (λ v. (v, y)) a ∙ ap (λ v. (z, v)) b

turned_point : (v : Bool) (ac ar w c j : ℕ) → ar ≤ 10
    → corner_of (moved (turned (turn_of v) (square (pos (500 * ac)) (pos (500 * ar)) (pos 0)) (pos (500 * w) -ℤ pos 0) (pos 5000 -ℤ pos 0)) (at_x c) (pos (5000 * j)))
    ≡ (at_x (c + ac), at_x (10 * j + turned_row v ar))
turned_point true ac ar w c j le = pair_is _ _ _ _ (omega (arith, ints)) (omega (arith, ints))
turned_point false ac ar w c j le = pair_is _ _ _ _ (omega (arith, ints)) (omega (arith, ints))

-- ---- nothing is drawn
abbrev pub no_routes : NetRoutes
no_routes k = None

abbrev pub no_wiring : Wiring
no_wiring k = record { wires = []; vias = [] }

module _ (n : AbstractNetlist) (l : Library) (net : Numbering) (p : Placement) (instances : List Instance) (ok : IsInRows n l net p instances) where
  -- what stands in rows may be drawn without routes
  pub routed : IsRouted n l net p instances 6 no_routes no_wiring
  routed = record {
    nets = ok.nets;
    no_tracks = ok.no_tracks;
    rows = ok.rows;
    each_once = ok.each_once;
    stands = ok.stands;
    listed = ok.listed;
    few_metals = omega arith;
    trees = λ k lt. tt;
    drawn = λ k lt. record {
      runs = λ one h. elim h [ ];
      whole = λ q h. elim h.listed [ ];
      wire_order = λ i j d lt below. absurd (omega arith);
      vias = λ v. (λ h. elim h [ ], λ h. no_via v h);
      via_order = λ i j d lt below. absurd (omega arith);
    };
  }
    where
      no_via : {ts : List Node} (v : Node) → HasVia None ts v → In v []
      no_via v (in_tree f) = elim f.listed [ ]
      no_via v (at_terminal m f g) = elim g [ ]

  abbrev pub IsSite : ℕ → Instance → Type 0
  IsSite i one = Site n l net p instances 6 no_routes no_wiring routed i one

  pub site_at : (i : ℕ) (one : Instance) → slice_get instances i ≡ Some one → IsSite i one
  site_at i one e = site_of n l net p instances 6 no_routes no_wiring routed i one e

  -- pin q of instance i is shown at its place in the block
  pub point_is : (i q : ℕ) (one : Instance) (pin : Name) (s : IsSite i one) → slice_get (names_of (pin_ports s.model.cell)) q ≡ Some pin
      → instance_point (cell_of l one.model) one pin ≡ Some (at_x (pin_column (block_at n l net p instances) i q), at_x (pin_row (block_at n l net p instances) i q))
  point_is i q one pin s e =
      let m = s.model in
      let b = block_at n l net p instances in
      let a = reached m.cell m.clean pin (In_get (names_of (pin_ports m.cell)) q pin e) in
      let c = cell_is n l net p.ports (put_of l p instances) ok.nets i (member_of one) m s.listed in
      let ac : (b.cell i).column q ≡ a.column = ap (λ (v : Cell). v.column q) c ∙ column_is m.cell m.usable m.clean q pin e in
      let ar : (b.cell i).row q ≡ a.row = ap (λ (v : Cell). v.row q) c ∙ row_is m.cell m.usable m.clean q pin e in
      let column = stands.column_is n l net p instances 6 no_routes no_wiring routed i one s in
      let row = stands.row_is n l net p instances 6 no_routes no_wiring routed i one s in
      let low = pin_inside (cell_by m.cell) q (passes m.cell m.usable m.clean) (slice_get_within (names_of (pin_ports m.cell)) q pin e) in
      let low_row = low.2 in
      let g = row_is m.cell m.usable m.clean q pin e in
      let le : a.row ≤ 10 = omega arith in
      ap (λ o. instance_point o one pin) m.found
      ∙ ap (λ o. shown_point m.cell one o) a.point
      ∙ ap (λ (u : Rect). Some (corner_of (moved (turned one.transform (square (pos (500 * a.column)) (pos (500 * a.row)) (pos 0)) (u.x2 -ℤ u.x1) (u.y2 -ℤ u.y1)) one.x one.y))) m.clean.box
      ∙ ap (λ u. Some (corner_of (moved (turned u (square (pos (500 * a.column)) (pos (500 * a.row)) (pos 0)) (pos (500 * m.clean.columns) -ℤ pos 0) (pos 5000 -ℤ pos 0)) one.x one.y))) s.spot.turned
      ∙ ap (λ u. Some (corner_of (moved (turned (turn_of (flip_of s.row)) (square (pos (500 * a.column)) (pos (500 * a.row)) (pos 0)) (pos (500 * m.clean.columns) -ℤ pos 0) (pos 5000 -ℤ pos 0)) u one.y))) s.spot.x
      ∙ ap (λ u. Some (corner_of (moved (turned (turn_of (flip_of s.row)) (square (pos (500 * a.column)) (pos (500 * a.row)) (pos 0)) (pos (500 * m.clean.columns) -ℤ pos 0) (pos 5000 -ℤ pos 0)) (at_x s.spot.column) u))) s.spot.y_is
      ∙ ap (λ u. Some u) (turned_point (flip_of s.row) a.column a.row m.clean.columns s.spot.column s.row le)
      ∙ ap (λ v. Some (at_x (v + a.column), at_x (10 * s.row + turned_row (flip_of s.row) a.row))) (sym column)
      ∙ ap (λ v. Some (at_x (b.column i + v), at_x (10 * s.row + turned_row (flip_of s.row) a.row))) (sym ac)
      ∙ ap (λ v. Some (at_x (pin_column b i q), at_x (10 * v + turned_row (flip_of v) a.row))) (sym row)
      ∙ ap (λ v. Some (at_x (pin_column b i q), at_x (10 * b.row i + turned_row (flip_of (b.row i)) v))) (sym ar)

  -- and on net k it has a node of the net there
  pub pin_shown : (i q k : ℕ) (one : Instance) (pin : Name) (s : IsSite i one) → slice_get (names_of (pin_ports s.model.cell)) q ≡ Some pin → k < net_count n
      → net (n.class (pin_of one.name pin)) ≡ k
      → (x : Node) × In x (terminal_nodes n l net instances k) × (instance_point (cell_of l one.model) one pin ≡ Some (column_x x.column, row_y x.row))
  pin_shown i q k one pin s e lt f =
      let spot = spot_of n l net p instances 6 no_routes no_wiring routed i q one pin s e in
      let c = pin_column (block_at n l net p instances) i q in
      let r = pin_row (block_at n l net p instances) i q in
      let start = spot.start in
      let x : at_x c ≡ column_x (c - 3) = omega (arith, ints) in (
        grid_node c r,
        terminal_there n l net p instances 6 no_routes no_wiring routed i q k one pin lt spot (spot.back k lt f),
        point_is i q one pin s e ∙ ap (λ v. Some (v, at_x r)) x,
      )

  -- ---- a node at which pin q of instance i stands, on net k
  record IsPinOf (k i q : ℕ) (x : Node) : Type 0 where
    pub instance : i < length n.instances
    pub pin : q < ((block_at n l net p instances).cell i).pins
    pub number : (block_at n l net p instances).net i q ≡ k
    pub metal : x.metal ≡ 2
    pub column : x.column ≡ pin_column (block_at n l net p instances) i q - 3
    pub row : x.row ≡ pin_row (block_at n l net p instances) i q

  pin_case : (k i q : ℕ) (one : Instance) (pin : Name) (x : Node) → k < net_count n → slice_get instances i ≡ Some one
      → slice_get (signal_names (cell_of l one.model)) q ≡ Some pin → In x (pin_nodes n l net k one pin) → IsPinOf k i q x
  pin_case k i q one pin x lt e f h =
      let s = site_at i one e in
      let m = s.model in
      let g : slice_get (names_of (pin_ports m.cell)) q ≡ Some pin = subst (λ v. slice_get v q ≡ Some pin) (ap signal_names m.found) f in
      let spot = spot_of n l net p instances 6 no_routes no_wiring routed i q one pin s g in
      let d = if_cases (on_net n net k (pin_of one.name pin)) (node_at (instance_point (cell_of l one.model) one pin)) x h in
      let pins : ((block_at n l net p instances).cell i).pins ≡ length (names_of (pin_ports m.cell)) = ap (λ (v : Cell). v.pins) (cell_is n l net p.ports (put_of l p instances) ok.nets i (member_of one) m s.listed) in
      let below = slice_get_within (names_of (pin_ports m.cell)) q pin g in
      let is : x ≡ grid_node (pin_column (block_at n l net p instances) i q) (pin_row (block_at n l net p instances) i q) = one_of x _ (subst (λ v. In x v) spot.nodes d.1) in
      record {
        instance = slice_get_within n.instances i (member_of one) s.listed;
        pin = omega arith;
        number = spot.back k lt (eqb-true _ _ d.0);
        metal = ap (λ v. v.metal) is;
        column = ap (λ v. v.column) is;
        row = ap (λ v. v.row) is;
      }

  instance_case : (k i : ℕ) (one : Instance) (x : Node) → k < net_count n → slice_get instances i ≡ Some one → In x (instance_nodes n l net k one) → (q : ℕ) × IsPinOf k i q x
  instance_case k i one x lt e h = let c = flat_cases (pin_nodes n l net k one) (signal_names (cell_of l one.model)) x h in (c.0, pin_case k i c.0 one c.1 x lt e c.2 c.3)

  terminal_case : (k : ℕ) (x : Node) → k < net_count n → In x (terminal_nodes n l net instances k) → (i : ℕ) × (q : ℕ) × IsPinOf k i q x
  terminal_case k x lt h = let c = flat_cases (instance_nodes n l net k) instances x h in let d = instance_case k c.0 c.1 x lt c.2 c.3 in (c.0, d.0, d.1)

  place_of : (k i q : ℕ) (x : Node) → IsPinOf k i q x
      → (3 ≤ pin_column (block_at n l net p instances) i q) × (pin_column (block_at n l net p instances) i q < 3 + block_columns l p) × (pin_row (block_at n l net p instances) i q < 10 * length p.rows)
  place_of k i q x f = pin_within (block_at n l net p instances) (sound n l net p instances 6 no_routes no_wiring routed) i q f.instance f.pin

  one_place : (j k i q a r : ℕ) (x y : Node) → IsPinOf j i q x → IsPinOf k a r y → x.column ≡ y.column → x.row ≡ y.row → (i ≡ a) × (q ≡ r)
  one_place j k i q a r x y f g ec er =
      let u = place_of j i q x f in let v = place_of k a r y g in let u0 = u.0 in let v0 = v.0 in let fc = f.column in let gc = g.column in
      pins_apart (block_at n l net p instances) (sound n l net p instances 6 no_routes no_wiring routed) i q a r f.instance f.pin g.instance g.pin (omega arith) (sym f.row ∙ er ∙ g.row)

  one_net : (j k i q a r : ℕ) (x y : Node) → IsPinOf j i q x → IsPinOf k a r y → x.column ≡ y.column → x.row ≡ y.row → j ≡ k
  one_net j k i q a r x y f g ec er =
      let s = one_place j k i q a r x y f g ec er in
      sym f.number ∙ ap (λ v. (block_at n l net p instances).net v q) s.0 ∙ ap (λ v. (block_at n l net p instances).net a v) s.1 ∙ g.number

  -- ---- what stands where: a port of net k, or a pin
  data IsAt (k : ℕ) (x : Node) : Type 0 where
    at_port : k < length p.ports → x.metal ≡ 3 → x.column ≡ port_column (length p.ports) (block_columns l p) k → x.row ≡ 10 * length p.rows + 1 → IsAt k x
    at_pin : (i q : ℕ) (y : Node) → IsPinOf k i q y → (x.metal ≡ 2) ⊎ (x.metal ≡ 3) → x.column ≡ y.column → x.row ≡ y.row → IsAt k x

  port_case : (k : ℕ) (x : Node) → In x (port_nodes l p k) → IsAt k x
  port_case k x h =
      let a = if_cases (nat_lt k (length p.ports)) (port_node l p k ∷ []) x h in
      let e = one_of x (port_node l p k) a.1 in
      at_port (is_less k (length p.ports) a.0) (ap (λ v. v.metal) e) (ap (λ v. v.column) e) (ap (λ v. v.row) e)

  node_case : (k : ℕ) (x : Node) → k < net_count n → In x (net_nodes n l net p instances k) → IsAt k x
  node_case k x lt h =
      ⊎_elim (port_case k x) (λ g. let c = terminal_case k x lt g in at_pin c.0 c.1 x c.2 (inl c.2.metal) refl refl)
      (In_either (port_nodes l p k) (terminal_nodes n l net instances k) x h)

  reserved_case : (k : ℕ) (x : Node) → k < net_count n → In x (reserved n l net p instances k) → IsAt k x
  reserved_case k x lt h =
      ⊎_elim (port_case k x) (λ g.
      let c = flat_cases (λ q. q ∷ above q ∷ []) (terminal_nodes n l net instances k) x g in
      let d = terminal_case k c.1 lt (In_get (terminal_nodes n l net instances k) c.0 c.1 c.2) in
      let m = d.2.metal in
      ⊎_elim
      (λ e. at_pin d.0 d.1 c.1 d.2 (inl (ap (λ v. v.metal) e ∙ m)) (ap (λ v. v.column) e) (ap (λ v. v.row) e))
      (λ e. let em : x.metal ≡ c.1.metal + 1 = ap (λ v. v.metal) e in at_pin d.0 d.1 c.1 d.2 (inr (omega arith)) (ap (λ v. v.column) e) (ap (λ v. v.row) e))
      (two_of x c.1 (above c.1) c.3))
      (In_either (port_nodes l p k) (flat_map (λ q. q ∷ above q ∷ []) (terminal_nodes n l net instances k)) x h)

  wide : length p.ports + 1 ≤ block_columns l p
  wide = let c = columns_are n l net p instances 6 no_routes no_wiring routed in omega (arith, c)

  -- two nodes of one column and row are of one net
  at_one : (j k : ℕ) (x y : Node) → IsAt j x → IsAt k y → x.column ≡ y.column → x.row ≡ y.row → j ≡ k
  at_one j k x y (at_port hj m c r) (at_port hk m2 c2 r2) ec er = ports_apart (length p.ports) (block_columns l p) j k wide hj hk (sym c ∙ ec ∙ c2)
  at_one j k x y (at_port hj m c r) (at_pin i q z f m2 c2 r2) ec er = absurd (let a = place_of k i q z f in let a2 = a.2 in let fr = f.row in omega arith)
  at_one j k x y (at_pin i q z f m2 c2 r2) (at_port hk m c r) ec er = absurd (let a = place_of j i q z f in let a2 = a.2 in let fr = f.row in omega arith)
  at_one j k x y (at_pin i q z f m c r) (at_pin a b w g m2 c2 r2) ec er = one_net j k i q a b z w f g (sym c ∙ ec ∙ c2) (sym r ∙ er ∙ r2)

  pub places_apart : (j k : ℕ) (x y : Node) → j < net_count n → k < net_count n → In x (net_nodes n l net p instances j) → In y (net_nodes n l net p instances k)
      → x.column ≡ y.column → x.row ≡ y.row → j ≡ k
  places_apart j k x y hj hk hx hy ec er = at_one j k x y (node_case j x hj hx) (node_case k y hk hy) ec er

  in_grid : (metals k : ℕ) (x : Node) → 3 ≤ metals → IsAt k x → IsInGrid (grid_over metals l p) x
  in_grid metals k x high (at_port hk m c r) =
      let a = column_low (length p.ports) (block_columns l p) k wide hk in
      record { low = omega arith; high = omega arith; column = omega (arith, a, c); row = omega arith }
  in_grid metals k x high (at_pin i q y f m c r) =
      let a = place_of k i q y f in let a0 = a.0 in let a1 = a.1 in let a2 = a.2 in let fc = f.column in let fr = f.row in
      record { low = ⊎_elim (λ e. omega arith) (λ e. omega arith) m; high = ⊎_elim (λ e. omega arith) (λ e. omega arith) m; column = omega arith; row = omega arith }

  -- ---- the points of a net differ
  instance_apart : (k i : ℕ) (one : Instance) → k < net_count n → slice_get instances i ≡ Some one → AllDifferent (instance_nodes n l net k one)
  instance_apart k i one lt e =
      flat_apart (pin_nodes n l net k one) (signal_names (cell_of l one.model))
      (λ q pin f. single (on_net n net k (pin_of one.name pin)) (instance_point (cell_of l one.model) one pin))
      (λ q r pin other x f g hx hy. (one_place k k i q i r x x (pin_case k i q one pin x lt e f hx) (pin_case k i r one other x lt e g hy) refl refl).1)

  terminals_apart : (k : ℕ) → k < net_count n → AllDifferent (terminal_nodes n l net instances k)
  terminals_apart k lt =
      flat_apart (instance_nodes n l net k) instances (λ i one e. instance_apart k i one lt e)
      (λ i j one other x e f hx hy. let u = instance_case k i one x lt e hx in let v = instance_case k j other x lt f hy in
      (one_place k k i u.0 j v.0 x x u.1 v.1 refl refl).0)

  net_apart : (k : ℕ) → k < net_count n → AllDifferent (net_nodes n l net p instances k)
  net_apart k lt =
      append_apart (port_nodes l p k) (terminal_nodes n l net instances k) (port_single (nat_lt k (length p.ports)) (port_node l p k)) (terminals_apart k lt)
      (λ x hx hy.
      let a = if_cases (nat_lt k (length p.ports)) (port_node l p k ∷ []) x hx in
      let e : x.metal ≡ 3 = ap (λ v. v.metal) (one_of x (port_node l p k) a.1) in
      let f = (terminal_case k x lt hy).2.metal in omega arith)

  pub apart : (metals : ℕ) → 3 ≤ metals → ArePointsApart (grid_over metals l p) (net_count n) (net_nodes n l net p instances) (reserved n l net p instances)
  apart metals high = record {
    within = λ k q lt h. in_grid metals k q high (reserved_case k q lt h);
    alone = λ j k q hj hk a b. at_one j k q q (reserved_case j q hj a) (reserved_case k q hk b) refl refl;
    different = net_apart;
  }

pub points_are_apart : PointsAreApart
points_are_apart n l net p instances metals ok high = apart n l net p instances ok metals high
