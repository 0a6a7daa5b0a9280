-- The nodes at which the pins of a placed netlist stand.
use Rattle.std.proofs.Common.{◌≡◌, ℕ, zero, suc, ◌+◌, ◌-◌, ◌*◌, ◌<◌, ◌≤◌, ⊎_elim, Bool, true, false, List, [], ◌∷◌, length, Some, refl, sym, ap, ◌∙◌, subst, arith, if◌then◌else◌, length-append}
use Rattle.std.specs.Prelude.{ℤ, pos, ◌-ℤ◌, slice_get, flat_map, nat_eq, ◌/◌}
use Rattle.std.proofs.lemmas.Int.{ints}
use Rattle.std.proofs.lemmas.Bool.{eqb-true, eq-eqb}
use Rattle.std.proofs.lemmas.Option.{slice_get_within}
use Rattle.vlsi_base.specs.declared.name.Name as name
use Rattle.vlsi_base.specs.Member.{In, here, there}
use Rattle.machine_core.specs.Machine.{names_of}
use Rattle.sym_geom.specs.Rect.{moved, turned, square}
use Rattle.sym_geom.specs.declared.rect.Rect.{Rect}
use Rattle.sym_geom.specs.declared.item.Instance.{Instance}
use Rattle.cell_model.specs.Access.{Point}
use Rattle.cell_model.specs.Cell as cells
use Rattle.cell_model.specs.Cell.{pin_ports}
use Rattle.cell_model.specs.Library.{Library, cell_of}
use Rattle.net_meaning.specs.Netlist.{AbstractNetlist, pin_of}
use Rattle.ocp_rows.specs.Placement.{Placement, natural, turn_of, net_count}
use Rattle.ocp_rows.specs.Length.{instance_point, shown_point}
use Rattle.block_geom.specs.Block.{Cell, at_x, flip_of, turned_row, pin_column, pin_row}
use Rattle.block_geom.proofs.Tracks.{pin_inside}
use Rattle.net_drawing.specs.Drawing.{Numbering, on_net}
use Rattle.net_drawing.proofs.Access.{reached}
use Rattle.net_drawing.proofs.Coding.{In_get, get_there, columns_of, cell_by}
use Rattle.net_drawing.proofs.Cells.{passes, column_is, row_is, In_first, In_last}
use Rattle.net_drawing.proofs.Numbers.{pins_before, number_low, number_under}
use Rattle.maze_geom.specs.Maze as maze
use Rattle.grid_core.specs.declared.grid.Node.{Node}
use Rattle.grid_core.specs.Routes.{NetRoutes}
use Rattle.maze_drawing.specs.Wiring.{Wiring}
use Rattle.maze_drawing.specs.Points.{node_at, signal_names, pin_nodes, instance_nodes, terminal_nodes, has_two}
use Rattle.maze_drawing.specs.Law.{IsRouted}
use Rattle.net_drawing.proofs.Block.{cell_is, net_is}
use Rattle.grid_core.proofs.Lists.{In_either}
use Rattle.maze_drawing.proofs.Rows.{member_of}
use Rattle.maze_drawing.proofs.Stands as stands
use Rattle.maze_drawing.proofs.Stands.{put_of, block_at, Site, site, site_of}
use Rattle.maze_drawing.proofs.Nodes.{as_node}

-- ---- lists
pub flat_cases : {A B : Type 0} (f : A → List B) (xs : List A) (y : B) → In y (flat_map f xs) → (i : ℕ) × (x : A) × (slice_get xs i ≡ Some x) × In y (f x)
flat_cases f [] y h = elim h [ ]
flat_cases f (x ∷ xs) y h =
    ⊎_elim (λ g. (0, x, refl, g)) (λ g. let r = flat_cases f xs y g in (suc r.0, r.1, r.2, r.3)) (In_either (f x) (flat_map f xs) y h)

pub flat_at : {A B : Type 0} (f : A → List B) (xs : List A) (i : ℕ) (x : A) (y : B) → slice_get xs i ≡ Some x → In y (f x) → In y (flat_map f xs)
flat_at f [] i x y e h = absurd (cc e)
flat_at f (z ∷ xs) zero x y e h = let g : x ≡ z = cc in In_first (f z) (flat_map f xs) y (subst (λ v. In y (f v)) g h)
flat_at f (z ∷ xs) (suc i) x y e h = In_last (f z) (flat_map f xs) y (flat_at f xs i x y e h)

In_long : {A : Type 0} (xs : List A) (y : A) → In y xs → 1 ≤ length xs
In_long xs y here = omega arith
In_long xs y (there h) = omega arith

-- what two elements give makes two
pub flat_two : {A B : Type 0} (f : A → List B) (xs : List A) (i j : ℕ) (x y : A) (a b : B) → i < j → slice_get xs i ≡ Some x → slice_get xs j ≡ Some y → In a (f x) → In b (f y)
    → 2 ≤ length (flat_map f xs)
flat_two f [] i j x y a b lt e g ha hb = absurd (cc e)
flat_two f (z ∷ xs) i zero x y a b lt e g ha hb = absurd (omega arith)
flat_two f (z ∷ xs) zero (suc j) x y a b lt e g ha hb =
    let s : x ≡ z = cc in
    let p = In_long (f z) a (subst (λ v. In a (f v)) s ha) in
    let q = In_long (flat_map f xs) b (flat_at f xs j y b g hb) in
    let l = length-append (f z) (flat_map f xs) in omega arith
flat_two f (z ∷ xs) (suc i) (suc j) x y a b lt e g ha hb =
    let q = flat_two f xs i j x y a b (omega arith) e g ha hb in
    let l = length-append (f z) (flat_map f xs) in omega arith

-- and so do two of what one of them gives
pub flat_long : {A B : Type 0} (f : A → List B) (xs : List A) (i : ℕ) (x : A) → slice_get xs i ≡ Some x → length (f x) ≤ length (flat_map f xs)
flat_long f [] i x e = absurd (cc e)
flat_long f (z ∷ xs) zero x e = let s : x ≡ z = cc in let p = ap (λ v. length (f v)) s in let l = length-append (f z) (flat_map f xs) in omega arith
flat_long f (z ∷ xs) (suc i) x e = let q = flat_long f xs i x e in let l = length-append (f z) (flat_map f xs) in omega arith

pub two_long : (xs : List Node) → 2 ≤ length xs → has_two xs ≡ true
two_long [] h = absurd (omega arith)
two_long (x ∷ []) h = absurd (omega arith)
two_long (x ∷ (y ∷ rest)) h = refl

pub if_cases : {A : Type 0} (v : Bool) (xs : List A) (y : A) → In y (if v then xs else []) → (v ≡ true) × In y xs
if_cases true xs y h = (refl, h)
if_cases false xs y h = elim h [ ]

pub if_in : {A : Type 0} (v : Bool) (xs : List A) (y : A) → v ≡ true → In y xs → In y (if v then xs else [])
if_in true xs y e h = h
if_in false xs y e h = absurd (cc e)

-- ---- points
abbrev corner_of : Rect → Point
corner_of r = (r.x1, r.y1)

turned_point : (v : Bool) (ac ar w : ℕ) (c j : ℕ) (p : ℤ × ℤ) → ar ≤ 10 → p ≡ (pos (500 * ac), pos (500 * ar))
    → corner_of (moved (turned (turn_of v) (square p.0 p.1 (pos 0)) (pos (500 * w) -ℤ pos 0) (pos 5000 -ℤ pos 0)) (at_x c) (pos (5000 * j)))
    ≡ (at_x (c + ac), at_x (10 * j + turned_row v ar))
turned_point true ac ar w c j p le e =
    let a : p.0 ≡ pos (500 * ac) = ap (λ v. v.0) e in let b : p.1 ≡ pos (500 * ar) = ap (λ v. v.1) e in
    pair _ _ _ _ (omega (arith, ints)) (omega (arith, ints))
  where
    pair : (x y z t : ℤ) → x ≡ z → y ≡ t → (λ (q : ℤ × ℤ). q) (x, y) ≡ (z, t)
    pair x y z t a b = ap (λ v. (v, y)) a ∙ ap (λ v. (z, v)) b
turned_point false ac ar w c j p le e =
    let a : p.0 ≡ pos (500 * ac) = ap (λ v. v.0) e in let b : p.1 ≡ pos (500 * ar) = ap (λ v. v.1) e in
    pair _ _ _ _ (omega (arith, ints)) (omega (arith, ints))
  where
    pair : (x y z t : ℤ) → x ≡ z → y ≡ t → (λ (q : ℤ × ℤ). q) (x, y) ≡ (z, t)
    pair x y z t a b = ap (λ v. (v, y)) a ∙ ap (λ v. (z, v)) b

-- the node of a column and row of the whole drawing
abbrev pub grid_node : ℕ → ℕ → Node
grid_node c r = record { metal = 2; column = c - 3; row = r }

node_is : (c r : ℕ) → 3 ≤ c → node_at (Some (at_x c, at_x r)) ≡ grid_node c r ∷ []
node_is c r le =
    let a : at_x c -ℤ pos 1500 ≡ pos (500 * (c - 3)) = omega (arith, ints) in
    ap (λ v. record { metal = 2; column = natural v / 500; row = natural (at_x r) / 500 } ∷ []) a
    ∙ ap (λ v. record { metal = 2; column = v; row = natural (at_x r) / 500 } ∷ []) (columns_of (c - 3))
    ∙ ap (λ v. record { metal = 2; column = c - 3; row = v } ∷ []) (columns_of r)

pub as_pin : (c r : ℕ) → 3 ≤ c → as_node (grid_node c r) ≡ (λ (v : maze.Node). v) (record { metal = 2; column = c; row = r })
as_pin c r le = let a : 3 + (c - 3) ≡ c = omega arith in ap (λ v. record { metal = 2; column = v; row = r }) a

module _ (n : AbstractNetlist) (l : Library) (net : Numbering) (p : Placement) (instances : List Instance) (metals : ℕ) (routes : NetRoutes) (w : Wiring) (ok : IsRouted n l net p instances metals routes w) where
  -- pin q of instance i, and the node where it stands
  pub record PinSpot (i q : ℕ) (one : Instance) (pin : name.Name) : Type 0 where
    pub at : slice_get instances i ≡ Some one
    pub cell : cells.Cell
    pub found : cell_of l one.model ≡ Some cell
    pub named : slice_get (names_of (pin_ports cell)) q ≡ Some pin
    pub nodes : node_at (instance_point (cell_of l one.model) one pin) ≡ grid_node (pin_column (block_at n l net p instances) i q) (pin_row (block_at n l net p instances) i q) ∷ []
    pub start : 3 ≤ pin_column (block_at n l net p instances) i q
    pub number : (k : ℕ) → k < net_count n → (block_at n l net p instances).net i q ≡ k → net (n.class (pin_of one.name pin)) ≡ k
    pub back : (k : ℕ) → k < net_count n → net (n.class (pin_of one.name pin)) ≡ k → (block_at n l net p instances).net i q ≡ k

  pub spot_of : (i q : ℕ) (one : Instance) (pin : name.Name) (s : Site n l net p instances metals routes w ok i one) → slice_get (names_of (pin_ports s.model.cell)) q ≡ Some pin → PinSpot i q one pin
  spot_of i q one pin s e =
      let m = s.model in
      let put = put_of l p instances in
      let b = block_at n l net p instances in
      let a = reached m.cell m.clean pin (In_get (names_of (pin_ports m.cell)) q pin e) in
      let low = pin_inside (cell_by m.cell) q (passes m.cell m.usable m.clean) (slice_get_within (names_of (pin_ports m.cell)) q pin e) in
      let c = cell_is n l net p.ports put ok.nets i (member_of one) m s.listed in
      let g = row_is m.cell m.usable m.clean q pin e in
      let ac : (b.cell i).column q ≡ a.column = ap (λ (v : Cell). v.column q) c ∙ column_is m.cell m.usable m.clean q pin e in
      let ar : (b.cell i).row q ≡ a.row = ap (λ (v : Cell). v.row q) c ∙ g in
      let low2 = low.2 in
      let le : a.row ≤ 10 = omega arith in
      let column = stands.column_is n l net p instances metals routes w ok i one s in
      let row = stands.row_is n l net p instances metals routes w ok i one s in
      let start = s.spot.start in
      let is = net_is n l net p.ports put ok.nets i q (member_of one) m pin (s.listed, e) in
      let under = net_count n in
      record {
        at = s.at;
        cell = m.cell;
        found = m.found;
        named = e;
        nodes = ap (λ o. node_at (instance_point o one pin)) m.found
            ∙ ap (λ o. node_at (shown_point m.cell one o)) a.point
            ∙ ap (λ (u : Rect). node_at (Some (corner_of (moved (turned one.transform (square (pos (500 * a.column)) (pos (500 * a.row)) (pos 0)) (u.x2 -ℤ u.x1) (u.y2 -ℤ u.y1)) one.x one.y)))) m.clean.box
            ∙ ap (λ u. node_at (Some (corner_of (moved (turned u (square (pos (500 * a.column)) (pos (500 * a.row)) (pos 0)) (pos (500 * m.clean.columns) -ℤ pos 0) (pos 5000 -ℤ pos 0)) one.x one.y)))) s.spot.turned
            ∙ ap (λ u. node_at (Some (corner_of (moved (turned (turn_of (flip_of s.row)) (square (pos (500 * a.column)) (pos (500 * a.row)) (pos 0)) (pos (500 * m.clean.columns) -ℤ pos 0) (pos 5000 -ℤ pos 0)) u one.y)))) s.spot.x
            ∙ ap (λ u. node_at (Some (corner_of (moved (turned (turn_of (flip_of s.row)) (square (pos (500 * a.column)) (pos (500 * a.row)) (pos 0)) (pos (500 * m.clean.columns) -ℤ pos 0) (pos 5000 -ℤ pos 0)) (at_x s.spot.column) u)))) s.spot.y_is
            ∙ ap (λ u. node_at (Some u)) (turned_point (flip_of s.row) a.column a.row m.clean.columns s.spot.column s.row (pos (500 * a.column), pos (500 * a.row)) le refl)
            ∙ node_is (s.spot.column + a.column) (10 * s.row + turned_row (flip_of s.row) a.row) (omega arith)
            ∙ ap (λ v. grid_node (v + a.column) (10 * s.row + turned_row (flip_of s.row) a.row) ∷ []) (sym column)
            ∙ ap (λ v. grid_node (b.column i + v) (10 * s.row + turned_row (flip_of s.row) a.row) ∷ []) (sym ac)
            ∙ ap (λ v. grid_node (pin_column b i q) (10 * v + turned_row (flip_of v) a.row) ∷ []) (sym row)
            ∙ ap (λ v. grid_node (pin_column b i q) (10 * b.row i + turned_row (flip_of (b.row i)) v) ∷ []) (sym ar);
        start = omega arith;
        number = λ k lt f.
            let u = number_under under (net (n.class (pin_of one.name pin))) (pins_before l 0 n.instances i + q) (subst (λ v. v < under) is (subst (λ v. v < under) (sym f) lt)) in
            sym (number_low under (net (n.class (pin_of one.name pin))) (pins_before l 0 n.instances i + q) u) ∙ sym is ∙ f;
        back = λ k lt f. is ∙ number_low under (net (n.class (pin_of one.name pin))) (pins_before l 0 n.instances i + q) (subst (λ v. v < under) (sym f) lt) ∙ f;
      }

  pub spot_at : (i q : ℕ) → i < length n.instances → q < ((block_at n l net p instances).cell i).pins → (one : Instance) × (pin : name.Name) × PinSpot i q one pin
  spot_at i q hi hq =
      let r = site n l net p instances metals routes w ok i hi in
      let s = r.1 in
      let c : ((block_at n l net p instances).cell i).pins ≡ length (names_of (pin_ports s.model.cell)) = ap (λ (v : Cell). v.pins) (cell_is n l net p.ports (put_of l p instances) ok.nets i (member_of r.0) s.model s.listed) in
      let g = get_there (names_of (pin_ports s.model.cell)) q (omega arith) in
      (r.0, g.0, spot_of i q r.0 g.0 s g.1)

  abbrev pub node_of : ℕ → ℕ → Node
  node_of i q = grid_node (pin_column (block_at n l net p instances) i q) (pin_row (block_at n l net p instances) i q)

  -- a pin with the number of net k stands at one of its nodes, which its instance gives
  pub pin_there : (i q k : ℕ) (one : Instance) (pin : name.Name) → k < net_count n → (s : PinSpot i q one pin) → (block_at n l net p instances).net i q ≡ k → In (node_of i q) (pin_nodes n l net k one pin)
  pin_there i q k one pin lt s e =
      let t : nat_eq (net (n.class (pin_of one.name pin))) k ≡ true = eq-eqb (net (n.class (pin_of one.name pin))) k (s.number k lt e) in
      if_in (on_net n net k (pin_of one.name pin)) (node_at (instance_point (cell_of l one.model) one pin)) (node_of i q) t
      (subst (λ v. In (node_of i q) v) (sym s.nodes) here)

  names_are : (i q : ℕ) (one : Instance) (pin : name.Name) (s : PinSpot i q one pin) → names_of (pin_ports s.cell) ≡ signal_names (cell_of l one.model)
  names_are i q one pin s = ap signal_names (sym s.found)

  pub instance_there : (i q k : ℕ) (one : Instance) (pin : name.Name) → k < net_count n → (s : PinSpot i q one pin) → (block_at n l net p instances).net i q ≡ k → In (node_of i q) (instance_nodes n l net k one)
  instance_there i q k one pin lt s e =
      subst (λ names. In (node_of i q) (flat_map (pin_nodes n l net k one) names)) (names_are i q one pin s)
      (flat_at (pin_nodes n l net k one) (names_of (pin_ports s.cell)) q pin (node_of i q) s.named (pin_there i q k one pin lt s e))

  pub terminal_there : (i q k : ℕ) (one : Instance) (pin : name.Name) → k < net_count n → (s : PinSpot i q one pin) → (block_at n l net p instances).net i q ≡ k → In (node_of i q) (terminal_nodes n l net instances k)
  terminal_there i q k one pin lt s e = flat_at (instance_nodes n l net k) instances i one (node_of i q) s.at (instance_there i q k one pin lt s e)

  -- and each of its nodes is one at which such a pin stands
  pub record IsPinNode (k : ℕ) (x : Node) : Type 0 where
    pub i : ℕ
    pub q : ℕ
    pub instance : i < length n.instances
    pub pin : q < ((block_at n l net p instances).cell i).pins
    pub one : Instance
    pub called : name.Name
    pub spot : PinSpot i q one called
    pub net_is : (block_at n l net p instances).net i q ≡ k
    pub is : x ≡ node_of i q

  pub terminal_cases : (k : ℕ) → k < net_count n → (x : Node) → In x (terminal_nodes n l net instances k) → IsPinNode k x
  terminal_cases k lt x h =
      let a = flat_cases (instance_nodes n l net k) instances x h in
      let i = a.0 in let one = a.1 in
      let s = site_of n l net p instances metals routes w ok i one a.2 in
      let m = s.model in
      let h2 : In x (flat_map (pin_nodes n l net k one) (names_of (pin_ports m.cell))) = subst (λ names. In x (flat_map (pin_nodes n l net k one) names)) (ap signal_names m.found) a.3 in
      let c = flat_cases (pin_nodes n l net k one) (names_of (pin_ports m.cell)) x h2 in
      let q = c.0 in let pin = c.1 in
      let spot = spot_of i q one pin s c.2 in
      let d = if_cases (on_net n net k (pin_of one.name pin)) (node_at (instance_point (cell_of l one.model) one pin)) x c.3 in
      let number : net (n.class (pin_of one.name pin)) ≡ k = eqb-true _ _ d.0 in
      let pins : ((block_at n l net p instances).cell i).pins ≡ length (names_of (pin_ports m.cell)) = ap (λ (v : Cell). v.pins) (cell_is n l net p.ports (put_of l p instances) ok.nets i (member_of one) m s.listed) in
      let q_below = slice_get_within (names_of (pin_ports m.cell)) q pin c.2 in
      record {
        i = i;
        q = q;
        instance = slice_get_within n.instances i (member_of one) s.listed;
        pin = omega arith;
        one = one;
        called = pin;
        spot = spot;
        net_is = spot.back k lt number;
        is = only x (node_of i q) (subst (λ v. In x v) spot.nodes d.1);
      }
    where
      only : (x y : Node) → In x (y ∷ []) → x ≡ y
      only x y here = refl
      only x y (there g) = elim g [ ]
