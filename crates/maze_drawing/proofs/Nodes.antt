-- Routes by numbers, whose columns are counted from x 0; and wires and vias as their lines show them.
use Rattle.std.proofs.Common.{◌≡◌, ℕ, zero, suc, ◌+◌, ◌≤◌, Bool, true, false, List, [], ◌∷◌, ◌++◌, map, length, Option, Some, None, refl, sym, ap, ◌∙◌, subst, arith, if◌then◌else◌}
use Rattle.std.specs.Prelude.{ℤ, pos, ◌+ℤ◌, ◌-ℤ◌}
use Rattle.std.specs.Int.{int_min, int_max}
use Rattle.std.proofs.lemmas.Int.{ints}
use Rattle.vlsi_base.specs.declared.name.Name as name
use Rattle.vlsi_base.specs.Member.{In, here, there}
use Rattle.sym_geom.specs.Metal.{metal_of}
use Rattle.sym_geom.specs.Items.{lower_metal, pads_on}
use Rattle.sym_geom.specs.Rect as rect
use Rattle.sym_geom.specs.declared.rect.Rect.{Rect}
use Rattle.sym_geom.specs.declared.layer.Layer.TheVariants.{Alu}
use Rattle.sym_geom.specs.declared.layer.Level.TheVariants.{Three}
use Rattle.sym_geom.specs.declared.item.Contact.TheVariants.{Via1, Via2}
use Rattle.sym_geom.specs.declared.item.Item.{Item}
use Rattle.sym_shapes.specs.Shape as shape
use Rattle.sym_shapes.specs.Shape.{item_shapes, on_metal, pad_shapes}
use Rattle.cell_model.specs.Library.{Library}
use Rattle.ocp_rows.specs.Placement.{Placement, IsWiring, level_wire, upright_wire, contact_at, column_x, row_y, block_columns, port_column}
use Rattle.block_geom.specs.Figure.{Shape, Name, Segment, Via}
use Rattle.block_geom.specs.Block.{Net, Tagged, at_x}
use Rattle.net_drawing.specs.Picture.{shown}
use Rattle.net_drawing.proofs.Pieces.{Drawn, nothing, Drawn_append, one_line, min_low, max_high, unnamed_shape}
use Rattle.maze_geom.specs.Maze as maze
use Rattle.maze_geom.specs.Maze.{wire_line, via_line}
use Rattle.grid_core.specs.declared.grid.Node.{Node}
use Rattle.grid_core.specs.Grid.{is_level, ahead}
use Rattle.grid_core.specs.Routes.{NetRoutes, tree_nodes}
use Rattle.maze_drawing.specs.Wiring.{Wire, Wiring, NetWiring, level_of, contact_of, wire_item, via_item, net_items}
use Rattle.maze_drawing.specs.Points.{port_nodes}

abbrev pub as_node : Node → maze.Node
as_node p = record { metal = p.metal; column = 3 + p.column; row = p.row }

abbrev pub wire_to : Node → Node → maze.Wire
wire_to a b = record { metal = a.metal; c1 = 3 + a.column; r1 = a.row; c2 = 3 + b.column; r2 = b.row }

abbrev pub as_wire : Wire → maze.Wire
as_wire w = wire_to w.from (ahead w.from w.steps)

abbrev pub routes_of : Library → Placement → NetRoutes → Wiring → maze.Routes
routes_of l p routes w = record {
  wires = λ k. map as_wire (w k).wires;
  vias = λ k. map as_node (w k).vias;
  nodes = λ k. map as_node (tree_nodes (routes k) ++ port_nodes l p k);
  port_column = λ k. 3 + port_column (length p.ports) (block_columns l p) k;
}

-- ---- metals
pub layer_is : (m : ℕ) → 2 ≤ m → m ≤ 6 → metal_of (Alu (level_of m)) ≡ Some m
layer_is zero h k = absurd (omega arith)
layer_is (suc zero) h k = absurd (omega arith)
layer_is (suc (suc zero)) h k = refl
layer_is (suc (suc (suc zero))) h k = refl
layer_is (suc (suc (suc (suc zero)))) h k = refl
layer_is (suc (suc (suc (suc (suc zero))))) h k = refl
layer_is (suc (suc (suc (suc (suc (suc zero)))))) h k = refl
layer_is (suc (suc (suc (suc (suc (suc (suc m))))))) h k = absurd (omega arith)

pub contact_is : (m : ℕ) → 1 ≤ m → m ≤ 5 → lower_metal (contact_of m) ≡ Some m
contact_is zero h k = absurd (omega arith)
contact_is (suc zero) h k = refl
contact_is (suc (suc zero)) h k = refl
contact_is (suc (suc (suc zero))) h k = refl
contact_is (suc (suc (suc (suc zero)))) h k = refl
contact_is (suc (suc (suc (suc (suc zero))))) h k = refl
contact_is (suc (suc (suc (suc (suc (suc m)))))) h k = absurd (omega arith)

rect_same : (a b c d w x y z : ℤ) → a ≡ w → b ≡ x → c ≡ y → d ≡ z → (λ (r : Rect). r) (record { x1 = a; y1 = b; x2 = c; y2 = d }) ≡ record { x1 = w; y1 = x; x2 = y; y2 = z }
rect_same a b c d w x y z p q r s =
    ap (λ v. record { x1 = v; y1 = b; x2 = c; y2 = d }) p ∙ ap (λ v. record { x1 = w; y1 = v; x2 = c; y2 = d }) q
    ∙ ap (λ v. record { x1 = w; y1 = x; x2 = v; y2 = d }) r ∙ ap (λ v. record { x1 = w; y1 = x; x2 = y; y2 = v }) s

-- ---- wires and vias
abbrev drawn_rect : ℕ → ℕ → ℕ → ℕ → Rect
drawn_rect c r d s = record { x1 = at_x (3 + c) -ℤ pos 100; y1 = at_x r -ℤ pos 100; x2 = at_x (3 + d) +ℤ pos 100; y2 = at_x s +ℤ pos 100 }

wire_shape : (v : Bool) (m c r s k : ℕ) (nm : Option name.Name) → metal_of (Alu (level_of m)) ≡ Some m
    → item_shapes k (if v
    then level_wire (Alu (level_of m)) (pos 200) (column_x c) (column_x (if v then c + s else c)) (row_y r) nm
    else upright_wire (Alu (level_of m)) (pos 200) (column_x c) (row_y r) (row_y (if v then r else r + s)) nm)
    ≡ unnamed_shape m k (drawn_rect c r (if v then c + s else c) (if v then r else r + s)) ∷ []
wire_shape true m c r s k nm e =
    ap (λ o. on_metal o k (record { x1 = int_min (column_x c) (column_x (c + s)) -ℤ pos 100; y1 = int_min (row_y r) (row_y r) -ℤ pos 100; x2 = int_max (column_x c) (column_x (c + s)) +ℤ pos 100; y2 = int_max (row_y r) (row_y r) +ℤ pos 100 }) None) e
    ∙ ap (λ u. unnamed_shape m k u ∷ []) (rect_same _ _ _ _ _ _ _ _
    (let a = min_low (column_x c) (column_x (c + s)) (omega (arith, ints)) in omega (arith, ints)) (let a = min_low (row_y r) (row_y r) (omega (arith, ints)) in omega (arith, ints))
    (let a = max_high (column_x c) (column_x (c + s)) (omega (arith, ints)) in omega (arith, ints)) (let a = max_high (row_y r) (row_y r) (omega (arith, ints)) in omega (arith, ints)))
wire_shape false m c r s k nm e =
    ap (λ o. on_metal o k (record { x1 = int_min (column_x c) (column_x c) -ℤ pos 100; y1 = int_min (row_y r) (row_y (r + s)) -ℤ pos 100; x2 = int_max (column_x c) (column_x c) +ℤ pos 100; y2 = int_max (row_y r) (row_y (r + s)) +ℤ pos 100 }) None) e
    ∙ ap (λ u. unnamed_shape m k u ∷ []) (rect_same _ _ _ _ _ _ _ _
    (let a = min_low (column_x c) (column_x c) (omega (arith, ints)) in omega (arith, ints)) (let a = min_low (row_y r) (row_y (r + s)) (omega (arith, ints)) in omega (arith, ints))
    (let a = max_high (column_x c) (column_x c) (omega (arith, ints)) in omega (arith, ints)) (let a = max_high (row_y r) (row_y (r + s)) (omega (arith, ints)) in omega (arith, ints)))

wire_wiring : (v : Bool) (m : ℕ) (x1 x2 y1 y2 x y : ℤ) (nm : Option name.Name) → IsWiring (if v then level_wire (Alu (level_of m)) (pos 200) x1 x2 y nm else upright_wire (Alu (level_of m)) (pos 200) x y1 y2 nm)
wire_wiring true m x1 x2 y1 y2 x y nm = refl
wire_wiring false m x1 x2 y1 y2 x y nm = refl

column_same : (c : ℕ) → column_x c ≡ at_x (3 + c)
column_same c = omega (arith, ints)

-- the elements of a list, line by line
pub each_drawn : {A : Type 0} (g : Shape → shape.Shape) (h : A → Item) (f : A → Tagged) (xs : List A) → ((x : A) → In x xs → Drawn g (h x ∷ []) (f x ∷ [])) → Drawn g (map h xs) (map f xs)
each_drawn g h f [] e = nothing g
each_drawn g h f (x ∷ xs) e = Drawn_append g (h x ∷ []) (map h xs) (f x ∷ []) (map f xs) (e x here) (each_drawn g h f xs (λ y i. e y (there i)))

pub map_twice : {A B C : Type 0} (f : A → B) (g : B → C) (xs : List A) → map g (map f xs) ≡ map (λ x. g (f x)) xs
map_twice f g [] = refl
map_twice f g (x ∷ xs) = ap (λ v. g (f x) ∷ v) (map_twice f g xs)

module _ (own : ℕ → List ℕ) (call : Option ℕ → Name → name.Name) where
  pub wire_drawn : (n : ℕ) (nm : Option name.Name) (w : Wire) → 2 ≤ w.from.metal → w.from.metal ≤ 6 → Drawn (shown own call) (wire_item nm w ∷ []) (wire_line n (as_wire w) ∷ [])
  wire_drawn n nm w low high =
      one_line (shown own call) (wire_item nm w) (wire_line n (as_wire w))
      (wire_wiring (is_level w.from.metal) w.from.metal _ _ _ _ _ _ nm)
      (λ k. wire_shape (is_level w.from.metal) w.from.metal w.from.column w.from.row w.steps k nm (layer_is w.from.metal low high))

  pub via_drawn : (n : ℕ) (nm : Option name.Name) (v : Node) → 1 ≤ v.metal → v.metal ≤ 5 → Drawn (shown own call) (via_item nm v ∷ []) (via_line n (as_node v) ∷ [])
  via_drawn n nm v low high =
      one_line (shown own call) (via_item nm v) (via_line n (as_node v)) tt
      (λ k. ap (λ o. pads k o (column_x v.column)) (contact_is v.metal low high) ∙ ap (λ x. pads k (Some v.metal) x) (column_same v.column))
    where
      pads : ℕ → Option ℕ → ℤ → List shape.Shape
      pads k o x = pad_shapes k (pads_on o (rect.square x (row_y v.row) (pos 200)))

  pub net_drawn : (n : ℕ) (nm : Option name.Name) (w : NetWiring) → ((one : Wire) → In one w.wires → (2 ≤ one.from.metal) × (one.from.metal ≤ 6)) → ((v : Node) → In v w.vias → (1 ≤ v.metal) × (v.metal ≤ 5))
      → Drawn (shown own call) (net_items nm w) (map (wire_line n) (map as_wire w.wires) ++ map (via_line n) (map as_node w.vias))
  net_drawn n nm w fw fv =
      subst (λ ts. Drawn (shown own call) (net_items nm w) (ts ++ map (via_line n) (map as_node w.vias))) (sym (map_twice as_wire (wire_line n) w.wires))
      (subst (λ ts. Drawn (shown own call) (net_items nm w) (map (λ one. wire_line n (as_wire one)) w.wires ++ ts)) (sym (map_twice as_node (via_line n) w.vias))
      (Drawn_append (shown own call) _ _ _ _
      (each_drawn (shown own call) (wire_item nm) (λ one. wire_line n (as_wire one)) w.wires (λ one h. let f = fw one h in wire_drawn n nm one f.0 f.1))
      (each_drawn (shown own call) (via_item nm) (λ v. via_line n (as_node v)) w.vias (λ v h. let f = fv v h in via_drawn n nm v f.0 f.1))))

  -- ---- supplies
  -- a wire of a strap
  pub strap_drawn : (net : Net) (c a b : ℕ) (x y1 y2 : ℤ) (nm : Option name.Name) → x ≡ at_x c → y1 ≡ pos a → y2 ≡ pos b → a ≤ b
      → Drawn (shown own call) (upright_wire (Alu Three) (pos 200) x y1 y2 nm ∷ []) (record { net = net; line = Segment 3 200 true (at_x c) (pos a) (at_x c) (pos b) None } ∷ [])
  strap_drawn net c a b x y1 y2 nm ex ey et le =
      one_line (shown own call) (upright_wire (Alu Three) (pos 200) x y1 y2 nm) _ refl
      (λ k. ap (λ v. unnamed_shape 3 k v ∷ []) (rect_same _ _ _ _ _ _ _ _
      (let a = min_low x x (omega (arith, ints)) in omega (arith, ints)) (let a = min_low y1 y2 (omega (arith, ints)) in omega (arith, ints))
      (let a = max_high x x (omega (arith, ints)) in omega (arith, ints)) (let a = max_high y1 y2 (omega (arith, ints)) in omega (arith, ints))))

  pub low_via_at : (net : Net) (c a : ℕ) (x y : ℤ) (nm : Option name.Name) → x ≡ at_x c → y ≡ pos a
      → Drawn (shown own call) (contact_at Via1 x y nm ∷ []) (record { net = net; line = Via 1 (at_x c) (pos a) } ∷ [])
  low_via_at net c a x y nm ex ey = one_line (shown own call) (contact_at Via1 x y nm) _ tt (λ k. ap (λ v. item_shapes k (contact_at Via1 v y nm)) ex ∙ ap (λ v. item_shapes k (contact_at Via1 (at_x c) v nm)) ey)

  pub high_via_at : (net : Net) (c a : ℕ) (x y : ℤ) (nm : Option name.Name) → x ≡ at_x c → y ≡ pos a
      → Drawn (shown own call) (contact_at Via2 x y nm ∷ []) (record { net = net; line = Via 2 (at_x c) (pos a) } ∷ [])
  high_via_at net c a x y nm ex ey = one_line (shown own call) (contact_at Via2 x y nm) _ tt (λ k. ap (λ v. item_shapes k (contact_at Via2 v y nm)) ex ∙ ap (λ v. item_shapes k (contact_at Via2 (at_x c) v nm)) ey)
