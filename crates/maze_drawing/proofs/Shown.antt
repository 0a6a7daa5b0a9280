-- The lines of the drawing show the block by numbers.
use Rattle.std.proofs.Common.{◌≡◌, ℕ, suc, ◌+◌, ◌-◌, ◌*◌, ◌≤◌, Bool, true, false, not, List, [], ◌∷◌, ◌++◌, map, length, Option, Some, refl, sym, ap, ◌∙◌, subst, arith}
use Rattle.std.specs.Prelude.{ℤ, pos, neg_ℤ, ◌+ℤ◌, ◌-ℤ◌, slice_get}
use Rattle.std.proofs.lemmas.Int.{ints}
use Rattle.std.proofs.lemmas.List.{map-append}
use Rattle.vlsi_base.specs.declared.name.Name as name
use Rattle.vlsi_base.specs.Names.{vdd, vss}
use Rattle.machine_core.specs.Machine.{names_of}
use Rattle.sym_geom.specs.Rect as rect
use Rattle.sym_geom.specs.Rect.{moved}
use Rattle.sym_geom.specs.declared.rect.Rect.{Rect}
use Rattle.sym_geom.specs.declared.layer.Layer.TheVariants.{Alu}
use Rattle.sym_geom.specs.declared.layer.Level.TheVariants.{One, Three}
use Rattle.sym_geom.specs.declared.item.Instance.{Instance}
use Rattle.sym_geom.specs.declared.item.Item.{Item}
use Rattle.sym_geom.specs.declared.item.Item.TheVariants as item
use Rattle.sym_geom.specs.declared.item.Direction.TheVariants as direction
use Rattle.vlsi_base.specs.Member as member
use Rattle.sym_shapes.specs.Shape as shape
use Rattle.sym_shapes.specs.Shape.{drawn, connector_names}
use Rattle.cell_model.specs.Cell.{pin_ports}
use Rattle.cell_model.specs.Library.{Library, cell_of}
use Rattle.cell_model.specs.Layout.{instance_shapes, all_instances_show, placed}
use Rattle.net_meaning.specs.Netlist.{Member, AbstractNetlist}
use Rattle.ocp_rows.specs.Placement.{Placement, north_port, turn_of, vss_centre, vdd_centre, centres, rails, strap, strap_vias, last_of, supplies_to, grid_ports, column_x, row_y, port_row, port_column, block_columns, block_width}
use Rattle.block_geom.specs.Figure.{Supply, Vss, Vdd, Shape, Blank, up_to}
use Rattle.block_geom.specs.Figure as figure
use Rattle.block_geom.specs.Block as block
use Rattle.block_geom.specs.Block.{Cell, Block, Tagged, PowerNet, Signal, at_x, supply_at, is_vdd, flip_of, strip_y, rail_y, in_block, cell_shapes}
use Rattle.block_geom.specs.Tracks.{strap_column}
use Rattle.net_drawing.specs.Picture.{option_map, shown}
use Rattle.net_drawing.specs.Drawing.{Numbering}
use Rattle.net_drawing.proofs.Coding.{name_or, code, coded, decode, name_back}
use Rattle.net_drawing.proofs.Cells.{all_plain}
use Rattle.net_drawing.proofs.Pieces.{Same, ended, next, Drawn, nothing, Drawn_append, up_to_first, rail_wire}
use Rattle.net_drawing.proofs.Numbers.{own, call}
use Rattle.maze_geom.specs.Maze.{maze_port, rail_line_at, rail_vias, strap_lines, row_supplies}
use Rattle.maze_geom.proofs.Maze.{rail_order}
use Rattle.grid_core.specs.Routes.{NetRoutes}
use Rattle.maze_drawing.specs.Wiring.{Wiring}
use Rattle.maze_drawing.specs.Law.{IsRouted}
use Rattle.net_drawing.proofs.Block.{own_is, pins_are, cell_is}
use Rattle.maze_drawing.proofs.Rows.{member_of, next_flip}
use Rattle.maze_drawing.proofs.Stands.{put_of, block_at, site_of, column_is, row_is, width_of_block, columns_are}
use Rattle.maze_drawing.proofs.Nodes.{routes_of, map_twice, strap_drawn, low_via_at, high_via_at}

list_same : {A B : Type 0} (f g : A → B) (xs : List A) → ((x : A) → member.In x xs → f x ≡ g x) → map f xs ≡ map g xs
list_same f g [] e = refl
list_same f g (x ∷ xs) e = ap (λ v. v ∷ map f xs) (e x member.here) ∙ ap (λ v. g x ∷ v) (list_same f g xs (λ y h. e y (member.there h)))

-- ---- supplies
abbrev centre_of : Supply → Bool → ℤ → ℤ
centre_of Vss = vss_centre
centre_of Vdd = vdd_centre

centre_by : (u s : Supply) (j : ℕ) → centre_of u (is_vdd s) (pos (5000 * j)) ≡ pos (strip_y s u j)
centre_by Vss Vss j = refl
centre_by Vss Vdd j = refl
centre_by Vdd Vss j = refl
centre_by Vdd Vdd j = refl

centre_is : (u : Supply) (j : ℕ) (f : Bool) (y : ℤ) → f ≡ flip_of j → y ≡ pos (5000 * j) → centre_of u f y ≡ pos (rail_y j u)
centre_is u j f y ef ey = ap (λ v. centre_of u v y) ef ∙ ap (centre_of u (flip_of j)) ey ∙ centre_by u (supply_at j) j

last_is : (u : Supply) (rows : List (List Member)) (j : ℕ) (f : Bool) (y : ℤ) → f ≡ flip_of j → y ≡ pos (5000 * j)
    → last_of (centre_of u f y) (centres (centre_of u) (not f) (y +ℤ pos 5000) rows) ≡ pos (rail_y (j + length rows) u)
last_is u [] j f y ef ey = let a : j ≡ j + 0 = omega arith in centre_is u j f y ef ey ∙ ap (λ v. pos (rail_y v u)) a
last_is u (row ∷ rows) j f y ef ey =
    let a : suc j + length rows ≡ j + suc (length rows) = omega arith in
    last_is u rows (suc j) (not f) (y +ℤ pos 5000) (ap not ef ∙ next_flip j) (omega (arith, ints)) ∙ ap (λ v. pos (rail_y v u)) a

abbrev supply_name : Supply → name.Name
supply_name Vss = vss
supply_name Vdd = vdd

abbrev strap_x : Supply → ℤ
strap_x u = at_x (strap_column u)

module _ (own : ℕ → List ℕ) (call : Option ℕ → figure.Name → name.Name) (b : Block) where
  rails_drawn : (e : ℕ) (end : ℤ) → end ≡ pos (1500 + 500 * b.columns) → (rows : List (List Member)) (j : ℕ) (f : Bool) (y : ℤ) → f ≡ flip_of j → y ≡ pos (5000 * j)
      → (g : ℕ → ℕ) → ((i : ℕ) → g i ≡ j + i)
      → Drawn (shown own call) (rails end f y rows) (up_to (length rows) (λ i. rail_line_at b (g i) Vss ∷ (rail_line_at b (g i) Vdd ∷ [])))
  rails_drawn e end ee [] j f y ef ey g eg = nothing (shown own call)
  rails_drawn e end ee (row ∷ rows) j f y ef ey g eg =
      let z : j ≡ g 0 = let a = eg 0 in omega arith in
      let s = shown own call in
      let lines : ℕ → List Tagged = λ i. rail_line_at b (g i) Vss ∷ (rail_line_at b (g i) Vdd ∷ []) in
      subst (λ ts. Drawn (shown own call) (rails end f y (row ∷ rows)) ts) (sym (up_to_first (length rows) lines))
      (Drawn_append s _ _ _ _ (one Vss z) (Drawn_append s _ _ _ _ (one Vdd z)
      (rails_drawn e end ee rows (suc j) (not f) (y +ℤ pos 5000) (ap not ef ∙ next_flip j) (omega (arith, ints)) (λ i. g (suc i)) (λ i. let a = eg (suc i) in omega arith))))
    where
      rail_item : Supply → ℤ → Item
      rail_item u c = item.Segment (record { x1 = pos 500; y1 = c; x2 = end; y2 = c; width = pos 600; name = Some (supply_name u); direction = direction.Right; layer = Alu One })

      one : (u : Supply) → j ≡ g 0 → Drawn (shown own call) (rail_item u (centre_of u f y) ∷ []) (rail_line_at b (g 0) u ∷ [])
      one u z =
          subst (λ v. Drawn (shown own call) (rail_item u (centre_of u f y) ∷ []) (rail_line_at b v u ∷ [])) z
          (subst (λ v. Drawn (shown own call) (rail_item u v ∷ []) (rail_line_at b j u ∷ [])) (sym (centre_is u j f y ef ey))
          (rail_wire own call (PowerNet u) (1500 + 500 * b.columns) (rail_y j u) end (Some (supply_name u)) ee (omega arith)))

  vias_drawn : (u : Supply) (x : ℤ) (nm : name.Name) → x ≡ strap_x u → (rows : List (List Member)) (j : ℕ) (f : Bool) (y : ℤ) → f ≡ flip_of j → y ≡ pos (5000 * j)
      → (g : ℕ → ℕ) → ((i : ℕ) → g i ≡ j + i)
      → Drawn (shown own call) (strap_vias x nm (centres (centre_of u) f y rows)) (up_to (length rows) (λ i. rail_vias u (g i)))
  vias_drawn u x nm ex [] j f y ef ey g eg = nothing (shown own call)
  vias_drawn u x nm ex (row ∷ rows) j f y ef ey g eg =
      let z : j ≡ g 0 = let a = eg 0 in omega arith in
      let c = centre_is u j f y ef ey ∙ ap (λ v. pos (rail_y v u)) z in
      let s = shown own call in
      subst (λ ts. Drawn (shown own call) (strap_vias x nm (centres (centre_of u) f y (row ∷ rows))) ts) (sym (up_to_first (length rows) (λ i. rail_vias u (g i))))
      (Drawn_append s _ _ _ _ (low_via_at own call (PowerNet u) (strap_column u) (rail_y (g 0) u) x (centre_of u f y) (Some nm) ex c)
      (Drawn_append s _ _ _ _ (high_via_at own call (PowerNet u) (strap_column u) (rail_y (g 0) u) x (centre_of u f y) (Some nm) ex c)
      (vias_drawn u x nm ex rows (suc j) (not f) (y +ℤ pos 5000) (ap not ef ∙ next_flip j) (omega (arith, ints)) (λ i. g (suc i)) (λ i. let a = eg (suc i) in omega arith))))

  strap_lines_drawn : (u : Supply) (x : ℤ) (nm : name.Name) → x ≡ strap_x u → (rows : List (List Member)) → 1 ≤ length rows → length rows ≡ b.rows
      → Drawn (shown own call) (strap x nm (centres (centre_of u) false (pos 0) rows)) (strap_lines b u)
  strap_lines_drawn u x nm ex [] le er = absurd (omega arith)
  strap_lines_drawn u x nm ex (row ∷ rows) le er =
      let a : 0 + length rows ≡ b.rows - 1 = omega arith in
      let s = shown own call in
      Drawn_append s _ _ _ _
      (strap_drawn own call (PowerNet u) (strap_column u) (rail_y 0 u) (rail_y (b.rows - 1) u) x (centre_of u false (pos 0)) _ (Some nm) ex (centre_is u 0 false (pos 0) refl refl)
      (last_is u rows 0 false (pos 0) refl refl ∙ ap (λ v. pos (rail_y v u)) a) (rail_order 0 (b.rows - 1) u (omega arith)))
      (subst (λ v. Drawn (shown own call) (strap_vias x nm (centres (centre_of u) false (pos 0) (row ∷ rows))) (up_to v (rail_vias u))) er
      (vias_drawn u x nm ex (row ∷ rows) 0 false (pos 0) refl refl (λ i. i) (λ i. omega arith)))

  pub supplies_drawn : (end : ℤ) → end ≡ pos (1500 + 500 * b.columns) → (rows : List (List Member)) → 1 ≤ length rows → length rows ≡ b.rows
      → Drawn (shown own call) (supplies_to end rows) (row_supplies b)
  supplies_drawn end ee rows le er =
      let s = shown own call in
      Drawn_append s _ _ _ _
      (subst (λ v. Drawn (shown own call) (rails end false (pos 0) rows) (up_to v (λ j. rail_line_at b j Vss ∷ (rail_line_at b j Vdd ∷ [])))) er
      (rails_drawn 0 end ee rows 0 false (pos 0) refl refl (λ i. i) (λ i. omega arith)))
      (Drawn_append s _ _ _ _ (strap_lines_drawn Vss (pos 500) vss refl rows le er) (strap_lines_drawn Vdd (pos 1000) vdd refl rows le er))

-- ---- instances
show_each : (g : Shape → shape.Shape) (l : Library) (is : List Instance) (f : ℕ → List Shape)
    → ((i : ℕ) (one : Instance) → slice_get is i ≡ Some one → instance_shapes (cell_of l one.model) one ≡ map g (f i))
    → all_instances_show l is ≡ map g (up_to (length is) f)
show_each g l [] f e = refl
show_each g l (one ∷ rest) f e =
    ap (λ v. v ++ all_instances_show l rest) (e 0 one refl)
    ∙ ap (λ v. map g (f 0) ++ v) (show_each g l rest (λ i. f (suc i)) (λ i y h. e (suc i) y h))
    ∙ sym (map-append g (f 0) (up_to (length rest) (λ i. f (suc i))))
    ∙ ap (map g) (sym (up_to_first (length rest) f))

rect_same : (a b c d w x y z : ℤ) → a ≡ w → b ≡ x → c ≡ y → d ≡ z → (λ (r : Rect). r) (record { x1 = a; y1 = b; x2 = c; y2 = d }) ≡ record { x1 = w; y1 = x; x2 = y; y2 = z }
rect_same a b c d w x y z p q r s =
    ap (λ v. record { x1 = v; y1 = b; x2 = c; y2 = d }) p ∙ ap (λ v. record { x1 = w; y1 = v; x2 = c; y2 = d }) q
    ∙ ap (λ v. record { x1 = w; y1 = x; x2 = v; y2 = d }) r ∙ ap (λ v. record { x1 = w; y1 = x; x2 = y; y2 = v }) s

-- a shape of a cell, turned and placed
turned_rect : (v : Bool) (r : Rect) (c j : ℕ) (w : ℤ)
    → moved (rect.turned (turn_of v) (moved r (pos 0) (pos 0)) w (pos 5000 -ℤ pos 0)) (at_x c) (pos (5000 * j)) ≡ moved (figure.turned v r) (at_x c) (pos (5000 * j))
turned_rect true r c j w = rect_same _ _ _ _ _ _ _ _ (omega (arith, ints)) (omega (arith, ints)) (omega (arith, ints)) (omega (arith, ints))
turned_rect false r c j w = rect_same _ _ _ _ _ _ _ _ (omega (arith, ints)) (omega (arith, ints)) (omega (arith, ints)) (omega (arith, ints))

placed_rect : (r b : Rect) (one : Instance) (v : Bool) (c j w : ℕ) → b ≡ record { x1 = pos 0; y1 = pos 0; x2 = pos (500 * w); y2 = pos 5000 }
    → one.x ≡ at_x c → one.y ≡ pos (5000 * j) → one.transform ≡ turn_of v
    → moved (rect.turned one.transform (moved r (neg_ℤ b.x1) (neg_ℤ b.y1)) (b.x2 -ℤ b.x1) (b.y2 -ℤ b.y1)) one.x one.y ≡ moved (figure.turned v r) (at_x c) (pos (5000 * j))
placed_rect r b one v c j w e ex ey et =
    ap (λ (u : Rect). moved (rect.turned one.transform (moved r (neg_ℤ u.x1) (neg_ℤ u.y1)) (u.x2 -ℤ u.x1) (u.y2 -ℤ u.y1)) one.x one.y) e
    ∙ ap (λ u. moved (rect.turned one.transform (moved r (pos 0) (pos 0)) (pos (500 * w) -ℤ pos 0) (pos 5000 -ℤ pos 0)) u one.y) ex
    ∙ ap (λ u. moved (rect.turned one.transform (moved r (pos 0) (pos 0)) (pos (500 * w) -ℤ pos 0) (pos 5000 -ℤ pos 0)) (at_x c) u) ey
    ∙ ap (λ u. moved (rect.turned u (moved r (pos 0) (pos 0)) (pos (500 * w) -ℤ pos 0) (pos 5000 -ℤ pos 0)) (at_x c) (pos (5000 * j))) et
    ∙ turned_rect v r c j (pos (500 * w) -ℤ pos 0)

module _ (n : AbstractNetlist) (l : Library) (net : Numbering) (p : Placement) (instances : List Instance) (metals : ℕ) (routes : NetRoutes) (w : Wiring) (ok : IsRouted n l net p instances metals routes w) where
  instance_same : (i : ℕ) (one : Instance) → slice_get instances i ≡ Some one
      → instance_shapes (cell_of l one.model) one
      ≡ map (shown (own n) (call n l p.ports)) (map (in_block (block_at n l net p instances) i) (cell_shapes ((block_at n l net p instances).cell i)))
  instance_same i one e =
      let s = site_of n l net p instances metals routes w ok i one e in
      let m = s.model in
      let put = put_of l p instances in
      let xs = names_of (pin_ports m.cell) in
      let column = column_is n l net p instances metals routes w ok i one s in
      let row = row_is n l net p instances metals routes w ok i one s in
      let turn = s.spot.turned ∙ ap (λ v. turn_of (flip_of v)) (sym row) in
      let x = s.spot.x ∙ ap at_x (sym column) in
      let y = s.spot.y_is ∙ ap (λ v. pos (5000 * v)) (sym row) in
      let b = block_at n l net p instances in
      ap (λ o. instance_shapes o one) m.found
      ∙ list_same (placed m.cell one) (λ t. shown (own n) (call n l p.ports) (in_block b i (coded xs t))) (drawn m.cell.items) (λ t h.
      ap (λ r. record t { owner = Some one.name; rect = r }) (placed_rect t.rect m.cell.bounds one (flip_of (b.row i)) (b.column i) (b.row i) m.clean.columns m.clean.box x y turn)
      ∙ ap (λ o. record { metal = t.metal; rect = moved (figure.turned (flip_of (b.row i)) t.rect) (at_x (b.column i)) (pos (5000 * b.row i)); owner = Some o; line = t.line; name = t.name }) (sym (own_is n l net p.ports put ok.nets i (member_of one) s.listed))
      ∙ ap (λ o. record { metal = t.metal; rect = moved (figure.turned (flip_of (b.row i)) t.rect) (at_x (b.column i)) (pos (5000 * b.row i)); owner = Some (own n i); line = t.line; name = o })
      (sym (name_back xs t.name (all_plain m.cell m.usable t h).1) ∙ ap (λ v. option_map (decode v) (option_map (code xs) t.name)) (sym (pins_are n l net p.ports put ok.nets i (member_of one) m s.listed))))
      ∙ sym (map_twice (coded xs) (λ t. shown (own n) (call n l p.ports) (in_block b i t)) (drawn m.cell.items))
      ∙ sym (map_twice (in_block b i) (shown (own n) (call n l p.ports)) (map (coded xs) (drawn m.cell.items)))
      ∙ ap (λ (c : Cell). map (shown (own n) (call n l p.ports)) (map (in_block b i) (cell_shapes c))) (sym (cell_is n l net p.ports put ok.nets i (member_of one) m s.listed))

  pub instances_same : length instances ≡ length n.instances → all_instances_show l instances ≡ map (shown (own n) (call n l p.ports)) (block.instance_shapes (block_at n l net p instances))
  instances_same e =
      show_each (shown (own n) (call n l p.ports)) l instances (λ i. map (in_block (block_at n l net p instances) i) (cell_shapes ((block_at n l net p instances).cell i))) instance_same
      ∙ ap (λ k. map (shown (own n) (call n l p.ports)) (up_to k (λ i. map (in_block (block_at n l net p instances) i) (cell_shapes ((block_at n l net p instances).cell i))))) e

  -- ---- ports and instances as lines
  pub ports_same : (k : ℕ) (names : List name.Name) (f : ℕ → ℕ) → ((j : ℕ) (m : name.Name) → slice_get names j ≡ Some m → (f j ≡ k + j) × (name_or (slice_get p.ports (f j)) ≡ m))
      → Same (shown (own n) (call n l p.ports)) (grid_ports (port_column (length p.ports) (block_columns l p)) (length p.rows) k names)
      (up_to (length names) (λ j. maze_port (block_at n l net p instances) (routes_of l p routes w) (f j) ∷ []))
  ports_same k [] f e = ended
  ports_same k (m ∷ ms) f e =
      let a = e 0 m refl in
      let at : ℕ → ℕ = port_column (length p.ports) (block_columns l p) in
      let q : k ≡ f 0 = let z : f 0 ≡ k + 0 = a.0 in omega arith in
      let x : column_x (at k) ≡ at_x (3 + at (f 0)) = column_same (at k) ∙ ap (λ v. at_x (3 + at v)) q in
      subst (λ v. Same (shown (own n) (call n l p.ports)) (grid_ports (port_column (length p.ports) (block_columns l p)) (length p.rows) k (m ∷ ms)) v)
      (sym (up_to_first (length ms) (λ j. maze_port (block_at n l net p instances) (routes_of l p routes w) (f j) ∷ [])))
      (next (λ i. ap (λ v. shape.item_shapes i (north_port (Alu Three) (pos 200) v (row_y (port_row (length p.rows))) m)) x
      ∙ ap (λ v. shape.item_shapes i (north_port (Alu Three) (pos 200) (at_x (3 + at (f 0))) (row_y (port_row (length p.rows))) v)) (sym a.1))
      (ports_same (suc k) ms (λ j. f (suc j)) (λ j t h. let r = e (suc j) t h in (omega arith, r.1))))
    where
      column_same : (c : ℕ) → column_x c ≡ at_x (3 + c)
      column_same c = omega (arith, ints)

  pub blanks_same : (is : List Instance) → Same (shown (own n) (call n l p.ports)) (map item.Instance is) (up_to (length is) (λ i. record { net = PowerNet Vss; line = Blank } ∷ []))
  blanks_same [] = ended
  blanks_same (one ∷ rest) =
      subst (λ v. Same (shown (own n) (call n l p.ports)) (map item.Instance (one ∷ rest)) v) (sym (up_to_first (length rest) (λ i. record { net = PowerNet Vss; line = Blank } ∷ [])))
      (next (λ k. refl) (blanks_same rest))

  pub end_is : pos 1500 +ℤ block_width l p ≡ pos (1500 + 500 * (block_at n l net p instances).columns)
  end_is =
      let a = width_of_block n l net p instances metals routes w ok in
      let b = columns_are n l net p instances metals routes w ok in
      omega (arith, ints)
