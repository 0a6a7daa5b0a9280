-- The lines of the drawing show the block by numbers.
use Rattle.std.proofs.Common.{◌≡◌, ℕ, suc, ◌+◌, ◌*◌, List, [], ◌∷◌, ◌++◌, map, length, Some, refl, sym, ap, ◌∙◌, subst, arith, append_assoc}
use Rattle.std.specs.Prelude.{ℤ, pos, neg_ℤ, ◌+ℤ◌, slice_get}
use Rattle.std.proofs.lemmas.Int.{ints, int_max_is}
use Rattle.std.proofs.lemmas.List.{map-append}
use Rattle.std.proofs.lemmas.Option.{slice_get_within}
use Rattle.vlsi_base.specs.declared.name.Name as name
use Rattle.machine_core.specs.Machine.{names_of}
use Rattle.sym_geom.specs.Rect.{moved}
use Rattle.sym_geom.specs.declared.rect.Rect.{Rect}
use Rattle.sym_geom.specs.declared.rect.Transform.TheVariants.{NoSym}
use Rattle.sym_geom.specs.declared.layer.Layer.TheVariants.{Alu}
use Rattle.sym_geom.specs.declared.layer.Level.TheVariants.{Two}
use Rattle.sym_geom.specs.declared.item.Instance.{Instance}
use Rattle.sym_geom.specs.declared.item.Item.{Item}
use Rattle.sym_geom.specs.declared.item.Item.TheVariants as item
use Rattle.vlsi_base.specs.Member as member
use Rattle.sym_shapes.specs.Shape as shape
use Rattle.sym_shapes.specs.Shape.{drawn, connector_names}
use Rattle.cell_model.specs.Cell.{pin_ports}
use Rattle.cell_model.specs.Library.{Library, cell_of}
use Rattle.cell_model.specs.Layout.{instances_of, instance_shapes, all_instances_show, placed}
use Rattle.net_meaning.specs.Netlist.{Member, AbstractNetlist}
use Rattle.vlsi_base.specs.Names.{vdd, vss}
use Rattle.ocp_rows.specs.Placement.{west_port, model_width, row_width, rows_width, standing, supplies, track_ports, track_y}
use Rattle.block_geom.specs.Figure.{Vss, Vdd, Shape, Blank, up_to}
use Rattle.block_geom.specs.Block as block
use Rattle.block_geom.specs.Block.{Cell, Block, Tagged, PowerNet, Signal, at_x, in_block, cell_shapes, pin_column, pin_row}
use Rattle.block_geom.specs.Tracks.{track, port_line, supply_lines}
use Rattle.net_drawing.specs.Picture.{option_map, shown}
use Rattle.net_drawing.specs.Drawing.{Numbering, IsDrawable}
use Rattle.net_drawing.proofs.Coding.{In_get, name_or, code, coded, decode, name_back}
use Rattle.net_drawing.proofs.Cells.{all_plain}
use Rattle.net_drawing.proofs.Pieces.{Same, ended, next, Drawn, Drawn_append, one_line, up_to_first, x_at, rail_wire}
use Rattle.net_drawing.proofs.Numbers.{column_at, all_columns, own, call, IsModel, wide_is, x_is}
use Rattle.net_drawing.proofs.Block.{model_of, cell_is, pins_are, own_is}
use Rattle.net_drawing.proofs.Row.{row_places, block_of}

-- ---- instances
list_same : {A B : Type 0} (f g : A → B) (xs : List A) → ((x : A) → member.In x xs → f x ≡ g x) → map f xs ≡ map g xs
list_same f g [] e = refl
list_same f g (x ∷ xs) e = ap (λ v. v ∷ map f xs) (e x member.here) ∙ ap (λ v. g x ∷ v) (list_same f g xs (λ y h. e y (member.there h)))

map_twice : {A B C : Type 0} (f : A → B) (g : B → C) (xs : List A) → map g (map f xs) ≡ map (λ x. g (f x)) xs
map_twice f g [] = refl
map_twice f g (x ∷ xs) = ap (λ v. g (f x) ∷ v) (map_twice f g xs)

show_row : (g : Shape → shape.Shape) (l : Library) (ms : List Member) (x : ℤ) (f : ℕ → List Shape)
    → ((i : ℕ) (one : Member) → slice_get ms i ≡ Some one → instance_shapes (cell_of l one.model) (record { x = x_at l x ms i; y = pos 0; model = one.model; name = one.name; transform = NoSym }) ≡ map g (f i))
    → all_instances_show l (standing l NoSym (pos 0) x ms) ≡ map g (up_to (length ms) f)
show_row g l [] x f e = refl
show_row g l (one ∷ rest) x f e =
    ap (λ v. v ++ all_instances_show l (standing l NoSym (pos 0) (x +ℤ model_width l one.model) rest)) (e 0 one refl)
    ∙ ap (λ v. map g (f 0) ++ v) (show_row g l rest (x +ℤ model_width l one.model) (λ i. f (suc i)) (λ i y h. e (suc i) y h))
    ∙ sym (map-append g (f 0) (up_to (length rest) (λ i. f (suc i))))
    ∙ ap (map g) (sym (up_to_first (length rest) f))

placed_rect : (r b : Rect) (x : ℤ) (c w : ℕ) → b ≡ record { x1 = pos 0; y1 = pos 0; x2 = pos (500 * w); y2 = pos 5000 } → x ≡ at_x c
    → moved (moved r (neg_ℤ b.x1) (neg_ℤ b.y1)) x (pos 0) ≡ moved r (at_x c) (pos 0)
placed_rect r b x c w e f =
    ap (λ (v : Rect). moved (moved r (neg_ℤ v.x1) (neg_ℤ v.y1)) x (pos 0)) e
    ∙ ap (λ v. moved (moved r (pos 0) (pos 0)) v (pos 0)) f
    ∙ ap (λ (v : Rect). moved v (at_x c) (pos 0)) (still r)
  where
    still : (r : Rect) → moved r (pos 0) (pos 0) ≡ r
    still r =
        let a : r.x1 +ℤ pos 0 ≡ r.x1 = omega (arith, ints) in let b : r.y1 +ℤ pos 0 ≡ r.y1 = omega (arith, ints) in
        let c : r.x2 +ℤ pos 0 ≡ r.x2 = omega (arith, ints) in let d : r.y2 +ℤ pos 0 ≡ r.y2 = omega (arith, ints) in
        ap (λ v. record { x1 = v; y1 = r.y1 +ℤ pos 0; x2 = r.x2 +ℤ pos 0; y2 = r.y2 +ℤ pos 0 }) a
        ∙ ap (λ v. record { x1 = r.x1; y1 = v; x2 = r.x2 +ℤ pos 0; y2 = r.y2 +ℤ pos 0 }) b
        ∙ ap (λ v. record { x1 = r.x1; y1 = r.y1; x2 = v; y2 = r.y2 +ℤ pos 0 }) c
        ∙ ap (λ v. record { x1 = r.x1; y1 = r.y1; x2 = r.x2; y2 = v }) d

pub instances_append : (a b : List Item) → instances_of (a ++ b) ≡ instances_of a ++ instances_of b
instances_append [] b = refl
instances_append (item.Segment s ∷ rest) b = instances_append rest b
instances_append (item.Connector c ∷ rest) b = instances_append rest b
instances_append (item.Via v ∷ rest) b = instances_append rest b
instances_append (item.Instance i ∷ rest) b = ap (λ v. i ∷ v) (instances_append rest b)
instances_append (item.Reference r ∷ rest) b = instances_append rest b
instances_append (item.Remark text ∷ rest) b = instances_append rest b

pub connectors_append : (a b : List Item) → connector_names (a ++ b) ≡ connector_names a ++ connector_names b
connectors_append [] b = refl
connectors_append (one ∷ rest) b =
    ap (λ v. shape.connector_name one ++ v) (connectors_append rest b) ∙ sym (append_assoc (shape.connector_name one) (connector_names rest) (connector_names b))

pub instances_back : (is : List Instance) → instances_of (map item.Instance is) ≡ is
instances_back [] = refl
instances_back (i ∷ is) = ap (λ v. i ∷ v) (instances_back is)

pub instances_quiet : (is : List Instance) → connector_names (map item.Instance is) ≡ []
instances_quiet [] = refl
instances_quiet (i ∷ is) = instances_quiet is

pub ports_still : (k : ℕ) (names : List name.Name) → instances_of (track_ports k names) ≡ []
ports_still k [] = refl
ports_still k (m ∷ ms) = ports_still (suc k) ms

pub ports_named : (k : ℕ) (names : List name.Name) → connector_names (track_ports k names) ≡ names
ports_named k [] = refl
ports_named k (m ∷ ms) = ap (λ v. m ∷ v) (ports_named (suc k) ms)

pub track_at : (k : ℕ) → track_y k ≡ at_x (track k)
track_at k = let a : 5500 + 500 * k ≡ 500 * (11 + k) = omega arith in ap (λ v. pos v) a

module _ (n : AbstractNetlist) (l : Library) (net : Numbering) (ports : List name.Name) (ok : IsDrawable n l net ports) where
  abbrev g : Shape → shape.Shape
  g = shown (own n) (call n l ports)

  instance_same : (i : ℕ) (one : Member) → slice_get n.instances i ≡ Some one
      → instance_shapes (cell_of l one.model) (record { x = x_at l (pos 1500) n.instances i; y = pos 0; model = one.model; name = one.name; transform = NoSym })
      ≡ map (shown (own n) (call n l ports)) (map (in_block (block_of n l net ports) i) (cell_shapes ((block_of n l net ports).cell i)))
  instance_same i one e =
      let m = model_of n l net ports (row_places n l net ports) ok.nets one (In_get n.instances i one e) in
      let x : Instance = record { x = x_at l (pos 1500) n.instances i; y = pos 0; model = one.model; name = one.name; transform = NoSym } in
      let b = block_of n l net ports in
      let xs = names_of (pin_ports m.cell) in
      let at = x_is l n.instances (pos 1500) 3 refl (model_of n l net ports (row_places n l net ports) ok.nets) i (slice_get_within n.instances i one e) in
      ap (λ o. instance_shapes o x) m.found
      ∙ list_same (placed m.cell x) (λ s. shown (own n) (call n l ports) (in_block b i (coded xs s))) (drawn m.cell.items) (λ s h.
      ap (λ r. record s { owner = Some one.name; rect = r }) (placed_rect s.rect m.cell.bounds (x_at l (pos 1500) n.instances i) (column_at l 3 n.instances i) m.clean.columns m.clean.box at)
      ∙ ap (λ o. record { metal = s.metal; rect = moved s.rect (at_x (column_at l 3 n.instances i)) (pos 0); owner = Some o; line = s.line; name = s.name }) (sym (own_is n l net ports (row_places n l net ports) ok.nets i one e))
      ∙ ap (λ o. record { metal = s.metal; rect = moved s.rect (at_x (column_at l 3 n.instances i)) (pos 0); owner = Some (own n i); line = s.line; name = o })
      (sym (name_back xs s.name (all_plain m.cell m.usable s h).1) ∙ ap (λ v. option_map (decode v) (option_map (code xs) s.name)) (sym (pins_are n l net ports (row_places n l net ports) ok.nets i one m e))))
      ∙ sym (map_twice (coded xs) (λ s. shown (own n) (call n l ports) (in_block b i s)) (drawn m.cell.items))
      ∙ sym (map_twice (in_block b i) (shown (own n) (call n l ports)) (map (coded xs) (drawn m.cell.items)))
      ∙ ap (λ (c : Cell). map (shown (own n) (call n l ports)) (map (in_block b i) (cell_shapes c))) (sym (cell_is n l net ports (row_places n l net ports) ok.nets i one m e))

  pub instances_same : all_instances_show l (standing l NoSym (pos 0) (pos 1500) n.instances) ≡ map (shown (own n) (call n l ports)) (block.instance_shapes (block_of n l net ports))
  instances_same = show_row (shown (own n) (call n l ports)) l n.instances (pos 1500) (λ i. map (in_block (block_of n l net ports) i) (cell_shapes ((block_of n l net ports).cell i))) instance_same

  -- ---- the lines above
  pub ports_same : (k : ℕ) (names : List name.Name) (f : ℕ → ℕ) → ((j : ℕ) (m : name.Name) → slice_get names j ≡ Some m → (f j ≡ k + j) × (name_or (slice_get ports (f j)) ≡ m))
      → Same (shown (own n) (call n l ports)) (track_ports k names) (up_to (length names) (λ j. port_line (block_of n l net ports) (f j) ∷ []))
  ports_same k [] f e = ended
  ports_same k (m ∷ ms) f e =
      let a = e 0 m refl in
      let y : track_y k ≡ at_x (track (f 0)) = let q : f 0 ≡ k + 0 = a.0 in let p : k ≡ f 0 = omega arith in track_at k ∙ ap (λ v. at_x (track v)) p in
      subst (λ v. Same (shown (own n) (call n l ports)) (track_ports k (m ∷ ms)) v) (sym (up_to_first (length ms) (λ j. port_line (block_of n l net ports) (f j) ∷ [])))
      (next (λ i. ap (λ v. shape.item_shapes i (west_port (Alu Two) (pos 200) (pos 1500) v m)) y
      ∙ ap (λ v. shape.item_shapes i (west_port (Alu Two) (pos 200) (pos 1500) (at_x (track (f 0))) v)) (sym a.1))
      (ports_same (suc k) ms (λ j. f (suc j)) (λ j p h. let r = e (suc j) p h in (omega arith, r.1))))

  pub blanks_same : (x : ℤ) (ms : List Member) → Same (shown (own n) (call n l ports)) (map item.Instance (standing l NoSym (pos 0) x ms)) (up_to (length ms) (λ i. record { net = PowerNet Vss; line = Blank } ∷ []))
  blanks_same x [] = ended
  blanks_same x (one ∷ rest) =
      subst (λ v. Same (shown (own n) (call n l ports)) (map item.Instance (standing l NoSym (pos 0) x (one ∷ rest))) v) (sym (up_to_first (length rest) (λ i. record { net = PowerNet Vss; line = Blank } ∷ [])))
      (next (λ k. refl) (blanks_same (x +ℤ model_width l one.model) rest))

  end_is : (ms : List Member) → ((one : Member) → member.In one ms → IsModel l one) → row_width l ms ≡ pos (500 * all_columns l ms)
  end_is [] all = refl
  end_is (one ∷ rest) all = let w = wide_is l one (all one member.here) in let r = end_is rest (λ y h. all y (member.there h)) in omega (arith, ints)

  row_end : pos 1500 +ℤ rows_width l (n.instances ∷ []) ≡ pos (1500 + 500 * all_columns l n.instances)
  row_end = let a = end_is n.instances (model_of n l net ports (row_places n l net ports) ok.nets) in let b = int_max_is (row_width l n.instances) (pos 0) in omega (arith, ints)

  pub supplies_drawn : Drawn (shown (own n) (call n l ports)) (supplies l (n.instances ∷ [])) (supply_lines (block_of n l net ports))
  supplies_drawn =
      let s = shown (own n) (call n l ports) in
      Drawn_append s _ _ _ _ (rail_wire (own n) (call n l ports) (PowerNet Vss) (1500 + 500 * all_columns l n.instances) 300 _ (Some vss) row_end (omega arith))
      (Drawn_append s _ _ _ _ (rail_wire (own n) (call n l ports) (PowerNet Vdd) (1500 + 500 * all_columns l n.instances) 4700 _ (Some vdd) row_end (omega arith))
      (Drawn_append s _ _ _ _ (one_line s _ _ refl (λ k. refl))
      (Drawn_append s _ _ _ _ (one_line s _ _ tt (λ k. refl))
      (Drawn_append s _ _ _ _ (one_line s _ _ tt (λ k. refl))
      (Drawn_append s _ _ _ _ (one_line s _ _ refl (λ k. refl))
      (Drawn_append s _ _ _ _ (one_line s _ _ tt (λ k. refl))
      (one_line s _ _ tt (λ k. refl))))))))
