-- A pin with an access node somewhere has one among the points of its cell's box.
use Rattle.std.proofs.Common.{◌≡◌, ℕ, zero, suc, ◌+◌, ◌*◌, ◌<◌, ◌⊎◌, inl, inr, Bool, true, false, ◌&&◌, List, [], ◌∷◌, map, length, Some, None, nat_eq, refl, sym, ap, subst, ◌∙◌, arith, if◌then◌else◌}
use Rattle.std.specs.Prelude.{ℤ, pos, negsuc, ◌*ℤ◌, ◌-ℤ◌, ◌≤ℤ◌, flat_map, filter_map}
use Rattle.std.proofs.lemmas.Int.{ints}
use Rattle.vlsi_base.specs.declared.name.Name.{Name}
use Rattle.vlsi_base.specs.Member.{In, here, there}
use Rattle.sym_geom.specs.declared.grid.TheConstants.{PITCH, PAD_WIDTH, RAIL_OVERHANG}
use Rattle.sym_geom.specs.Rect.{square}
use Rattle.sym_shapes.specs.Shape.{Shape, drawn}
use Rattle.sym_shapes.proofs.Tests.{both, within_so, number_so, list_any_In}
use Rattle.cell_model.specs.Cell.{Cell, cell_width, cell_height}
use Rattle.cell_model.specs.Access.{Point, count_to, grid_lines, grid_points, holds, is_named, from_corner, is_access_node, access_nodes}
use Rattle.cell_model.proofs.Members.{In-left, In-right, In-map}
use Rattle.cell_checks.specs.Checks.{HasColumns, HasAccessNode}
use Rattle.cell_checks.proofs.Layouts.{node_test}
use Rattle.net_drawing.proofs.Coding.{columns_of}

-- ---- lists

some_there : {A : Type 0} (x : A) (xs : List A) → In x xs → 0 < length xs
some_there x (y ∷ xs) h = omega arith
some_there x [] h = elim h [ ]

counted : (n a : ℕ) → a < n → In a (count_to n)
counted zero a low = absurd (omega (arith, low))
counted (suc n) a low = elim (last n a low) [
  | inl less ↦ In-left a (count_to n) (n ∷ []) (counted n a less)
  | inr is ↦ In-right a (count_to n) (n ∷ []) (subst (λ x. In x (n ∷ [])) (sym is) here)
] where
  last : (n a : ℕ) → a < suc n → (a < n) ⊎ (a ≡ n)
  last zero zero h = inr refl
  last zero (suc a) h = absurd (omega (arith, h))
  last (suc n) zero h = inl (omega arith)
  last (suc n) (suc a) h = elim (last n a (omega (arith, h))) [ inl less ↦ inl (omega (arith, less)) | inr is ↦ inr (ap suc is) ]

flat_there : {A B : Type 0} (f : A → List B) (xs : List A) (x : A) (y : B) → In x xs → In y (f x) → In y (flat_map f xs)
flat_there f [] x y h g = elim h [ ]
flat_there f (z ∷ xs) x y here g = In-left y (f z) (flat_map f xs) g
flat_there f (z ∷ xs) x y (there h) g = In-right y (f z) (flat_map f xs) (flat_there f xs x y h g)

kept_there : (test : Point → Bool) (xs : List Point) (q : Point) → In q xs → test q ≡ true → In q (filter_map (λ p. if test p then Some p else None) xs)
kept_there test [] q h e = elim h [ ]
kept_there test (x ∷ xs) q here e = rw e here
kept_there test (x ∷ xs) q (there h) e = by (test x) refl (kept_there test xs q h e) where
  by : (b : Bool) → test x ≡ b → In q (filter_map (λ p. if test p then Some p else None) xs) → In q (filter_map (λ p. if test p then Some p else None) (x ∷ xs))
  by true f rest = rw f (there rest)
  by false f rest = rw f rest

-- ---- the point

natural_of : (z : ℤ) → pos 0 ≤ℤ z → (a : ℕ) × (z ≡ pos a)
natural_of (pos a) h = (a, refl)
natural_of (negsuc a) h = absurd (omega (arith, ints))

multiple : (a : ℕ) → pos PITCH *ℤ pos a ≡ pos (PITCH * a)
multiple a = omega (arith, ints)

-- the edges of each shape on metal 1 lie within the box, but for an overhang at its sides
pub record IsBounded (c : Cell) (columns : ℕ) (s : Shape) : Type 0 where
  pub left : (pos 0 -ℤ pos RAIL_OVERHANG) ≤ℤ s.rect.x1
  pub right : s.rect.x2 ≤ℤ pos (PITCH * columns + RAIL_OVERHANG)
  pub low : pos 0 ≤ℤ s.rect.y1
  pub high : s.rect.y2 ≤ℤ pos 5000

module _ (c : Cell) (columns : ℕ) (box : HasColumns c columns) (bounded : (s : Shape) → In s (drawn c.items) → s.metal ≡ 1 → IsBounded c columns s) where
  -- where a node lies
  record Lies (name : Name) (x y : ℤ) : Type 0 where
    across : ℕ
    upwards : ℕ
    x_is : x ≡ pos across
    y_is : y ≡ pos upwards
    most_x : across < columns + 1
    most_y : upwards < 11

  lies : (name : Name) (x y : ℤ) → is_access_node c name (pos PITCH *ℤ x, pos PITCH *ℤ y) ≡ true → Lies name x y
  lies name x y node =
      let found = list_any_In (node_test c name (pos PITCH *ℤ x, pos PITCH *ℤ y)) (drawn c.items) node in
      let s = found.0 in
      let u = both (nat_eq s.metal 1 && is_named name s.name) (holds (from_corner c s.rect) (square (pos PITCH *ℤ x) (pos PITCH *ℤ y) (pos PAD_WIDTH))) found.2 in
      let v = both (nat_eq s.metal 1) (is_named name s.name) u.0 in
      let w = within_so (square (pos PITCH *ℤ x) (pos PITCH *ℤ y) (pos PAD_WIDTH)) (from_corner c s.rect) u.1 in
      let b = bounded s found.1 (number_so s.metal 1 v.0) in
      let wl = w.left in let wr = w.right in let wd = w.low in let wh = w.high in
      let bl = b.left in let br = b.right in let bd = b.low in let bh = b.high in
      let ex = box.left in let ey = box.low in
      let px : pos 0 ≤ℤ x = omega (arith, ints) in
      let py : pos 0 ≤ℤ y = omega (arith, ints) in
      let a = natural_of x px in
      let d = natural_of y py in
      let ea = a.1 in let ed = d.1 in
      record {
        across = a.0;
        upwards = d.0;
        x_is = a.1;
        y_is = d.1;
        most_x = omega (arith, ints);
        most_y = omega (arith, ints);
      }

  wide : grid_lines (cell_width c) ≡ columns + 1
  wide =
      let ex = box.left in let er = box.right in
      let is : cell_width c ≡ pos (PITCH * columns) = omega (arith, ints) in
      ap grid_lines is ∙ ap (λ (k : ℕ). k + 1) (columns_of columns)

  tall : grid_lines (cell_height c) ≡ 11
  tall =
      let ey = box.low in let eh = box.high in
      let is : cell_height c ≡ pos 5000 = omega (arith, ints) in
      ap grid_lines is

  in_grid : (a b : ℕ) → a < columns + 1 → b < 11 → In (pos (PITCH * a), pos (PITCH * b)) (grid_points c)
  in_grid a b low_a low_b =
      let wa : a < grid_lines (cell_width c) = subst (λ (k : ℕ). a < k) (sym wide) low_a in
      let wb : b < grid_lines (cell_height c) = subst (λ (k : ℕ). b < k) (sym tall) low_b in
      flat_there (λ x. map (λ y. (pos (PITCH * x), pos (PITCH * y))) (count_to (grid_lines (cell_height c)))) (count_to (grid_lines (cell_width c))) a
      (pos (PITCH * a), pos (PITCH * b)) (counted (grid_lines (cell_width c)) a wa)
      (In-map (λ (y : ℕ). (pos (PITCH * a), pos (PITCH * y))) b (count_to (grid_lines (cell_height c))) (counted (grid_lines (cell_height c)) b wb))

  pub has_node : (name : Name) → HasAccessNode c name → 0 < length (access_nodes c name)
  has_node name h =
      let r = lies name h.column h.row h.node in
      let px : pos PITCH *ℤ h.column ≡ pos (PITCH * r.across) = ap (λ (z : ℤ). pos PITCH *ℤ z) r.x_is ∙ multiple r.across in
      let py : pos PITCH *ℤ h.row ≡ pos (PITCH * r.upwards) = ap (λ (z : ℤ). pos PITCH *ℤ z) r.y_is ∙ multiple r.upwards in
      let node : is_access_node c name (pos (PITCH * r.across), pos (PITCH * r.upwards)) ≡ true =
      subst (λ (z : ℤ). is_access_node c name (pos (PITCH * r.across), z) ≡ true) py
      (subst (λ (z : ℤ). is_access_node c name (z, pos PITCH *ℤ h.row) ≡ true) px h.node) in
      some_there (pos (PITCH * r.across), pos (PITCH * r.upwards)) (access_nodes c name)
      (kept_there (is_access_node c name) (grid_points c) (pos (PITCH * r.across), pos (PITCH * r.upwards)) (in_grid r.across r.upwards r.most_x r.most_y) node)
