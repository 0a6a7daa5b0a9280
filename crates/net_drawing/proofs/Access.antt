-- A pin that has an access node is reached at one.
use Rattle.std.proofs.Common.{◌≡◌, ℕ, ◌*◌, ◌<◌, ◌⊎◌, inl, inr, ⊎_elim, Bool, true, false, ◌&&◌, List, [], ◌∷◌, ◌++◌, map, length, Option, Some, None, refl, sym, ap, ◌∙◌, subst, arith, if◌then◌else◌}
use Rattle.std.specs.Prelude.{pos, ◌-ℤ◌, ◌%◌, flat_map, filter_map, nat_eq}
use Rattle.std.proofs.lemmas.Int.{ints}
use Rattle.std.proofs.Math.Nat.{mod-lt}
use Rattle.vlsi_base.specs.declared.name.Name as name
use Rattle.sym_geom.specs.Rect.{Within, square, moved}
use Rattle.sym_geom.specs.declared.rect.Rect.{Rect}
use Rattle.vlsi_base.specs.Member.{In, here, there}
use Rattle.sym_shapes.specs.Shape.{Shape, drawn}
use Rattle.cell_model.specs.Cell.{Cell, cell_width, cell_height, pin_ports}
use Rattle.cell_model.specs.Access.{Point, count_to, grid_lines, grid_points, holds, is_named, is_access_node, access_nodes, access_point, rank_of}
use Rattle.sym_shapes.proofs.Tests.{both}
use Rattle.sym_shapes.proofs.Tests.{within_so, list_any_In}
use Rattle.machine_core.specs.Machine.{names_of}
use Rattle.net_drawing.specs.Clean.{IsClean}
use Rattle.net_drawing.proofs.Coding.{In_get, get_there, same_name_true}

-- the pin is reached at this point of the grid, whose square of 200 lies within one connector rectangle of the pin
pub record HasAccess (c : Cell) (m : name.Name) : Type 0 where
  pub column : ℕ
  pub row : ℕ
  pub point : access_point c m ≡ Some (pos (500 * column), pos (500 * row))
  pub pin : Shape
  pub listed : In pin (drawn c.items)
  pub named : pin.name ≡ Some m
  pub holds : Within (square (pos (500 * column)) (pos (500 * row)) (pos 200)) pin.rect

In_cases : {A : Type 0} (xs ys : List A) (x : A) → In x (xs ++ ys) → In x xs ⊎ In x ys
In_cases [] ys x h = inr h
In_cases (y ∷ xs) ys x here = inl here
In_cases (y ∷ xs) ys x (there h) = ⊎_elim (λ g. inl (there g)) (λ g. inr g) (In_cases xs ys x h)

flat_from : {A B : Type 0} (f : A → List B) (xs : List A) (y : B) → In y (flat_map f xs) → (x : A) × In y (f x)
flat_from f [] y h = elim h [ ]
flat_from f (x ∷ xs) y h = ⊎_elim (λ g. (x, g)) (λ g. flat_from f xs y g) (In_cases (f x) (flat_map f xs) y h)

map_from : {A B : Type 0} (f : A → B) (xs : List A) (y : B) → In y (map f xs) → (x : A) × (y ≡ f x)
map_from f [] y h = elim h [ ]
map_from f (x ∷ xs) y here = (x, refl)
map_from f (x ∷ xs) y (there h) = map_from f xs y h

head_or : {A : Type 0} (m x : A) (xs : List A) → In m (x ∷ xs) → (m ≡ x) ⊎ In m xs
head_or m x xs here = inl refl
head_or m x xs (there h) = inr h

kept_step : (test : Point → Bool) (x : Point) (xs : List Point) (q : Point) → (In q (filter_map (λ p. if test p then Some p else None) xs) → In q xs × (test q ≡ true)) → (r : Bool) → test x ≡ r
    → In q (filter_map (λ p. if test p then Some p else None) (x ∷ xs)) → In q (x ∷ xs) × (test q ≡ true)
kept_step test x xs q next true e h =
    let h2 : In q (x ∷ filter_map (λ p. if test p then Some p else None) xs) = rw e at h in
    ⊎_elim (λ f. (subst (λ v. In v (x ∷ xs)) (sym f) here, ap test f ∙ e)) (λ g. let k = next g in (there k.0, k.1)) (head_or q x (filter_map (λ p. if test p then Some p else None) xs) h2)
kept_step test x xs q next false e h =
    let h2 : In q (filter_map (λ p. if test p then Some p else None) xs) = rw e at h in
    let k = next h2 in (there k.0, k.1)

kept_from : (test : Point → Bool) (xs : List Point) (q : Point) → In q (filter_map (λ p. if test p then Some p else None) xs) → In q xs × (test q ≡ true)
kept_from test [] q h = elim h [ ]
kept_from test (x ∷ xs) q h = kept_step test x xs q (λ g. kept_from test xs q g) (test x) refl h

point_of : (c : Cell) (q : Point) → In q (grid_points c) → (a : ℕ) × (b : ℕ) × (q ≡ (pos (500 * a), pos (500 * b)))
point_of c q h =
    let r = flat_from (λ a. map (λ b. (pos (500 * a), pos (500 * b))) (count_to (grid_lines (cell_height c)))) (count_to (grid_lines (cell_width c))) q h in
    let s = map_from (λ (b : ℕ). (pos (500 * r.0), pos (500 * b))) (count_to (grid_lines (cell_height c))) q r.1 in
    (r.0, s.0, s.1)

named_so : (m : name.Name) (o : Option name.Name) → is_named m o ≡ true → o ≡ Some m
named_so m None h = absurd (cc h)
named_so m (Some x) h = ap (λ v. Some v) (same_name_true x m h)

-- in a cell whose box begins at 0,0 a pin with an access node is reached at one, with the connector that holds it
pub access_of : (c : Cell) (m : name.Name) → c.bounds.x1 ≡ pos 0 → c.bounds.y1 ≡ pos 0 → 0 < length (access_nodes c m) → HasAccess c m
access_of c m ex ey some =
    let k = rank_of c m % length (access_nodes c m) in
    let lt : k < length (access_nodes c m) = mod-lt (rank_of c m) some in
    let r = get_there (access_nodes c m) k lt in
    let t = kept_from (is_access_node c m) (grid_points c) r.0 (In_get (access_nodes c m) k r.0 r.1) in
    let p = point_of c r.0 t.0 in
    let found = list_any_In (λ s. nat_eq s.metal 1 && is_named m s.name && holds (moved s.rect (pos 0 -ℤ c.bounds.x1) (pos 0 -ℤ c.bounds.y1)) (square r.0.0 r.0.1 (pos 200))) (drawn c.items) t.1 in
    let s = found.0 in
    let u = both (nat_eq s.metal 1 && is_named m s.name) (holds (moved s.rect (pos 0 -ℤ c.bounds.x1) (pos 0 -ℤ c.bounds.y1)) (square r.0.0 r.0.1 (pos 200))) found.2 in
    let v = both (nat_eq s.metal 1) (is_named m s.name) u.0 in
    let w = within_so (square r.0.0 r.0.1 (pos 200)) (moved s.rect (pos 0 -ℤ c.bounds.x1) (pos 0 -ℤ c.bounds.y1)) u.1 in
    let e0 : r.0.0 ≡ pos (500 * p.0) = ap (λ (q : Point). q.0) p.2 in
    let e1 : r.0.1 ≡ pos (500 * p.1) = ap (λ (q : Point). q.1) p.2 in
    record {
      column = p.0;
      row = p.1;
      point = r.1 ∙ ap (λ (q : Point). Some q) p.2;
      pin = s;
      listed = found.1;
      named = named_so m s.name v.1;
      holds = omega (arith, ints);
    }

pub reached : (c : Cell) → IsClean c → (m : name.Name) → In m (names_of (pin_ports c)) → HasAccess c m
reached c d m h = access_of c m (ap (λ (r : Rect). r.x1) d.box) (ap (λ (r : Rect). r.y1) d.box) (d.access m h)
