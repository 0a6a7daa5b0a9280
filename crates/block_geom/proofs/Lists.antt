-- Members of the lists that a figure is made of.
use Rattle.std.proofs.Common.{◌≡◌, ℕ, zero, suc, ◌+◌, ◌<◌, ◌⊎◌, inl, inr, ⊎_elim, List, [], ◌∷◌, ◌++◌, map, Some, None, refl, ap, subst, arith}
use Rattle.std.specs.Prelude.{slice_get}
use Rattle.std.proofs.lemmas.Bool.{cases_lt}
use Rattle.block_geom.specs.Figure.{Shape, Line, Segment, Connector, Via, Blank, line_shapes, drawn_shapes, up_to, In}
use Rattle.block_geom.specs.Block.{Tagged}

pub In_append_cases : {X : Type 0} (xs ys : List X) (x : X) → In x (xs ++ ys) → In x xs ⊎ In x ys
In_append_cases [] ys x h = inr h
In_append_cases (y ∷ xs) ys x (inl e) = inl (inl e)
In_append_cases (y ∷ xs) ys x (inr h) = ⊎_elim (λ g. inl (inr g)) (λ g. inr g) (In_append_cases xs ys x h)

pub In_left : {X : Type 0} (xs ys : List X) (x : X) → In x xs → In x (xs ++ ys)
In_left [] ys x h = absurd h
In_left (y ∷ xs) ys x (inl e) = inl e
In_left (y ∷ xs) ys x (inr h) = inr (In_left xs ys x h)

pub In_right : {X : Type 0} (xs ys : List X) (x : X) → In x ys → In x (xs ++ ys)
In_right [] ys x h = h
In_right (y ∷ xs) ys x h = inr (In_right xs ys x h)

pub In_up_to_cases : {X : Type 0} (n : ℕ) (f : ℕ → List X) (x : X) → In x (up_to n f) → (i : ℕ) × (i < n) × In x (f i)
In_up_to_cases zero f x h = absurd h
In_up_to_cases (suc n) f x h =
    ⊎_elim
    (λ g. let r = In_up_to_cases n f x g in (r.0, omega (arith, r.1), r.2))
    (λ g. (n, omega arith, g))
    (In_append_cases (up_to n f) (f n) x h)

pub In_up_to : {X : Type 0} (n : ℕ) (f : ℕ → List X) (x : X) (i : ℕ) → i < n → In x (f i) → In x (up_to n f)
In_up_to zero f x i lt h = absurd (omega arith)
In_up_to (suc n) f x i lt h =
    ⊎_elim
    (λ below. In_left (up_to n f) (f n) x (In_up_to n f x i below h))
    (λ above. let e : i ≡ n = omega arith in In_right (up_to n f) (f n) x (subst (λ j. In x (f j)) e h))
    (cases_lt i n)

pub In_map_cases : {X Y : Type 0} (g : X → Y) (xs : List X) (y : Y) → In y (map g xs) → (x : X) × In x xs × (y ≡ g x)
In_map_cases g [] y h = absurd h
In_map_cases g (x ∷ xs) y (inl e) = (x, inl refl, e)
In_map_cases g (x ∷ xs) y (inr h) = let r = In_map_cases g xs y h in (r.0, inr r.1, r.2)

pub In_map : {X Y : Type 0} (g : X → Y) (xs : List X) (x : X) → In x xs → In (g x) (map g xs)
In_map g [] x h = absurd h
In_map g (y ∷ xs) x (inl e) = inl (ap g e)
In_map g (y ∷ xs) x (inr h) = inr (In_map g xs x h)

abbrev pub line_of : Tagged → Line
line_of t = t.line

-- the line at place j of the list, which is line k of the figure, gives the shape s
pub record IsGiven (ts : List Tagged) (first : ℕ) (s : Shape) : Type 0 where
  pub place : ℕ
  pub tagged : Tagged
  pub at : slice_get ts place ≡ Some tagged
  pub among : In tagged ts
  pub shape : In s (line_shapes (first + place) tagged.line)

pub In_drawn_cases : (first : ℕ) (ts : List Tagged) (s : Shape) → In s (drawn_shapes first (map line_of ts)) → IsGiven ts first s
In_drawn_cases first [] s h = absurd h
In_drawn_cases first (t ∷ ts) s h =
    ⊎_elim
    (λ g. let e : first ≡ first + 0 = omega arith in record { place = 0; tagged = t; at = refl; among = inl refl; shape = subst (λ k. In s (line_shapes k t.line)) e g })
    (λ g. let r = In_drawn_cases (suc first) ts s g in let e : suc first + r.place ≡ first + suc r.place = omega arith in
    record { place = suc r.place; tagged = r.tagged; at = r.at; among = inr r.among; shape = subst (λ k. In s (line_shapes k r.tagged.line)) e r.shape })
    (In_append_cases (line_shapes first t.line) (drawn_shapes (suc first) (map line_of ts)) s h)

-- each line of the list has a number, under which its shapes are drawn
pub In_drawn : (first : ℕ) (ts : List Tagged) (t : Tagged) → In t ts → (k : ℕ) × ((s : Shape) → In s (line_shapes k t.line) → In s (drawn_shapes first (map line_of ts)))
In_drawn first [] t h = absurd h
In_drawn first (u ∷ ts) t (inl e) =
    (first, λ s g. In_left (line_shapes first u.line) (drawn_shapes (suc first) (map line_of ts)) s (subst (λ v. In s (line_shapes first v.line)) e g))
In_drawn first (u ∷ ts) t (inr h) =
    let r = In_drawn (suc first) ts t h in
    (r.0, λ s g. In_right (line_shapes first u.line) (drawn_shapes (suc first) (map line_of ts)) s (r.1 s g))

-- what a figure draws belongs to no instance
pub line_owner : (k : ℕ) (l : Line) (s : Shape) → In s (line_shapes k l) → s.owner ≡ None
line_owner k (Segment m w u x1 y1 x2 y2 n) s (inl e) = ap (λ v. v.owner) e
line_owner k (Segment m w u x1 y1 x2 y2 n) s (inr h) = absurd h
line_owner k (Connector m w x y n) s (inl e) = ap (λ v. v.owner) e
line_owner k (Connector m w x y n) s (inr h) = absurd h
line_owner k (Via m x y) s (inl e) = ap (λ v. v.owner) e
line_owner k (Via m x y) s (inr (inl e)) = ap (λ v. v.owner) e
line_owner k (Via m x y) s (inr (inr h)) = absurd h
line_owner k Blank s h = absurd h

pub drawn_owner : (first : ℕ) (ls : List Line) (s : Shape) → In s (drawn_shapes first ls) → s.owner ≡ None
drawn_owner first [] s h = absurd h
drawn_owner first (l ∷ ls) s h =
    ⊎_elim (λ g. line_owner first l s g) (λ g. drawn_owner (suc first) ls s g) (In_append_cases (line_shapes first l) (drawn_shapes (suc first) ls) s h)

pub line_number : (k : ℕ) (l : Line) (s : Shape) → In s (line_shapes k l) → s.line ≡ k
line_number k (Segment m w u x1 y1 x2 y2 n) s (inl e) = ap (λ v. v.line) e
line_number k (Segment m w u x1 y1 x2 y2 n) s (inr h) = absurd h
line_number k (Connector m w x y n) s (inl e) = ap (λ v. v.line) e
line_number k (Connector m w x y n) s (inr h) = absurd h
line_number k (Via m x y) s (inl e) = ap (λ v. v.line) e
line_number k (Via m x y) s (inr (inl e)) = ap (λ v. v.line) e
line_number k (Via m x y) s (inr (inr h)) = absurd h
line_number k Blank s h = absurd h
