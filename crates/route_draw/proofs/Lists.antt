-- What is made of lists step by step.
use Rattle.std.proofs.Common.{◌≡◌, ◌++◌, ◌<◌, ◌+◌, ℕ, zero, suc, inl, inr, List, [], ◌∷◌, drop, length, Option, None, Some, get_or, sym, ap, subst, ◌∙◌, append_assoc, refl, arith, Bor}
use Rattle.std.specs.Prelude.{slice_get}
use Rattle.std.specs.Option.{option_copied}
use Rattle.std.specs.Slice.{IsItemAt}
use Rattle.std.proofs.lemmas.Bool.{cases_lt}
use Rattle.std.proofs.lemmas.List.{at_drop_more}
use Rattle.std.proofs.lemmas.Option.{slice_get_past, slice_get-get_or}
use Rattle.sym_geom.specs.declared.item.Item.{Item}
use Rattle.grid_core.specs.Routes.{NetRoutes}
use Rattle.maze_drawing.specs.Wiring.{IsWiringOf}
use Rattle.maze_nets.specs.declared.points.NetPoints.{NetPoints}
use Rattle.maze_wires.specs.declared.wires.NetWires.{NetWires}
use Rattle.maze_wires.specs.Shown.{shown_net}
use Rattle.net_core.specs.Places.{Stands}
use Rattle.route_draw.specs.GridPieces.{rail_y, rail_ys_from, via_points, wiring_of, wiring_in, numbered_lines}
use Rattle.route_draw.proofs.Joins.{ranged}

-- what `get` gives
pub got : {A : Type 0} (xs : List A) (i : ℕ) (r : Option (Bor A)) → IsItemAt xs i r → option_copied r ≡ slice_get xs i
got xs i None h = sym (slice_get_past xs i h.3)
got xs i (Some x) h = sym (slice_get-get_or xs i x.now h.3.0 ∙ ap (λ y. Some y) (sym h.1))

-- five lists that were put one behind another
pub joined : {A : Type 0} (nothing none first second third fourth fifth a b c d e : List A) → nothing ≡ [] → none ≡ nothing → first ≡ none ++ a → second ≡ first ++ b → third ≡ second ++ c → fourth ≡ third ++ d → fifth ≡ fourth ++ e
    → fifth ≡ a ++ (b ++ (c ++ (d ++ e)))
joined {A} nothing none first second third fourth fifth a b c d e o p q r s t u =
    u ∙ ap (λ (xs : List A). xs ++ e) (t ∙ ap (λ (xs : List A). xs ++ d) (s ∙ ap (λ (xs : List A). xs ++ c) (r ∙ ap (λ (xs : List A). xs ++ b) (q ∙ ap (λ (xs : List A). xs ++ a) (p ∙ o)))))
    ∙ append_assoc ((a ++ b) ++ c) d e ∙ append_assoc (a ++ b) c (d ++ e) ∙ append_assoc a b (c ++ (d ++ e))

-- four lists that were
pub joined_four : {A : Type 0} (nothing none first second third fourth a b c d : List A) → nothing ≡ [] → none ≡ nothing → first ≡ none ++ a → second ≡ first ++ b → third ≡ second ++ c → fourth ≡ third ++ d
    → fourth ≡ a ++ (b ++ (c ++ d))
joined_four {A} nothing none first second third fourth a b c d o p q r s t =
    t ∙ ap (λ (xs : List A). xs ++ d) (s ∙ ap (λ (xs : List A). xs ++ c) (r ∙ ap (λ (xs : List A). xs ++ b) (q ∙ ap (λ (xs : List A). xs ++ a) (p ∙ o))))
    ∙ append_assoc (a ++ b) c d ∙ append_assoc a b (c ++ d)

-- ---- rails

rail_ys_last : (upright turned r many : ℕ) → rail_ys_from upright turned r (suc many) ≡ rail_ys_from upright turned r many ++ rail_y upright turned (r + many) ∷ []
rail_ys_last upright turned r zero = let e : r ≡ r + 0 = omega arith in ap (λ (j : ℕ). rail_y upright turned j ∷ []) e
rail_ys_last upright turned r (suc many) =
    let e : suc r + many ≡ r + suc many = omega arith in
    ap (λ (ys : List ℕ). rail_y upright turned r ∷ ys)
    (rail_ys_last upright turned (suc r) many ∙ ap (λ (j : ℕ). rail_ys_from upright turned (suc r) many ++ rail_y upright turned j ∷ []) e)

-- a step of a loop that lists them
pub rail_ys_more : (upright turned row y : ℕ) (ys made : List ℕ) → made ≡ ys ++ y ∷ [] → ys ≡ rail_ys_from upright turned 0 row → y ≡ rail_y upright turned row
    → made ≡ rail_ys_from upright turned 0 (row + 1)
rail_ys_more upright turned row y ys made is so at =
    let z : row ≡ 0 + row = omega arith in
    let e : suc row ≡ row + 1 = omega arith in
    is
    ∙ ap (λ (v : List ℕ). v ++ y ∷ []) so
    ∙ ap (λ (v : ℕ). rail_ys_from upright turned 0 row ++ v ∷ []) at
    ∙ ap (λ (j : ℕ). rail_ys_from upright turned 0 row ++ rail_y upright turned j ∷ []) z
    ∙ sym (rail_ys_last upright turned 0 row)
    ∙ ap (λ (many : ℕ). rail_ys_from upright turned 0 many) e

-- ---- lines by numbers

module _ {A : Type 0} (f : ℕ → A → List Item) where
  -- those of one more
  pub one_more : (xs : List A) (k : ℕ) (d : A) → k < length xs
      → numbered_lines f k (drop k xs) ≡ f k (get_or xs k d) ++ numbered_lines f (k + 1) (drop (k + 1) xs)
  one_more xs k d low =
      let e : suc k ≡ k + 1 = omega arith in
      at_drop_more (numbered_lines f k) xs k d low
      ∙ ap (λ (j : ℕ). f k (get_or xs k d) ++ numbered_lines f j (drop (k + 1) xs)) e

  -- a step of a loop that adds them
  pub one_step : (xs : List A) (k : ℕ) (x : A) (before items after : List Item) → k < length xs → x ≡ get_or xs k x → after ≡ items ++ f k x
      → items ++ numbered_lines f k (drop k xs) ≡ before → after ++ numbered_lines f (k + 1) (drop (k + 1) xs) ≡ before
  one_step xs k x before items after low at is so =
      ap (λ (v : List Item). v ++ numbered_lines f (k + 1) (drop (k + 1) xs)) is
      ∙ append_assoc items (f k x) (numbered_lines f (k + 1) (drop (k + 1) xs))
      ∙ ap (λ (y : A). items ++ (f k y ++ numbered_lines f (k + 1) (drop (k + 1) xs))) at
      ∙ ap (λ (v : List Item). items ++ v) (sym (one_more xs k x low))
      ∙ so

  -- they are what a function makes of the numbers
  pub by_number : (g : ℕ → List Item) (k : ℕ) (xs : List A) → ((i : ℕ) (x : A) → Stands xs i x → g (k + i) ≡ f (k + i) x)
      → ranged g k (length xs) ≡ numbered_lines f k xs
  by_number g k [] each = refl
  by_number g k (x ∷ xs) each =
      let z : k + 0 ≡ k = omega arith in
      let first : g k ≡ f k x = subst (λ (j : ℕ). g j ≡ f j x) z (each 0 x refl) in
      ap (λ (v : List Item). v ++ ranged g (suc k) (length xs)) first
      ∙ ap (λ (v : List Item). f k x ++ v) (by_number g (suc k) xs (λ i y s.
      let e : k + suc i ≡ suc k + i = omega arith in
      subst (λ (j : ℕ). g j ≡ f j y) e (each (suc i) y s)))

-- ---- wirings

get_left : {A : Type 0} (xs ys : List A) (j : ℕ) → j < length xs → slice_get (xs ++ ys) j ≡ slice_get xs j
get_left [] ys j low = absurd (omega arith)
get_left (x ∷ xs) ys zero low = refl
get_left (x ∷ xs) ys (suc j) low = get_left xs ys j (omega arith)

get_end : {A : Type 0} (xs : List A) (y : A) → slice_get (xs ++ y ∷ []) (length xs) ≡ Some y
get_end [] y = refl
get_end (x ∷ xs) y = get_end xs y

-- the wiring of one more net
pub wired_more : (routes : NetRoutes) (points : List NetPoints) (made : List NetWires) (net : NetWires) (k : ℕ) (x : NetPoints) → length made ≡ k → Stands points k x
    → ((j : ℕ) (y : NetPoints) → j < k → Stands points j y → IsWiringOf (routes j) (via_points y) (wiring_in made j))
    → IsWiringOf (routes k) (via_points x) (shown_net net)
    → (j : ℕ) (y : NetPoints) → j < k + 1 → Stands points j y → IsWiringOf (routes j) (via_points y) (wiring_in (made ++ net ∷ []) j)
wired_more routes points made net k x long at old new j y low here =
    elim (cases_lt j k) [
      | inl less ↦ subst (λ (o : Option NetWires). IsWiringOf (routes j) (via_points y) (wiring_of o))
          (sym (get_left made (net ∷ []) j (omega (arith, less, long)))) (old j y less here)
      | inr more ↦
          let same : k ≡ j = omega (arith, more, low) in
          let one : x ≡ y = some_same x y (sym at ∙ ap (λ (i : ℕ). slice_get points i) same ∙ here) in
          let end : slice_get (made ++ net ∷ []) k ≡ Some net =
          ap (λ (i : ℕ). slice_get (made ++ net ∷ []) i) (sym long) ∙ get_end made net in
          subst (λ (i : ℕ). IsWiringOf (routes i) (via_points y) (wiring_in (made ++ net ∷ []) i)) same
          (subst (λ (o : Option NetWires). IsWiringOf (routes k) (via_points y) (wiring_of o)) (sym end)
          (subst (λ (z : NetPoints). IsWiringOf (routes k) (via_points z) (shown_net net)) one new))
    ]
  where
    some_same : (u v : NetPoints) → Some u ≡ Some v → u ≡ v
    some_same u v e = cc
