-- Least and greatest places of the points of a net.
use Rattle.std.proofs.Common.{◌≡◌, ℕ, zero, suc, ◌*◌, ◌≤◌, ◌⊎◌, inl, inr, ⊎_elim, true, List, [], ◌∷◌, ◌++◌, Some, refl, sym, ap, ◌∙◌, subst, arith}
use Rattle.std.specs.Prelude.{ℤ, pos, ◌+ℤ◌, ◌≤ℤ◌, slice_get, flat_map, ◌/◌}
use Rattle.std.specs.Int.{int_min, int_max}
use Rattle.std.proofs.lemmas.Int.{ints, by_lt_z, int_min_is, int_max_is}
use Rattle.vlsi_base.specs.Member.{In, here, there}
use Rattle.cell_model.specs.Library.{Library}
use Rattle.net_meaning.specs.Netlist.{Member}
use Rattle.ocp_rows.specs.Placement.{model_width, natural}
use Rattle.ocp_rows.specs.Length.{least, greatest}
use Rattle.block_geom.specs.Block.{at_x}
use Rattle.net_drawing.specs.Drawing.{along}
use Rattle.net_drawing.proofs.Coding.{columns_of}
use Rattle.net_drawing.proofs.Cells.{In_first, In_last}
use Rattle.net_drawing.proofs.Pieces.{x_at, min_low, max_high}
use Rattle.net_drawing.proofs.Numbers.{low_of, high_of, has_some}

-- ---- what holds of every element
In_cases : {A : Type 0} (xs ys : List A) (x : A) → In x (xs ++ ys) → In x xs ⊎ In x ys
In_cases [] ys x h = inr h
In_cases (y ∷ xs) ys x here = inl here
In_cases (y ∷ xs) ys x (there h) = ⊎_elim (λ g. inl (there g)) (λ g. inr g) (In_cases xs ys x h)

pub flat_all : {A B : Type 0} (P : B → Type 0) (xs : List A) (h : A → List B) → ((p : ℕ) (x : A) → slice_get xs p ≡ Some x → (y : B) → In y (h x) → P y) → (y : B) → In y (flat_map h xs) → P y
flat_all P [] h f y i = elim i [ ]
flat_all P (x ∷ xs) h f y i = ⊎_elim (λ g. f 0 x refl y g) (λ g. flat_all P xs h (λ p z e. f (suc p) z e) y g) (In_cases (h x) (flat_map h xs) y i)

pub along_all : {B : Type 0} (P : B → Type 0) (l : Library) (ms : List Member) (x : ℤ) (h : ℤ → Member → List B) → ((i : ℕ) (one : Member) → slice_get ms i ≡ Some one → (y : B) → In y (h (x_at l x ms i) one) → P y) → (y : B) → In y (along l h x ms) → P y
along_all P l [] x h f y i = elim i [ ]
along_all P l (one ∷ rest) x h f y i = ⊎_elim (λ g. f 0 one refl y g) (λ g. along_all P l rest (x +ℤ model_width l one.model) h (λ j z e. f (suc j) z e) y g) (In_cases (h x one) (along l h (x +ℤ model_width l one.model) rest) y i)

pub flat_in : {A B : Type 0} (xs : List A) (h : A → List B) (p : ℕ) (x : A) (y : B) → slice_get xs p ≡ Some x → In y (h x) → In y (flat_map h xs)
flat_in [] h p x y e i = absurd (cc e)
flat_in (z ∷ xs) h zero x y e i = let f : x ≡ z = cc in In_first (h z) (flat_map h xs) y (subst (λ v. In y (h v)) f i)
flat_in (z ∷ xs) h (suc p) x y e i = In_last (h z) (flat_map h xs) y (flat_in xs h p x y e i)

pub along_in : {B : Type 0} (l : Library) (ms : List Member) (x : ℤ) (h : ℤ → Member → List B) (i : ℕ) (one : Member) (y : B) → slice_get ms i ≡ Some one → In y (h (x_at l x ms i) one) → In y (along l h x ms)
along_in l [] x h i one y e g = absurd (cc e)
along_in l (z ∷ rest) x h zero one y e g = let f : one ≡ z = cc in In_first (h x z) (along l h (x +ℤ model_width l z.model) rest) y (subst (λ v. In y (h x v)) f g)
along_in l (z ∷ rest) x h (suc i) one y e g = In_last (h x z) (along l h (x +ℤ model_width l z.model) rest) y (along_in l rest (x +ℤ model_width l z.model) h i one y e g)

-- ---- least and greatest
min_other : (x y : ℤ) → y ≤ℤ x → int_min x y ≡ y
min_other x y h = let a = int_min_is x y in omega (arith, ints)

max_other : (x y : ℤ) → y ≤ℤ x → int_max x y ≡ x
max_other x y h = let a = int_max_is x y in omega (arith, ints)

min_either : (P : ℤ → Type 0) (x y : ℤ) → P x → P y → P (int_min x y)
min_either P x y p q = by_lt_z x y (λ a. subst P (sym (min_low x y (omega (arith, ints)))) p) (λ a. subst P (sym (min_other x y (omega (arith, ints)))) q)

max_either : (P : ℤ → Type 0) (x y : ℤ) → P x → P y → P (int_max x y)
max_either P x y p q = by_lt_z x y (λ a. subst P (sym (max_high x y (omega (arith, ints)))) q) (λ a. subst P (sym (max_other x y (omega (arith, ints)))) p)

least_one : (P : ℤ → Type 0) (x : ℤ) (xs : List ℤ) → P x → ((y : ℤ) → In y xs → P y) → P (least x xs)
least_one P x [] p f = p
least_one P x (y ∷ ys) p f = least_one P (int_min x y) ys (min_either P x y p (f y here)) (λ z h. f z (there h))

greatest_one : (P : ℤ → Type 0) (x : ℤ) (xs : List ℤ) → P x → ((y : ℤ) → In y xs → P y) → P (greatest x xs)
greatest_one P x [] p f = p
greatest_one P x (y ∷ ys) p f = greatest_one P (int_max x y) ys (max_either P x y p (f y here)) (λ z h. f z (there h))

least_start : (x : ℤ) (xs : List ℤ) → least x xs ≤ℤ x
least_start x [] = omega (arith, ints)
least_start x (y ∷ ys) = let a = least_start (int_min x y) ys in let b = int_min_is x y in omega (arith, ints)

greatest_start : (x : ℤ) (xs : List ℤ) → x ≤ℤ greatest x xs
greatest_start x [] = omega (arith, ints)
greatest_start x (y ∷ ys) = let a = greatest_start (int_max x y) ys in let b = int_max_is x y in omega (arith, ints)

least_low : (x : ℤ) (xs : List ℤ) (y : ℤ) → In y xs → least x xs ≤ℤ y
least_low x [] y h = elim h [ ]
least_low x (z ∷ zs) y here = let a = least_start (int_min x z) zs in let b = int_min_is x z in omega (arith, ints)
least_low x (z ∷ zs) y (there h) = least_low (int_min x z) zs y h

greatest_high : (x : ℤ) (xs : List ℤ) (y : ℤ) → In y xs → y ≤ℤ greatest x xs
greatest_high x [] y h = elim h [ ]
greatest_high x (z ∷ zs) y here = let a = greatest_start (int_max x z) zs in let b = int_max_is x z in omega (arith, ints)
greatest_high x (z ∷ zs) y (there h) = greatest_high (int_max x z) zs y h

-- a column of the grid right of the straps
abbrev pub IsGrid : ℤ → Type 0
IsGrid y = (c : ℕ) × (y ≡ at_x c) × (3 ≤ c)

grid_column : (y : ℤ) → IsGrid y → (y ≡ at_x (natural y / 500)) × (3 ≤ natural y / 500)
grid_column y (c, e, le) =
    let a : natural y / 500 ≡ c = ap (λ v. natural v / 500) e ∙ columns_of c in
    (e ∙ ap (λ v. pos (500 * v)) (sym a), subst (λ v. 3 ≤ v) (sym a) le)

pub some_of : (xs : List ℤ) (y : ℤ) → In y xs → has_some xs ≡ true
some_of [] y h = elim h [ ]
some_of (x ∷ xs) y h = refl

pub record IsRange (x : ℤ) (xs : List ℤ) : Type 0 where
  pub low : least x xs ≡ at_x (natural (least x xs) / 500)
  pub high : greatest x xs ≡ at_x (natural (greatest x xs) / 500)
  pub start : 3 ≤ natural (least x xs) / 500
  pub order : natural (least x xs) / 500 ≤ natural (greatest x xs) / 500
  pub within : (c : ℕ) → In (at_x c) (x ∷ xs) → (natural (least x xs) / 500 ≤ c) × (c ≤ natural (greatest x xs) / 500)

pub range_of : (x : ℤ) (xs : List ℤ) → ((y : ℤ) → In y (x ∷ xs) → IsGrid y) → IsRange x xs
range_of x xs f =
    let a = grid_column (least x xs) (least_one IsGrid x xs (f x here) (λ y h. f y (there h))) in
    let b = grid_column (greatest x xs) (greatest_one IsGrid x xs (f x here) (λ y h. f y (there h))) in
    let p = least_start x xs in let q = greatest_start x xs in
    let a0 = a.0 in let b0 = b.0 in
    record {
      low = a0;
      high = b0;
      start = a.1;
      order = omega (arith, ints);
      within = λ c h. by c h a0 b0;
    }
  where
    bounds : (y : ℤ) → In y (x ∷ xs) → (least x xs ≤ℤ y) × (y ≤ℤ greatest x xs)
    bounds y here = (least_start x xs, greatest_start x xs)
    bounds y (there h) = (least_low x xs y h, greatest_high x xs y h)

    by : (c : ℕ) → In (at_x c) (x ∷ xs) → least x xs ≡ at_x (natural (least x xs) / 500) → greatest x xs ≡ at_x (natural (greatest x xs) / 500) → (natural (least x xs) / 500 ≤ c) × (c ≤ natural (greatest x xs) / 500)
    by c h e f = let r = bounds (at_x c) h in let r0 = r.0 in let r1 = r.1 in (omega (arith, ints), omega (arith, ints))

pub both : (x : ℤ) (xs ps : List ℤ) → ((y : ℤ) → In y (x ∷ xs) → IsGrid y) → ((y : ℤ) → In y ps → IsGrid y) → (y : ℤ) → In y (x ∷ (xs ++ ps)) → IsGrid y
both x xs ps f g y h = ⊎_elim (λ a. f y a) (λ a. g y a) (In_cases (x ∷ xs) ps y h)

-- the same of the points of a net
pub record Spans (xs ps : List ℤ) : Type 0 where
  pub start : has_some xs ≡ true → 3 ≤ low_of xs ps
  pub order : has_some xs ≡ true → low_of xs ps ≤ high_of xs ps
  pub within : (c : ℕ) → has_some xs ≡ true → In (at_x c) xs ⊎ In (at_x c) ps → (low_of xs ps ≤ c) × (c ≤ high_of xs ps)

pub spans : (xs ps : List ℤ) → ((y : ℤ) → In y xs → IsGrid y) → ((y : ℤ) → In y ps → IsGrid y) → Spans xs ps
spans [] ps f g = record { start = λ e. absurd (cc e); order = λ e. absurd (cc e); within = λ c e. absurd (cc e) }
spans (x ∷ xs) ps f g =
    let r = range_of x (xs ++ ps) (both x xs ps f g) in
    record {
      start = λ e. r.start;
      order = λ e. r.order;
      within = λ c e h. r.within c (⊎_elim (λ a. In_first (x ∷ xs) ps (at_x c) a) (λ a. In_last (x ∷ xs) ps (at_x c) a) h);
    }
