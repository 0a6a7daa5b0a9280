-- Members of lists and of what is made of lists.
use Rattle.std.proofs.Common.{◌≡◌, ℕ, zero, suc, Bool, true, false, cond, List, [], ◌∷◌, map, filter, zip, Some, None, refl, sym, ◌∙◌, ap, subst}
use Rattle.std.proofs.lemmas.Bool.{cond-true}
use Rattle.std.proofs.lemmas.Option.{same_Some, some_pair_parts}
use Rattle.vlsi_base.specs.Member.{In, here, there}
use Rattle.net_core.specs.Places.{Stands, IsThere}

-- a member has a place
pub in_place : {A : Type 0} (x : A) (xs : List A) → In x xs → IsThere xs x
in_place x [] h = elim h [ ]
in_place x (y ∷ xs) here = (0, refl)
in_place x (y ∷ xs) (there h) = let r = in_place x xs h in (suc r.0, r.1)

pub filter_in : {A : Type 0} (t : A → Bool) (xs : List A) (x : A) → In x xs → t x ≡ true → In x (filter t xs)
filter_in t [] x i e = elim i [ ]
filter_in {A} t (y ∷ xs) x here e = subst (λ (zs : List A). In y zs) (sym (cond-true (t y) (y ∷ filter t xs) (filter t xs) e)) here
filter_in t (y ∷ xs) x (there i) e = by (t y) (filter_in t xs x i e) where
  by : (b : Bool) → In x (filter t xs) → In x (cond b (y ∷ filter t xs) (filter t xs))
  by true h = there h
  by false h = h

abbrev paired : {A B : Type 0} → A → B → A × B
paired a b = (a, b)

-- places of two lists that go together
pub zip_place : {A B : Type 0} (xs : List A) (ys : List B) (k : ℕ) (x : A) (y : B) → Stands xs k x → Stands ys k y → Stands (zip xs ys) k (x, y)
zip_place [] ys k x y p q = let n : None ≡ Some x = p in absurd cc
zip_place (a ∷ xs) [] k x y p q = let n : None ≡ Some y = q in absurd cc
zip_place {A} {B} (a ∷ xs) (b ∷ ys) zero x y p q =
    ap (λ (u : A). Some (paired u b)) (same_Some a x p) ∙ ap (λ (v : B). Some (paired x v)) (same_Some b y q)
zip_place (a ∷ xs) (b ∷ ys) (suc k) x y p q = zip_place xs ys k x y p q

pub zip_back : {A B : Type 0} (xs : List A) (ys : List B) (k : ℕ) (x : A) (y : B) → Stands (zip xs ys) k (x, y) → Stands xs k x × Stands ys k y
zip_back {A} {B} [] ys k x y s = let n : None ≡ Some (paired x y) = s in absurd cc
zip_back {A} {B} (a ∷ xs) [] k x y s = let n : None ≡ Some (paired x y) = s in absurd cc
zip_back (a ∷ xs) (b ∷ ys) zero x y s = let e = some_pair_parts a x b y s in (ap Some e.0, ap Some e.1)
zip_back (a ∷ xs) (b ∷ ys) (suc k) x y s = zip_back xs ys k x y s

pub map_twice : {A B C : Type 0} (f : B → C) (g : A → B) (xs : List A) → map f (map g xs) ≡ map (λ x. f (g x)) xs
map_twice f g [] = refl
map_twice {A} {B} {C} f g (x ∷ xs) = ap (λ (zs : List C). f (g x) ∷ zs) (map_twice f g xs)
