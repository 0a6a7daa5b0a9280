-- Two lists side by side, one more at a time.
use Rattle.std.proofs.Common.{◌≡◌, ℕ, ◌+◌, ◌<◌, List, [], ◌∷◌, ◌++◌, length, map, take, get_or, sym, ap, subst, ◌∙◌}
use Rattle.std.specs.List.{AllZip}
use Rattle.std.proofs.lemmas.List.{take_more}

pub zip_push : {A B : Type 0} (R : A → B → Type 0) (xs : List A) (ys : List B) (x : A) (y : B) → AllZip R xs ys → R x y → AllZip R (xs ++ x ∷ []) (ys ++ y ∷ [])
zip_push R [] [] x y all here = (here, tt)
zip_push R [] (b ∷ ys) x y all here = elim all [ ]
zip_push R (a ∷ xs) [] x y all here = elim all [ ]
zip_push R (a ∷ xs) (b ∷ ys) x y all here = (all.0, zip_push R xs ys x y all.1 here)

pub zip_mapped : {A B : Type 0} (R S : A → B → Type 0) (xs : List A) (ys : List B) → ((x : A) (y : B) → R x y → S x y) → AllZip R xs ys → AllZip S xs ys
zip_mapped R S [] [] f all = tt
zip_mapped R S [] (b ∷ ys) f all = elim all [ ]
zip_mapped R S (a ∷ xs) [] f all = elim all [ ]
zip_mapped R S (a ∷ xs) (b ∷ ys) f all = (f a b all.0, zip_mapped R S xs ys f all.1)

pub map_push : {A B : Type 0} (f : A → B) (xs : List A) (x : A) → map f (xs ++ x ∷ []) ≡ map f xs ++ f x ∷ []
map_push f [] x = λ j. f x ∷ []
map_push f (y ∷ xs) x = ap (λ (l : List _). f y ∷ l) (map_push f xs x)

pub take_next : {A : Type 0} (xs : List A) (i : ℕ) (x : A) → i < length xs → x ≡ get_or xs i x → take (i + 1) xs ≡ take i xs ++ x ∷ []
take_next xs i x inside is = take_more xs i x inside ∙ ap (λ (z : _). take i xs ++ z ∷ []) (sym is)

-- a further one on both sides
pub zip_taken : {A B C D : Type 0} (R : C → D → Type 0) (f : A → C) (g : B → D) (xs : List A) (ys : List B) (i : ℕ) (x : A) (y : B) → i < length xs → x ≡ get_or xs i x
    → AllZip R (map f (take i xs)) (map g ys) → R (f x) (g y) → AllZip R (map f (take (i + 1) xs)) (map g (ys ++ y ∷ []))
zip_taken {A} {B} {C} {D} R f g xs ys i x y inside is all here =
    let front : map f (take (i + 1) xs) ≡ map f (take i xs) ++ f x ∷ [] = ap (map f) (take_next xs i x inside is) ∙ map_push f (take i xs) x in
    subst (λ (l : List C). AllZip R l (map g (ys ++ y ∷ []))) (sym front)
    (subst (λ (l : List D). AllZip R (map f (take i xs) ++ f x ∷ []) l) (sym (map_push g ys y)) (zip_push R (map f (take i xs)) (map g ys) (f x) (g y) all here))
