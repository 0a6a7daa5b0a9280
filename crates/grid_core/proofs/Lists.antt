-- Members of two lists together.
use Rattle.std.proofs.Common.{◌⊎◌, inl, inr, ⊎_elim, List, [], ◌∷◌, ◌++◌}
use Rattle.vlsi_base.specs.Member.{In, here, there}

pub In_either : {A : Type 0} (xs ys : List A) (x : A) → In x (xs ++ ys) → In x xs ⊎ In x ys
In_either [] ys x h = inr h
In_either (y ∷ xs) ys x here = inl here
In_either (y ∷ xs) ys x (there h) = ⊎_elim (λ g. inl (there g)) (λ g. inr g) (In_either xs ys x h)

pub In_first : {A : Type 0} (xs ys : List A) (x : A) → In x xs → In x (xs ++ ys)
In_first [] ys x h = elim h [ ]
In_first (y ∷ xs) ys x here = here
In_first (y ∷ xs) ys x (there h) = there (In_first xs ys x h)

pub In_last : {A : Type 0} (xs ys : List A) (x : A) → In x ys → In x (xs ++ ys)
In_last [] ys x h = h
In_last (y ∷ xs) ys x h = there (In_last xs ys x h)
