-- Membership in a list, and sublists.
use Rattle.std.specs.Prelude.{List, [], ◌∷◌, ◌++◌, map}

-- x stands in the list
pub data In {A : Type 0} (x : A) : List A → Type 0 where
  here : {xs : List A} → In x (x ∷ xs)
  there : {y : A} {xs : List A} → In x xs → In x (y ∷ xs)

-- nothing stands twice in the list
abbrev pub AllDifferent : {A : Type 0} → List A → Type 0
AllDifferent [] = Unit {0}
AllDifferent (x ∷ xs) = (In x xs → ⊥) × AllDifferent xs

-- ys are those of xs that have P, in their order
pub data Picks {A : Type 0} (P : A → Type 0) : List A → List A → Type 0 where
  done : Picks P [] []
  takes : {x : A} {xs ys : List A} → P x → Picks P xs ys → Picks P (x ∷ xs) (x ∷ ys)
  skips : {x : A} {xs ys : List A} → (P x → ⊥) → Picks P xs ys → Picks P (x ∷ xs) ys

-- each element with each later one, in order of the first and then of the second
abbrev pub pairs : {A : Type 0} → List A → List (A × A)
pairs {A} [] = []
pairs {A} (x ∷ xs) = map (λ y. (x, y)) xs ++ pairs xs
