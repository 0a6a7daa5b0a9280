-- Truth lists over variables in their order, and how many of them a set of functions has.
-- A truth list is kept as its two halves: the first variable is 0 in the first half and 1 in the second.
use Rattle.std.specs.Prelude.{◌≡◌, ℕ, zero, suc, ◌<◌, Bool, true, false, List, [], ◌∷◌, ◌++◌, ◌⊎◌, length}
use Rattle.std.specs.List.{Contains}

pub data Truths : Type 0 where
  constant : Bool → Truths
  halves : Truths → Truths → Truths

-- the values in their order
abbrev pub listed : Truths → List Bool
listed (constant b) = b ∷ []
listed (halves a b) = listed a ++ listed b

-- the truth list of a function of n bits
abbrev pub truths : ℕ → (List Bool → Bool) → Truths
truths zero f = constant (f [])
truths (suc n) f = halves (truths n (λ w. f (false ∷ w))) (truths n (λ w. f (true ∷ w)))

-- a truth list, its halves, the halves of these, and so on
abbrev pub IsPart : Truths → Truths → Type 0
IsPart x (constant b) = x ≡ constant b
IsPart x (halves a b) = (x ≡ halves a b) ⊎ (IsPart x a ⊎ IsPart x b)

-- its halves are unequal
abbrev pub IsUneven : Truths → Type 0
IsUneven (constant b) = ⊥
IsUneven (halves a b) = a ≡ b → ⊥

-- one that the count of these functions counts
abbrev pub IsCounted : List Truths → Truths → Type 0
IsCounted functions x = IsUneven x × ((f : Truths) × Contains functions f × IsPart x f)

-- no two places have the same
abbrev pub IsDistinct : List Truths → Type 0
IsDistinct [] = Unit {0}
IsDistinct (x ∷ xs) = (Contains xs x → ⊥) × IsDistinct xs

-- exactly those of a list without repetition
abbrev pub HasCounted : List Truths → List Truths → Type 0
HasCounted functions xs =
    IsDistinct xs × ((x : Truths) → Contains xs x → IsCounted functions x)
    × ((x : Truths) → IsCounted functions x → Contains xs x)

-- how many are counted
abbrev pub IsCountOf : List Truths → ℕ → Type 0
IsCountOf functions n = (xs : List Truths) × HasCounted functions xs × (length xs ≡ n)

-- more are counted than the budget
abbrev pub IsOver : List Truths → ℕ → Type 0
IsOver functions budget =
    (xs : List Truths) × IsDistinct xs × ((x : Truths) → Contains xs x → IsCounted functions x) × (budget < length xs)
