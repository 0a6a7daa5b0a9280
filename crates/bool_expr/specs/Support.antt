-- The members of a list, in the order in which they are first met.
use Rattle.std.specs.Prelude.{◌≡◌, ◌==◌, ℕ, Bool, List, [], ◌∷◌, ◌++◌, if◌then◌else◌}
use Rattle.std.specs.List.{list_any}
use Rattle.std.specs.Ordering.{nat_cmp}
use Rattle.std.specs.BTreeSet.{BTreeSet, contains}

abbrev pub among : ℕ → List ℕ → Bool
among k xs = list_any (λ x. x == k) xs

-- those that are not among the ones seen, each where it is first met
abbrev pub meetings_after : List ℕ → List ℕ → List ℕ
meetings_after seen [] = []
meetings_after seen (x ∷ xs) =
    if among x seen then meetings_after seen xs else x ∷ meetings_after (seen ++ x ∷ []) xs

-- each member of a list once, in the order in which they are first met
abbrev pub first_meetings : List ℕ → List ℕ
first_meetings xs = meetings_after [] xs

-- the set has the members of the list
abbrev pub Knows : BTreeSet ℕ → List ℕ → Type 0
Knows met vars = (k : ℕ) → contains nat_cmp met k ≡ among k vars
