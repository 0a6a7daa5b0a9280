-- The set of the cells that are used so far.
use Rattle.std.specs.Prelude.{◌≡◌, ◌↔◌, ℕ, Bool, true, false, List, [], ◌∷◌, ◌++◌}
use Rattle.std.specs.Global.{Vec}
use Rattle.std.specs.BTreeSet.{BTreeSet, contains}
use Rattle.std.specs.Cmp.Lexicographic.{slice_cmp}
use Rattle.std.specs.Ordering.{nat_cmp}
use Rattle.vlsi_base.specs.Member.{In}

-- whether the set has this name
abbrev pub has : BTreeSet (Vec ℕ) → Vec ℕ → Bool
has set name = contains (λ (a b : Vec ℕ). slice_cmp nat_cmp a.items b.items) set name

-- these are the names of the set
abbrev pub Holds : BTreeSet (Vec ℕ) → List (List ℕ) → Type 0
Holds set names = (name : Vec ℕ) → (has set name ≡ true) ↔ In name.items names

-- the name was put behind these, or was one of them
abbrev pub Adds : Bool → List (List ℕ) → List ℕ → BTreeSet (Vec ℕ) → Type 0
Adds true names name set = (In name names → ⊥) × Holds set (names ++ name ∷ [])
Adds false names name set = In name names
