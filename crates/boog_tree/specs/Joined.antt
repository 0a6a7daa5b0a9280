-- Cuts that are made of others.
use Rattle.std.specs.Prelude.{◌≡◌, ◌⊎◌, ℕ, ◌≤◌, Bool, List, [], ◌∷◌, ◌++◌, length}
use Rattle.net_theory.specs.Sources.{IsNumber}
use Rattle.cell_match.specs.declared.cut.Cut.{Cut}
use Rattle.cell_match.specs.Computes.{cut_value}
use Rattle.boog_cuts.specs.Cuts.{IsUnion}
use Rattle.boog_cuts.specs.Lists.{IsInvMade, IsNandMade}

module _ {K : ℕ} where
  -- each is the inverse of one of the first, and each of these has its inverse
  pub record AreInverses (first cuts : List (Cut K)) : Type 0 where
    pub sound : (i : ℕ) (c : Cut K) → IsNumber cuts i c → (j : ℕ) × (a : Cut K) × IsNumber first j a × IsInvMade a c
    pub every : (j : ℕ) (a : Cut K) → IsNumber first j a → (i : ℕ) × (c : Cut K) × IsNumber cuts i c × IsInvMade a c

  -- the list has what the two give, unless they have too many members together
  abbrev pub HasJoint : Cut K → Cut K → List (Cut K) → Type 0
  HasJoint a b cuts = (nodes : List ℕ) → IsUnion a.leaves.items b.leaves.items nodes → length nodes ≤ K
      → (i : ℕ) × (c : Cut K) × IsNumber cuts i c × IsNandMade a b c

  -- the list got what cut a gives with each of these
  pub record IsGrownBy (old : List (Cut K)) (a : Cut K) (seconds new : List (Cut K)) : Type 0 where
    pub kept : (i : ℕ) (c : Cut K) → IsNumber old i c → IsNumber new i c
    pub sound : (i : ℕ) (c : Cut K) → IsNumber new i c → IsNumber old i c ⊎ ((j : ℕ) × (b : Cut K) × IsNumber seconds j b × IsNandMade a b c)
    pub every : (j : ℕ) (b : Cut K) → IsNumber seconds j b → HasJoint a b new

  -- and what each of these gives with each of those
  pub record AreJoined (firsts seconds cuts : List (Cut K)) : Type 0 where
    pub sound : (k : ℕ) (c : Cut K) → IsNumber cuts k c
        → (i j : ℕ) × (a b : Cut K) × IsNumber firsts i a × IsNumber seconds j b × IsNandMade a b c
    pub every : (i j : ℕ) (a b : Cut K) → IsNumber firsts i a → IsNumber seconds j b → HasJoint a b cuts

  -- behind these cuts one that is the number itself
  pub record HasItself (number : ℕ) (cuts parts : List (Cut K)) : Type 0 where
    pub own : Cut K
    pub is : parts ≡ cuts ++ own ∷ []
    pub members : own.leaves.items ≡ number ∷ []
    pub gives : (f : ℕ → Bool) → cut_value own f ≡ f number
