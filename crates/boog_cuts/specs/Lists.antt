-- Lists of cuts.
use Rattle.std.specs.Prelude.{◌≡◌, ◌⊎◌, ℕ, Bool, not, ◌&&◌, List, [], ◌∷◌, ◌++◌}
use Rattle.net_theory.specs.Sources.{IsNumber}
use Rattle.cell_match.specs.declared.cut.Cut.{Cut}
use Rattle.cell_match.specs.Computes.{cut_value}
use Rattle.boog_cuts.specs.Cuts.{IsUnion}

module _ {K : ℕ} where
  -- the second list is the first, or has one cut more, of which P is true
  abbrev pub IsMore : (Cut K → Type 0) → List (Cut K) → List (Cut K) → Type 0
  IsMore P first second = (second ≡ first) ⊎ ((c : Cut K) × (second ≡ first ++ c ∷ []) × P c)

  -- a gate's cut from two
  pub record IsNandMade (first second c : Cut K) : Type 0 where
    pub leaves : IsUnion first.leaves.items second.leaves.items c.leaves.items
    pub value : (f : ℕ → Bool) → cut_value c f ≡ not (cut_value first f && cut_value second f)

  -- an inverter's cut from one
  pub record IsInvMade (first c : Cut K) : Type 0 where
    pub leaves : c.leaves.items ≡ first.leaves.items
    pub value : (f : ℕ → Bool) → cut_value c f ≡ not (cut_value first f)

  -- The first cut is the node itself, and P is true of each further one.
  pub record AreMade (P : Cut K → Type 0) (number : ℕ) (cuts : List (Cut K)) : Type 0 where
    pub node : Cut K
    pub rest : List (Cut K)
    pub is : cuts ≡ node ∷ rest
    pub leaves : node.leaves.items ≡ number ∷ []
    pub value : (f : ℕ → Bool) → cut_value node f ≡ f number
    pub made : (i : ℕ) (c : Cut K) → IsNumber rest i c → P c

  -- from a cut of the one node, and from a cut of each of two
  abbrev pub FromOne : List (Cut K) → Cut K → Type 0
  FromOne first c = (i : ℕ) × (a : Cut K) × IsNumber first i a × IsInvMade a c

  abbrev pub FromTwo : List (Cut K) → List (Cut K) → Cut K → Type 0
  FromTwo first second c = (i j : ℕ) × (a b : Cut K) × IsNumber first i a × IsNumber second j b × IsNandMade a b c

  -- the second cut is made of the first ones
  abbrev pub BeginsOne : List (Cut K) → List (Cut K) → Type 0
  BeginsOne first cuts = (a c : Cut K) × IsNumber first 0 a × IsNumber cuts 1 c × IsInvMade a c

  abbrev pub BeginsTwo : List (Cut K) → List (Cut K) → List (Cut K) → Type 0
  BeginsTwo first second cuts = (a b c : Cut K) × IsNumber first 0 a × IsNumber second 0 b × IsNumber cuts 1 c × IsNandMade a b c
