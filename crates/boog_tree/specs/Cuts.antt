-- Lists of cuts within trees.
use Rattle.std.specs.Prelude.{◌≡◌, ◌↔◌, ℕ, ◌<◌, ◌≤◌, Bool, List, map, length}
use Rattle.std.specs.Global.{Vec}
use Rattle.net_theory.specs.Sources.{IsNumber}
use Rattle.graph_theory.specs.Graph.{Graph}
use Rattle.cell_match.specs.Places.{times}
use Rattle.cell_match.specs.declared.cut.Cut.{Cut}
use Rattle.cell_match.specs.Computes.{cut_value}
use Rattle.boog_tree.specs.Trees.{IsTreeCut, IsPart}

-- the same set
abbrev pub AreSame : List ℕ → List ℕ → Type 0
AreSame xs ys = (x : ℕ) → (0 < times x xs) ↔ (0 < times x ys)

module _ {K : ℕ} where
  -- a cut of the list has these members and this function
  pub record IsListed (cuts : List (Cut K)) (members : List ℕ) (value : (ℕ → Bool) → Bool) : Type 0 where
    pub place : ℕ
    pub cut : Cut K
    pub at : IsNumber cuts place cut
    pub same : AreSame members cut.leaves.items
    pub gives : (f : ℕ → Bool) → cut_value cut f ≡ value f

  -- exactly the cuts of gate x within its tree, and those of what stands at a pin
  pub record AreTreeCuts (held : ℕ) (g : Graph) (x : ℕ) (cuts : List (Cut K)) : Type 0 where
    pub sound : (i : ℕ) (c : Cut K) → IsNumber cuts i c → IsTreeCut held g x c.leaves.items (λ f. cut_value c f)
    pub every : (members : List ℕ) (value : (ℕ → Bool) → Bool) → IsTreeCut held g x members value → length members ≤ K
        → IsListed cuts members value

  pub record AreParts (held : ℕ) (g : Graph) (x : ℕ) (cuts : List (Cut K)) : Type 0 where
    pub sound : (i : ℕ) (c : Cut K) → IsNumber cuts i c → IsPart held g x c.leaves.items (λ f. cut_value c f)
    pub every : (members : List ℕ) (value : (ℕ → Bool) → Bool) → IsPart held g x members value → length members ≤ K → IsListed cuts members value

  -- for each number so far what stands for it at a pin
  abbrev pub AreTreeParts : ℕ → Graph → List (Vec (Cut K)) → Type 0
  AreTreeParts held g parts = (x : ℕ) (list : List (Cut K)) → IsNumber (map (λ v. v.items) parts) x list → AreParts held g x list

  -- no cut has a member twice
  abbrev pub AreOnce : List (Cut K) → Type 0
  AreOnce cuts = (i : ℕ) (c : Cut K) → IsNumber cuts i c → (x : ℕ) → times x c.leaves.items ≤ 1
