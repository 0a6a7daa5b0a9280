-- Lists of cuts that are enough to find the least area: of cuts that differ only in which gates of the tree they read, one that costs least.
use Rattle.std.specs.Prelude.{◌≡◌, ℕ, ◌<◌, ◌≤◌, Bool, false, List, length}
use Rattle.net_theory.specs.Sources.{IsNumber}
use Rattle.graph_theory.specs.Graph.{Graph}
use Rattle.cell_match.specs.Places.{times}
use Rattle.cell_match.specs.declared.cut.Cut.{Cut}
use Rattle.cell_match.specs.Computes.{cut_value}
use Rattle.boog_tree.specs.Trees.{is_inner, IsTreeCut, IsPart}
use Rattle.boog_tree.specs.Sums.{inner_sum}

-- A cut stands for these members and this function: each member has another of its own, one in the tree where it lies there, and else
-- itself; with these the function is the same, and the bounds of those in the tree are no more together.
pub record StandsFor (inner : ℕ → Bool) (b : ℕ → ℕ) (c : Cut 6) (members : List ℕ) (value : (ℕ → Bool) → Bool) : Type 0 where
  pub to : ℕ → ℕ
  pub outside : (y : ℕ) → 0 < times y members → inner y ≡ false → to y ≡ y
  pub inside : (y : ℕ) → 0 < times y members → inner (to y) ≡ inner y
  pub apart : (y z : ℕ) → 0 < times y members → 0 < times z members → to y ≡ to z → y ≡ z
  pub into : (y : ℕ) → 0 < times y members → 0 < times (to y) c.leaves.items
  pub onto : (z : ℕ) → 0 < times z c.leaves.items → (y : ℕ) × (0 < times y members) × (to y ≡ z)
  pub gives : (f h : ℕ → Bool) → ((y : ℕ) → 0 < times y members → h y ≡ f (to y)) → cut_value c f ≡ value h
  pub least : inner_sum inner b c.leaves.items ≤ inner_sum inner b members

-- a cut of the list stands for these
pub record HasStandIn (inner : ℕ → Bool) (b : ℕ → ℕ) (cuts : List (Cut 6)) (members : List ℕ) (value : (ℕ → Bool) → Bool) : Type 0 where
  pub place : ℕ
  pub cut : Cut 6
  pub at : IsNumber cuts place cut
  pub stands : StandsFor inner b cut members value

-- Each is a cut of gate x within its tree, and one of them stands for each cut of it with at most 6 members; the same of what stands at a pin.
pub record AreEnoughCuts (held : ℕ) (g : Graph) (b : ℕ → ℕ) (x : ℕ) (cuts : List (Cut 6)) : Type 0 where
  pub sound : (i : ℕ) (c : Cut 6) → IsNumber cuts i c → IsTreeCut held g x c.leaves.items (λ f. cut_value c f)
  pub every : (members : List ℕ) (value : (ℕ → Bool) → Bool) → IsTreeCut held g x members value → length members ≤ 6
      → HasStandIn (is_inner held g) b cuts members value

pub record AreEnoughParts (held : ℕ) (g : Graph) (b : ℕ → ℕ) (x : ℕ) (cuts : List (Cut 6)) : Type 0 where
  pub sound : (i : ℕ) (c : Cut 6) → IsNumber cuts i c → IsPart held g x c.leaves.items (λ f. cut_value c f)
  pub every : (members : List ℕ) (value : (ℕ → Bool) → Bool) → IsPart held g x members value → length members ≤ 6
      → HasStandIn (is_inner held g) b cuts members value
