-- Searches along links, from one place on.
use Rattle.std.specs.Prelude.{◌≡◌, ◌≢◌, ℕ, ◌+◌, ◌<◌, ◌≤◌, Bool, true, false, if◌then◌else◌, List, length, slice_index_or, Contains}
use Rattle.std.specs.List.{sum_by}
use Rattle.sym_shapes.specs.Shape.{Shape}
use Rattle.sym_shapes.specs.Chain.{LinkedAt}
use Rattle.sym_shapes.specs.Joints.{link}
use Rattle.sym_shapes.specs.declared.forest.Link.{Link}
use Rattle.sym_shapes.specs.declared.search.Step.{Step}

-- the step of a number
abbrev pub step : List Step → ℕ → Step
step steps k = slice_index_or steps k (record { place = 0; next = 0 })

-- each step but the first goes on to one that stands before it
abbrev pub Falls : List Step → Type 0
Falls steps = (k : ℕ) → 0 < k → k < length steps → (step steps k).next < k

-- each step but the first is one that its place makes to that of the step which it goes on to
abbrev pub Follows : (ℕ → ℕ → Type 0) → List Step → Type 0
Follows IsStep steps = (k : ℕ) → 0 < k → k < length steps → IsStep (step steps (step steps k).next).place (step steps k).place

-- no place has two steps
abbrev pub StepsDiffer : List Step → Type 0
StepsDiffer steps = (j k : ℕ) → j < k → k < length steps → (step steps j).place ≢ (step steps k).place

-- a link leads from one place to the other
abbrev pub HasLink : List Link → ℕ → ℕ → Type 0
HasLink links i j = Contains links (link i j)

-- the place has a step
abbrev pub HasStep : List Step → ℕ → Type 0
HasStep steps place = (k : ℕ) × (k < length steps) × ((step steps k).place ≡ place)

-- the steps are over shapes: each but the first goes on to that of a linked shape, and no shape has two
pub record AreOver (shapes : List Shape) (steps : List Step) : Type 0 where
  pub within : (k : ℕ) → k < length steps → (step steps k).place < length shapes
  pub linked : Follows (LinkedAt shapes) steps
  pub differ : StepsDiffer steps

-- the place is marked as one that has a step
abbrev pub IsSeen : List Bool → ℕ → Type 0
IsSeen seen place = slice_index_or seen place false ≡ true

-- how many places have none
abbrev pub unseen : List Bool → ℕ
unseen seen = sum_by (λ b. if b then 0 else 1) seen

-- steps along links, each but the first behind another, and the places that have one are marked
pub record IsSearch (links : List Link) (steps : List Step) (seen : List Bool) : Type 0 where
  pub some : 0 < length steps
  pub falls : Falls steps
  pub follows : Follows (HasLink links) steps
  pub differ : StepsDiffer steps
  pub told : (k : ℕ) → k < length steps → IsSeen seen (step steps k).place
  pub found : (place : ℕ) → IsSeen seen place → HasStep steps place
  pub room : length steps + unseen seen ≡ length seen

-- a search goes on: its steps stay, and new ones stand behind them
pub record GoesOn (steps more : List Step) (seen now : List Bool) : Type 0 where
  pub many : length steps ≤ length more
  pub kept : (k : ℕ) → k < length steps → step more k ≡ step steps k
  pub places : length seen ≡ length now
  pub marked : (place : ℕ) → IsSeen seen place → IsSeen now place

-- along each link of the place the other end is reached
abbrev pub Spread : List Link → List Bool → ℕ → Type 0
Spread links seen place = (end : ℕ) → HasLink links place end → IsSeen seen end

-- the links lead to the first n places alone
abbrev pub EndWithin : List Link → ℕ → Type 0
EndWithin links n = (i j : ℕ) → HasLink links i j → j < n

-- the first of the links that lead from a place or from a later one
pub record IsFirstFrom (links : List Link) (place first : ℕ) : Type 0 where
  pub within : first ≤ length links
  pub below : (k : ℕ) (d : Link) → k < first → (slice_index_or links k d).from < place
  pub behind : (k : ℕ) (d : Link) → first ≤ k → k < length links → place ≤ (slice_index_or links k d).from
