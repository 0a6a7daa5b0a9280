-- What a search by levels of reduced cost knows: of the cost to a node and the bound `h` of what is left from there on.
use Rattle.std.specs.Prelude.{ℕ, ◌≡◌, ◌≢◌, ◌+◌, ◌/◌, ◌%◌, ◌<◌, ◌≤◌, List, [], ◌∷◌, length, Some, slice_index}
use Rattle.grid_core.specs.declared.grid.Grid.{Grid}
use Rattle.grid_core.specs.Numbers.{nodes, plane}
use Rattle.nero_maze.specs.declared.frontier.Field.{Field}
use Rattle.nero_maze.specs.declared.frontier.Source.{Source}
use Rattle.nero_maze.specs.declared.level.Level.{Level}
use Rattle.nero_maze.specs.Ways.{weight, opposite, next, IsPlace}
use Rattle.nero_maze.specs.Hulls.{far}
use Rattle.nero_maze.specs.Search.{IsFree, LeadsTo, NoneBelow, Trace, Kept}

-- what is true of the sum of an entry's cost and its bound: entries from `first` on are of this level, those from `one` on of the last, and so on
pub record IsAtLevel (l : Level) (i sum : ℕ) : Type 0 where
  pub before : i < l.first → sum < l.sum
  pub here : l.first ≤ i → sum ≡ l.sum
  pub before1 : i < l.one → sum + 1 < l.sum
  pub from1 : l.one ≤ i → l.sum ≤ sum + 1
  pub before2 : i < l.two → sum + 2 < l.sum
  pub from2 : l.two ≤ i → l.sum ≤ sum + 2
  pub before3 : i < l.three → sum + 3 < l.sum
  pub from3 : l.three ≤ i → l.sum ≤ sum + 3
  pub before4 : i < l.four → sum + 4 < l.sum
  pub from4 : l.four ≤ i → l.sum ≤ sum + 4
  pub before5 : i < l.five → sum + 5 < l.sum
  pub from5 : l.five ≤ i → l.sum ≤ sum + 5
  pub before6 : i < l.six → sum + 6 < l.sum
  pub from6 : l.six ≤ i → l.sum ≤ sum + 6

-- a trace from a node with this mark
abbrev pub HeadTrace : Grid → List ℕ → ℕ → List ℕ → ℕ → ℕ → ℕ → List ℕ → ℕ → Type 0
HeadTrace g owners net marks target mark v [] c = (mark ≡ 5) × (v ≡ target) × (c ≡ 0)
HeadTrace g owners net marks target mark v (u ∷ back) c =
    IsFree owners net v × ((k : ℕ) × (k < 4) × (next g u k ≡ Some v)
    × (mark ≡ k + 1) × (next g v (opposite k) ≡ Some u)
    × ((b : ℕ) × Trace g owners net marks target u back b × (c ≡ b + weight k)))

-- entry `i`, whose mark is eight more while it is fresh
pub record Entry (g : Grid) (owners : List ℕ) (net : ℕ) (h : ℕ → ℕ) (marks : List ℕ) (l : Level) (i v : ℕ) : Type 0 where
  pub cost : ℕ
  pub back : List ℕ
  pub lead : HeadTrace g owners net marks l.target (slice_index marks v % 8) v back cost
  pub size : length back ≤ i
  pub least : NoneBelow g owners net l.target v cost
  pub level : IsAtLevel l i (cost + h v)

-- each path whose cost and bound are below d ends at a marked node
abbrev pub AllMarked : Grid → List ℕ → ℕ → (ℕ → ℕ) → ℕ → List ℕ → ℕ → Type 0
AllMarked g owners net h target marks d =
    (v : ℕ) (back : List ℕ) (e : ℕ) → LeadsTo g owners net target v back e → e + h v < d → slice_index marks v ≢ 0

pub record Knows (g : Grid) (owners : List ℕ) (net : ℕ) (h : ℕ → ℕ) (l : Level) (order marks : List ℕ) (n : ℕ) : Type 0 where
  pub kept : Kept order marks n
  pub size : length marks ≡ nodes g
  pub target : l.target < nodes g
  pub begun : slice_index marks l.target ≢ 0
  pub in_five : l.six ≤ l.five
  pub in_four : l.five ≤ l.four
  pub in_three : l.four ≤ l.three
  pub in_two : l.three ≤ l.two
  pub in_one : l.two ≤ l.one
  pub in_now : l.one ≤ l.first
  pub in_all : l.first ≤ n
  pub entries : (i : ℕ) → i < n → Entry g owners net h marks l i (slice_index order i)
  pub all : AllMarked g owners net h l.target marks l.sum

-- the first p entries are no longer fresh
abbrev pub Flat : List ℕ → List ℕ → ℕ → Type 0
Flat order marks p = (i : ℕ) → i < p → slice_index marks (slice_index order i) < 8

-- the first p entries have been gone on from, as far as this level
abbrev pub Spread : Grid → List ℕ → ℕ → (ℕ → ℕ) → Level → List ℕ → List ℕ → ℕ → Type 0
Spread g owners net h l order marks p =
    (j k v : ℕ) → j < p → k < 4 → next g (slice_index order j) k ≡ Some v → IsFree owners net v
    → (back : List ℕ) (b : ℕ) → LeadsTo g owners net l.target (slice_index order j) back b → b + weight k + h v ≤ l.sum
    → slice_index marks v ≢ 0

-- entries keep their places
pub record IsLonger (order : List ℕ) (n : ℕ) (order' : List ℕ) (n' : ℕ) : Type 0 where
  pub more : n ≤ n'
  pub prefix : (i : ℕ) → i < n → slice_index order' i ≡ slice_index order i

-- an entry, where it stands, and the sum that ways on from it are to have
pub record IsSource (f : Field) (order : List ℕ) (s : Source) : Type 0 where
  pub at : slice_index order s.at ≡ s.node
  pub within : s.node < nodes f.grid
  pub layer : s.place.layer ≡ s.node / plane f.grid
  pub row : s.place.row ≡ s.node % plane f.grid / f.grid.columns
  pub column : s.place.column ≡ s.node % plane f.grid % f.grid.columns
  pub place : IsPlace f.grid s.place
  pub reach : s.reach ≡ s.rise + far f.grid f.hull s.node

-- the level whose sum is one more
pub record IsNextLevel (count : ℕ) (old new : Level) : Type 0 where
  pub target : new.target ≡ old.target
  pub sum : new.sum ≡ old.sum + 1
  pub first : new.first ≡ count
  pub one : new.one ≡ old.first
  pub two : new.two ≡ old.one
  pub three : new.three ≡ old.two
  pub four : new.four ≡ old.three
  pub five : new.five ≡ old.four
  pub six : new.six ≡ old.five
