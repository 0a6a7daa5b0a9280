-- What the pass keeps.
use Rattle.std.specs.Prelude.{◌≡◌, ℕ, ◌+◌, ◌<◌, ◌≤◌, Bool, List, [], ◌∷◌, length, Option, None, Some}
use Rattle.cell_match.specs.declared.gate.CellWord.{CellWord}
use Rattle.cell_match.specs.declared.gate.Gate.{Gate}
use Rattle.cell_match.specs.Places.{times}
use Rattle.boog_tight.specs.Cover.{gate_at, leaves_of, uses, IsCover, AreTrue}

-- how many gates there are
abbrev pub one_of : Option Gate → ℕ
one_of None = 0
one_of (Some g) = 1

abbrev pub live : List (Option Gate) → ℕ
live [] = 0
live (g ∷ gates) = one_of g + live gates

-- how many pins the gates read
abbrev pub leaf_count : List (Option Gate) → ℕ
leaf_count [] = 0
leaf_count (g ∷ gates) = length (leaves_of g) + leaf_count gates

-- the gate of node a reads node x, itself or by way of the gates of nodes that it reads
pub data ReadsThrough (gates : List (Option Gate)) : ℕ → ℕ → Type 0 where
  pin : {a x : ℕ} → 0 < times x (leaves_of (gate_at gates a)) → ReadsThrough gates a x
  through : {a b x : ℕ} → ReadsThrough gates a b → ReadsThrough gates b x → ReadsThrough gates a x

-- each node that has a gate is read by a pin or a root
abbrev pub EachIsUsed : List (Option Gate) → List ℕ → Type 0
EachIsUsed gates roots = (a : ℕ) (g : Gate) → gate_at gates a ≡ Some g → 0 < uses gates roots a

-- The second gates are a cover too. They show no node that the first do not, and read none that the first do not read from there;
-- they have no more pins, and are used where the first are. Wherever the first give each node the bit that it has, so do the second.
pub record Keeps (cells : List CellWord) (given : ℕ) (roots : List ℕ) (first second : List (Option Gate)) : Type 0 where
  pub cover : IsCover cells given second roots
  pub long : length second ≡ length first
  pub fewer : (x : ℕ) → gate_at first x ≡ None → gate_at second x ≡ None
  pub read : (a x : ℕ) → 0 < times x (leaves_of (gate_at second a)) → ReadsThrough first a x
  pub pins : leaf_count second ≤ leaf_count first
  pub needed : EachIsUsed first roots → EachIsUsed second roots
  pub same : (f : ℕ → Bool) → AreTrue cells first f → AreTrue cells second f
