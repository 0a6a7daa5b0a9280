-- Cuts that differ only in which gates of the tree they read, and lists in which the cheaper of two such cuts is kept.
use Rattle.std.specs.Prelude.{◌≡◌, ◌⊎◌, ℕ, ◌<◌, ◌≤◌, Bool, true, List, length, slice_index}
use Rattle.net_theory.specs.Sources.{IsNumber}
use Rattle.cell_match.specs.declared.cut.Cut.{Cut}
use Rattle.boog_cuts.specs.Cuts.{IsUnion}
use Rattle.boog_cuts.specs.Lists.{IsNandMade}
use Rattle.boog_tree.specs.Sums.{inner_sum}

-- a member may stand where another does: it is the same, or both lie in the tree
abbrev pub MayStand : (ℕ → Bool) → ℕ → ℕ → Type 0
MayStand inner x y = (x ≡ y) ⊎ ((inner x ≡ true) × (inner y ≡ true))

pub record HaveAlike (inner : ℕ → Bool) (first second : List ℕ) : Type 0 where
  pub many : length first ≡ length second
  pub each : (i : ℕ) → i < length first → MayStand inner (slice_index first i) (slice_index second i)

-- the same function, and place by place the same members, or two that lie in the tree
pub record AreAlike (inner : ℕ → Bool) (c d : Cut 6) : Type 0 where
  pub word : c.word.word ≡ d.word.word
  pub members : HaveAlike inner c.leaves.items d.leaves.items

-- a cut of the list is like this one, and stands at this place
abbrev pub HasAlikeAt : (ℕ → Bool) → List (Cut 6) → ℕ → Cut 6 → Type 0
HasAlikeAt inner cuts at d = (c : Cut 6) × IsNumber cuts at c × AreAlike inner c d

-- a cut of the list is like this one, and its members in the tree cost no more
pub record HasAsGood (inner : ℕ → Bool) (b : ℕ → ℕ) (cuts : List (Cut 6)) (d : Cut 6) : Type 0 where
  pub place : ℕ
  pub cut : Cut 6
  pub at : IsNumber cuts place cut
  pub alike : AreAlike inner cut d
  pub least : inner_sum inner b cut.leaves.items ≤ inner_sum inner b d.leaves.items

-- the list got one cut more, but for what another is as good as
pub record IsKept (inner : ℕ → Bool) (b : ℕ → ℕ) (old : List (Cut 6)) (d : Cut 6) (new : List (Cut 6)) : Type 0 where
  pub sound : (i : ℕ) (c : Cut 6) → IsNumber new i c → IsNumber old i c ⊎ (c ≡ d)
  pub before : (i : ℕ) (c : Cut 6) → IsNumber old i c → HasAsGood inner b new c
  pub itself : HasAsGood inner b new d

-- the list has a cut as good as what the two give, unless they have too many members together
abbrev pub HasGoodJoint : (ℕ → Bool) → (ℕ → ℕ) → Cut 6 → Cut 6 → List (Cut 6) → Type 0
HasGoodJoint inner b first second cuts = (nodes : List ℕ) → IsUnion first.leaves.items second.leaves.items nodes → length nodes ≤ 6
    → (d : Cut 6) × IsNandMade first second d × HasAsGood inner b cuts d

-- the list got what a cut gives with each of these
pub record IsKeptFrom (inner : ℕ → Bool) (b : ℕ → ℕ) (old : List (Cut 6)) (first : Cut 6) (seconds new : List (Cut 6)) : Type 0 where
  pub sound : (i : ℕ) (c : Cut 6) → IsNumber new i c
      → IsNumber old i c ⊎ ((j : ℕ) × (second : Cut 6) × IsNumber seconds j second × IsNandMade first second c)
  pub before : (i : ℕ) (c : Cut 6) → IsNumber old i c → HasAsGood inner b new c
  pub every : (j : ℕ) (second : Cut 6) → IsNumber seconds j second → HasGoodJoint inner b first second new

-- and what each of these gives with each of those
pub record AreKept (inner : ℕ → Bool) (b : ℕ → ℕ) (firsts seconds cuts : List (Cut 6)) : Type 0 where
  pub sound : (k : ℕ) (c : Cut 6) → IsNumber cuts k c
      → (i j : ℕ) × (first second : Cut 6) × IsNumber firsts i first × IsNumber seconds j second × IsNandMade first second c
  pub every : (i j : ℕ) (first second : Cut 6) → IsNumber firsts i first → IsNumber seconds j second → HasGoodJoint inner b first second cuts
