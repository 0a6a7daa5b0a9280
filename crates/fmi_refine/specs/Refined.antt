-- Partitions of the states, each finer than the one before, until none changes.
use Rattle.std.specs.Prelude.{◌≡◌, ◌<◌, ◌⊎◌, ℕ, suc, ◌-◌, List, [], ◌∷◌, length}
use Rattle.std.specs.List.{slice_index_or}
use Rattle.fsm_merge.specs.Numbering.{nth, IsNumbering}
use Rattle.fmi_refine.specs.declared.round.Move.{Move}
use Rattle.fmi_refine.specs.declared.round.Partition.{Partition}
use Rattle.fmi_refine.specs.Rows.{vectors_of, move_at, AreSame}

-- Of the first m states, those are in one class that the classes before didn't tell apart; the least of each is kept.
pub record IsRefined (rows : List (List Move)) (classes : List ℕ) (m : ℕ) (state_of kept : List ℕ) : Type 0 where
  pub numbered : IsNumbering m state_of kept
  pub alike : (s : ℕ) → s < m → AreSame rows classes (nth kept (nth state_of s)) s
  pub apart : (p q : ℕ) → p < q → q < length kept → AreSame rows classes (nth kept p) (nth kept q) → ⊥

-- partition number r
abbrev pub level : List Partition → ℕ → Partition
level levels r = slice_index_or levels r (record { state_of = []; kept = [] })

-- The first has one class, and each next one tells apart what it doesn't, and has more classes.
pub record AreLevels (rows : List (List Move)) (levels : List Partition) : Type 0 where
  pub some : 0 < length levels
  pub first : (s t : ℕ) → nth (level levels 0).state_of s ≡ nth (level levels 0).state_of t
  pub numbered : (r : ℕ) → r < length levels → IsNumbering (length rows) (level levels r).state_of (level levels r).kept
  pub refined : (r : ℕ) → suc r < length levels
      → IsRefined rows (level levels r).state_of (length rows) (level levels (suc r)).state_of (level levels (suc r)).kept
  pub more : (r : ℕ) → r < length levels → r < length (level levels r).kept

abbrev pub last_level : List Partition → Partition
last_level levels = level levels (length levels - 1)

-- the moves of two states in one class of the last are alike under each vector
abbrev pub IsStable : List (List Move) → List Partition → Type 0
IsStable rows levels =
    (s t : ℕ) → s < length rows → t < length rows → nth (last_level levels).state_of s ≡ nth (last_level levels).state_of t
    → AreSame rows (last_level levels).state_of s t

-- the vectors lead from s and t to moves, of which the last have different outputs
abbrev pub Tells : List (List Move) → ℕ → ℕ → List ℕ → Type 0
Tells rows s t [] = ⊥
Tells rows s t (v ∷ rest) =
    (v < vectors_of rows)
    × ((((move_at rows s v).outs ≡ (move_at rows t v).outs → ⊥) × (rest ≡ [])) ⊎ Tells rows (move_at rows s v).next (move_at rows t v).next rest)
