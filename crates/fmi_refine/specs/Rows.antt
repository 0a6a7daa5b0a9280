-- Moves of states under numbered vectors, and states that a partition doesn't tell apart.
use Rattle.std.specs.Prelude.{◌≡◌, ◌<◌, ◌^◌, ℕ, List, [], length}
use Rattle.std.specs.List.{slice_index_or}
use Rattle.fsm_merge.specs.Numbering.{nth}
use Rattle.fmi_refine.specs.declared.round.Move.{Move}

-- the moves of a state, one for each vector
abbrev pub row_at : List (List Move) → ℕ → List Move
row_at rows s = slice_index_or rows s []

-- the move of a row under a vector
abbrev pub move_in : List Move → ℕ → Move
move_in row v = slice_index_or row v (record { outs = 0; next = 0 })

-- the move of a state under a vector
abbrev pub move_at : List (List Move) → ℕ → ℕ → Move
move_at rows s v = move_in (row_at rows s) v

-- how many vectors there are
abbrev pub vectors_of : List (List Move) → ℕ
vectors_of rows = length (row_at rows 0)

-- Rows of one length, one for each state; each move leads to one of these states.
pub record AreRows (rows : List (List Move)) : Type 0 where
  pub some : 0 < length rows
  pub few : length rows < 2 ^ 32
  pub counted : vectors_of rows < 2 ^ 32
  pub each : (s : ℕ) → s < length rows → length (row_at rows s) ≡ vectors_of rows
  pub known : (s v : ℕ) → s < length rows → v < vectors_of rows → (move_at rows s v).next < length rows

-- two moves with the same outputs, to states of one class
pub record AreAlike (classes : List ℕ) (a b : Move) : Type 0 where
  pub outs : a.outs ≡ b.outs
  pub next : nth classes a.next ≡ nth classes b.next

-- two states of one class whose moves are alike under each vector
pub record AreSame (rows : List (List Move)) (classes : List ℕ) (s t : ℕ) : Type 0 where
  pub one : nth classes s ≡ nth classes t
  pub alike : (v : ℕ) → v < vectors_of rows → AreAlike classes (move_at rows s v) (move_at rows t v)
