-- Pins of one cell that are reached in one column.
use Rattle.std.specs.Prelude.{◌≡◌, ◌<◌, ℕ, ℤ, List, length, Any, AllPairs, take, slice_get, slice_index_or, Option, None, Some}
use Rattle.vlsi_base.specs.declared.name.Name.{Name}
use Rattle.machine_core.specs.Machine.{names_of}
use Rattle.cell_model.specs.Cell.{Cell, pin_ports}
use Rattle.cell_model.specs.Access.{access_point}

-- of a cell's signal pins in the order of names, those at two places are reached in one column
pub record ShareAColumn (c : Cell) (i j : ℕ) : Type 0 where
  pub one : Name
  pub other : Name
  pub one_stands : slice_get (names_of (pin_ports c)) i ≡ Some one
  pub other_stands : slice_get (names_of (pin_ports c)) j ≡ Some other
  pub x : ℤ
  pub y : ℤ
  pub z : ℤ
  pub one_point : access_point c one ≡ Some (x, y)
  pub other_point : access_point c other ≡ Some (x, z)

-- the place of the first pin of a cell, in the order of names, that is reached in the column of an earlier one
pub record IsSharedAt (c : Cell) (place : ℕ) : Type 0 where
  pub within : place < length c.pins
  pub earlier : ℕ
  pub before : earlier < place
  pub shares : ShareAColumn c earlier place
  pub first : (i j : ℕ) → i < j → j < place → ShareAColumn c i j → ⊥

-- ---- by the columns in which the pins are reached, if they are

-- both are there, and are one column
abbrev pub AreOne : Option ℕ → Option ℕ → Type 0
AreOne None b = ⊥
AreOne (Some a) None = ⊥
AreOne (Some a) (Some b) = a ≡ b

-- a column is an earlier one, and none before it is
pub record IsRepeatedAt (columns : List (Option ℕ)) (j : ℕ) : Type 0 where
  pub within : j < length columns
  pub earlier : Any (λ a. AreOne a (slice_index_or columns j None)) (take j columns)
  pub first : (p q : ℕ) (d : Option ℕ) → p < q → q < j → AreOne (slice_index_or columns p d) (slice_index_or columns q d) → ⊥

-- none is
abbrev pub AreAllOther : List (Option ℕ) → Type 0
AreAllOther columns = AllPairs (λ a b. AreOne a b → ⊥) columns
