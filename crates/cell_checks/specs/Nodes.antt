-- The columns of a pin's access nodes, in the order of the nodes.
use Rattle.std.specs.Prelude.{◌≡◌, ◌⊎◌, ℕ, zero, suc, ◌*◌, ◌<◌, ◌≤ℤ◌, ◌+ℤ◌, pos, List, [], ◌∷◌, ◌++◌, length, get_or, Option, Some, option_map, if◌then◌else◌}
use Rattle.vlsi_base.specs.declared.name.Name.{Name}
use Rattle.machine_core.specs.Machine.{names_of}
use Rattle.sym_geom.specs.declared.grid.TheConstants.{PITCH}
use Rattle.sym_shapes.specs.Shape.{Shape}
use Rattle.cell_model.specs.Cell.{Cell, pin_ports}
use Rattle.cell_model.specs.Access.{is_access_node, access_point}
use Rattle.cell_checks.specs.Shapes.{IsReachedBy}

-- the column, once for each access node in its first n rows
abbrev pub column_nodes : Cell → Name → ℕ → ℕ → List ℕ
column_nodes c pin a zero = []
column_nodes c pin a (suc b) = column_nodes c pin a b ++ (if is_access_node c pin (pos (PITCH * a), pos (PITCH * b)) then a ∷ [] else [])

-- those of the first n columns
abbrev pub node_columns : Cell → Name → ℕ → List ℕ
node_columns c pin zero = []
node_columns c pin (suc a) = node_columns c pin a ++ column_nodes c pin a 11

-- the first of them, more than this rank, or all
pub record IsFront (c : Cell) (pin : Name) (columns rank : ℕ) (nodes : List ℕ) : Type 0 where
  pub rest : List ℕ
  pub all : nodes ++ rest ≡ node_columns c pin columns
  pub enough : (rank < length nodes) ⊎ (rest ≡ [])

-- the shape is a connector of this name on metal 1 that holds a pad about a point of the grid, and pads in this column
pub record HoldsColumn (name : Name) (column : ℕ) (s : Shape) : Type 0 where
  pub reached : IsReachedBy name s
  pub left : (s.rect.x1 +ℤ pos 100) ≤ℤ pos (PITCH * column)
  pub right : (pos (PITCH * column) +ℤ pos 100) ≤ℤ s.rect.x2

-- the pin is reached in this column, or nowhere
abbrev pub IsReachedAt : Cell → Name → Option ℕ → Type 0
IsReachedAt c pin column = option_map (λ q. q.0) (access_point c pin) ≡ option_map (λ a. pos (PITCH * a)) column

-- the columns in which the pins are reached
pub record AreReachedAt (c : Cell) (columns : List (Option ℕ)) : Type 0 where
  pub many : length columns ≡ length (names_of (pin_ports c))
  pub each : (i : ℕ) (d : Name) (e : Option ℕ) → i < length columns → IsReachedAt c (get_or (names_of (pin_ports c)) i d) (get_or columns i e)
