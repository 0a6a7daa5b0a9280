-- Access nodes and access points, as they are kept in memory.
use Rattle.std.specs.Prelude.{ℕ, zero, suc, ◌*◌, pos, List, [], ◌∷◌, ◌++◌, if◌then◌else◌}
use Rattle.vlsi_base.specs.declared.name.Name.{Name}
use Rattle.sym_geom.specs.declared.grid.TheConstants.{PITCH}
use Rattle.cell_model.specs.Cell.{Cell}
use Rattle.cell_model.specs.Access.{Point, is_access_node}
use Rattle.cell_checks.specs.declared.points.GridPoint.{GridPoint}

abbrev pub point_of : GridPoint → Point
point_of q = (pos q.x, pos q.y)

-- the access nodes of a pin in the first n rows of a column
abbrev pub nodes_in : Cell → Name → ℕ → ℕ → List Point
nodes_in c pin a zero = []
nodes_in c pin a (suc b) =
    nodes_in c pin a b ++ (if is_access_node c pin (pos (PITCH * a), pos (PITCH * b)) then (pos (PITCH * a), pos (PITCH * b)) ∷ [] else [])

-- those in the first n columns
abbrev pub nodes_to : Cell → Name → ℕ → List Point
nodes_to c pin zero = []
nodes_to c pin (suc a) = nodes_to c pin a ++ nodes_in c pin a 11
