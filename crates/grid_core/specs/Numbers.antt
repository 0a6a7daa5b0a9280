-- The nodes of a grid by number: metal by metal, row by row.
use Rattle.std.specs.Prelude.{ℕ, ◌+◌, ◌-◌, ◌*◌, ◌/◌, ◌%◌}
use Rattle.grid_core.specs.declared.grid.Grid.{Grid}
use Rattle.grid_core.specs.declared.grid.Node.{Node}

-- the nodes of one metal, and all of them
abbrev pub plane : Grid → ℕ
plane g = g.columns * g.rows

abbrev pub nodes : Grid → ℕ
nodes g = plane g * (g.metals - 1)

-- the number of a node, and the node with a number
abbrev pub number : Grid → Node → ℕ
number g p = (p.metal - 2) * plane g + (p.row * g.columns + p.column)

abbrev pub node_of : Grid → ℕ → Node
node_of g u = record { metal = u / plane g + 2; column = u % plane g % g.columns; row = u % plane g / g.columns }
