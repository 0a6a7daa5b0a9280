-- The nodes of a table, without where they lie in memory.
use Rattle.std.specs.Prelude.{ℕ, ◌+◌, List, map, length}
use Rattle.graph_theory.specs.Graph.{Node, fixed, inv, nand}
use Rattle.subject_table.specs.declared.table.Node.{Node as Kind}
use Rattle.subject_table.specs.declared.table.Node.TheVariants as kind
use Rattle.subject_table.specs.declared.table.Table.{Table}

-- a node, and the nodes of a table in their order
abbrev pub node_view : Kind → Node
node_view (kind.Fixed b) = fixed b
node_view (kind.Inv a) = inv a
node_view (kind.Nand a b) = nand a b

abbrev pub kinds : Table → List Node
kinds t = map node_view t.nodes.keys

-- one past the last number
abbrev pub end_of : Table → ℕ
end_of t = t.held + length (kinds t)
