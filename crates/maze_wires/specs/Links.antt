-- The nodes of a path from which a step, or a via, leads to a neighbour.
use Rattle.std.specs.Prelude.{◌<◌, List, [], ◌∷◌, ◌++◌, if◌then◌else◌}
use Rattle.grid_core.specs.declared.grid.Node.{Node}
use Rattle.grid_core.specs.Grid.{ahead, above}
use Rattle.maze_drawing.specs.Merge.{place_of, is_same_node}
use Rattle.maze_wires.specs.declared.links.Next.{Next}
use Rattle.maze_wires.specs.declared.links.Next.TheVariants as next

-- where a step, or a via, leads from its lesser end
abbrev pub next_of : Next → Node → Node
next_of next.Ahead p = ahead p 1
next_of next.Above p = above p

-- a step that ends at a node in memory: its place is one less than a number of 32 bits, or lower
abbrev pub IsShort : Next → Node → Type 0
IsShort next.Ahead p = place_of p < 4294967295
IsShort next.Above p = Unit {0}

-- p, where it leads to q
abbrev pub linked : Next → Node → Node → List Node
linked n p q = if is_same_node q (next_of n p) then p ∷ [] else []

-- all of a path that begins at p, each as often as the path goes there
abbrev pub links_from : Next → Node → List Node → List Node
links_from n p [] = []
links_from n p (q ∷ rest) = linked n p q ++ (linked n q p ++ links_from n q rest)

abbrev pub links : Next → List Node → List Node
links n [] = []
links n (p ∷ rest) = links_from n p rest
