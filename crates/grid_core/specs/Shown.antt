-- What the routes in memory are.
use Rattle.std.specs.Prelude.{List, map, Option, None, Some, option_map, slice_get}
use Rattle.grid_core.specs.declared.routes.NetTree.{NetTree}
use Rattle.grid_core.specs.Routes.{Tree, NetRoutes}

abbrev pub shown_tree : NetTree → Tree
shown_tree t = record { start = t.start; paths = map (λ path. path.items) t.paths.items }

abbrev pub shown_routes : List (Option NetTree) → List (Option Tree)
shown_routes trees = map (option_map shown_tree) trees

-- the tree of a net by its number
abbrev pub joined : Option (Option Tree) → Option Tree
joined None = None
joined (Some t) = t

abbrev pub tree_in : List (Option Tree) → NetRoutes
tree_in trees net = joined (slice_get trees net)
