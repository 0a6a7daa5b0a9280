-- Nets that were routed one after another, and the one that got stuck.
use Rattle.std.specs.Prelude.{◌≡◌, ℕ, List, [], ◌∷◌, ◌++◌, Option, None, Some, length, reverse, slice_get, if◌then◌else◌}
use Prim.Native.Nat.{suc}
use Rattle.std.specs.List.{flat_map}
use Rattle.vlsi_base.specs.declared.name.Name.{Name}
use Rattle.vlsi_base.specs.declared.name.Terminal.{Terminal}
use Rattle.sym_geom.specs.declared.item.Instance.{Instance}
use Rattle.cell_model.specs.Library.{Library, cell_of}
use Rattle.net_meaning.specs.Netlist.{AbstractNetlist, port, pin_of}
use Rattle.ocp_rows.specs.Placement.{Placement, net_count}
use Rattle.net_drawing.specs.Drawing.{Numbering, on_net}
use Rattle.grid_core.specs.declared.grid.Node.{Node}
use Rattle.grid_core.specs.Routes.{NetRoutes}
use Rattle.grid_core.specs.Trees.{AreDone, IsNetOrder, IsStuckAt}
use Rattle.maze_drawing.specs.Points.{grid_over, signal_names, net_nodes, reserved}
use Rattle.maze_nets.specs.Nets.{half_box}

-- half the perimeter of the box of net k's points, in steps of the grid
abbrev pub net_reach : AbstractNetlist → Library → Numbering → Placement → List Instance → ℕ → ℕ
net_reach n l net p instances k = half_box (net_nodes n l net p instances k)

-- ---- terminals, in the order of points

abbrev pub port_terminals : Option Name → List Terminal
port_terminals None = []
port_terminals (Some name) = port name ∷ []

abbrev pub instance_terminals : AbstractNetlist → Library → Numbering → ℕ → Instance → List Terminal
instance_terminals n l net k i =
    flat_map (λ pin. if on_net n net k (pin_of i.name pin) then pin_of i.name pin ∷ [] else []) (signal_names (cell_of l i.model))

-- the terminals of net k: its port, then the pins in the order of instances and of names
abbrev pub net_terminals : AbstractNetlist → Library → Numbering → Placement → List Instance → ℕ → List Terminal
net_terminals n l net p instances k = port_terminals (slice_get p.ports k) ++ flat_map (instance_terminals n l net k) instances

-- ---- routes

-- The nets were taken by half perimeter, then by number, and each got a whole tree of least paths beside those before it.
pub record AreInOrder (n : AbstractNetlist) (l : Library) (net : Numbering) (p : Placement) (instances : List Instance) (metals : ℕ)
    (routes : NetRoutes) : Type 0 where
  pub order : List ℕ
  pub sorted : IsNetOrder (net_reach n l net p instances) (net_count n) order
  pub done : AreDone (grid_over metals l p) (reserved n l net p instances) (net_nodes n l net p instances) (net_count n) routes (reverse order)

-- They were taken so up to net k, which got stuck: no free path leads from its tree to the node of the terminal, which is the first that
-- it lacks: the tree has a path, or its start, for each terminal before it.
pub record IsStuckBefore (n : AbstractNetlist) (l : Library) (net : Numbering) (p : Placement) (instances : List Instance) (metals : ℕ)
    (routes : NetRoutes) (k : ℕ) (terminal : Terminal) : Type 0 where
  pub earlier : List ℕ
  pub later : List ℕ
  pub sorted : IsNetOrder (net_reach n l net p instances) (net_count n) (reverse earlier ++ k ∷ later)
  pub at : ℕ
  pub point : Node
  pub named : slice_get (net_terminals n l net p instances k) at ≡ Some terminal
  pub numbered : slice_get (net_nodes n l net p instances k) at ≡ Some point
  pub stuck : IsStuckAt (grid_over metals l p) (reserved n l net p instances) (net_nodes n l net p instances) (net_count n) routes earlier later k point
  pub number : suc (length stuck.tree.paths) ≡ at
