-- The figure of a netlist in rows without routes can be written.
use Rattle.maze_drawing.specs.Law.{RoutesKeepNets, RoutesShowNetlist}
use Rattle.ocp_grid.specs.Law.{PlacementsAreInRows}
use Rattle.ocp_grid.proofs.Apart.{no_routes}
use Rattle.route_draw.specs.Law.{PlacedDrawingCanBeWritten}
use Rattle.route_draw.proofs.Bare.{drawable, as_grid}
use Rattle.route_draw.proofs.GridWritten.{grid_written}

pub placed_written : PlacementsAreInRows → RoutesKeepNets → RoutesShowNetlist → PlacedDrawingCanBeWritten
placed_written in_rows keep show l n p f placed named short few ports drawn =
    grid_written in_rows l n p no_routes f placed (drawable l n p placed in_rows keep) named short few ports (as_grid l n p placed in_rows keep show f drawn)
