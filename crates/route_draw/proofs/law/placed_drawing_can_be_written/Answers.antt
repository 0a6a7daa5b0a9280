use Rattle.route_draw.proofs.BareWritten.{placed_written}
use Rattle.route_draw.proofs.law.placed_drawing_can_be_written.Goals as goal

pub returns : goal.returns
returns c = placed_written c.placements_are_in_rows.ensures c.routes_keep_nets.ensures c.routes_show_netlist.ensures.shown
