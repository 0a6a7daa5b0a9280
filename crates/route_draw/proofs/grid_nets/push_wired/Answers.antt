use Rattle.std.proofs.Common.{◌≡◌, ◌++◌, Option, ap, ◌∙◌}
use Rattle.std.specs.Prelude.{slice_get}
use Rattle.std.specs.Option.{option_copied}
use Rattle.vlsi_base.specs.declared.name.Name.{Name}
use Rattle.maze_drawing.specs.Wiring.{net_items}
use Rattle.maze_wires.specs.Shown.{shown_net}
use Rattle.route_draw.specs.GridPieces.{wires_of}
use Rattle.route_draw.proofs.Lists.{got, one_step}
use Rattle.route_draw.proofs.grid_nets.push_wired.Goals as goal

pub loop-k-preserved : goal.loop-k-preserved
loop-k-preserved c =
    let name : option_copied c.get.result ≡ slice_get c.args.names.now c.loop-k.k = got c.args.names.now c.loop-k.k c.get.result c.get.ensures.lookup in
    one_step (wires_of c.args.names.now) c.args.nets.now c.loop-k.k c.index-nets-k.result _ c.loop-k.items _ c.loop-k-test.true c.index-nets-k.is
    (c.in_ok-push_net.ensures ∙ ap (λ (o : Option Name). c.loop-k.items ++ net_items o (shown_net c.index-nets-k.result)) name)
    c.loop-k.invariant
