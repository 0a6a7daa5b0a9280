use Rattle.std.proofs.Common.{◌≡◌, ◌++◌, ◌∷◌, List, [], Option, Some, length, length-append, sym, ap, subst, ◌∙◌, arith}
use Rattle.std.specs.Prelude.{option_map}
use Rattle.std.specs.Option.{option_copied}
use Rattle.std.proofs.lemmas.Option.{slice_get-get_or, slice_get_within}
use Rattle.grid_core.specs.declared.grid.Node.{Node}
use Rattle.grid_core.specs.Routes.{Tree}
use Rattle.grid_core.specs.Shown.{shown_tree, tree_in}
use Rattle.maze_drawing.specs.Wiring.{IsWiringOf}
use Rattle.maze_nets.specs.declared.points.NetPoints.{NetPoints}
use Rattle.maze_wires.specs.declared.wires.NetWires.{NetWires}
use Rattle.maze_wires.specs.Shown.{shown_net}
use Rattle.net_core.specs.Places.{Stands}
use Rattle.route_draw.specs.GridPieces.{via_points, wiring_in}
use Rattle.route_draw.proofs.Lists.{wired_more}
use Rattle.route_draw.proofs.grid_nets.all_wires.Goals as goal

pub loop-k-preserved : goal.loop-k-preserved
loop-k-preserved c =
    let k = c.loop-k.k in
    let nets = c.args.nets.now in
    let x = c.index-nets-k.result in
    let made = c.loop-k.made.items in
    let net = c.in_ok-net.net in
    let at : Stands nets k x = slice_get-get_or nets k x c.loop-k-test.true ∙ ap (λ (y : NetPoints). Some y) (sym c.index-nets-k.is) in
    let more : c.push.new.self.items ≡ made ++ net ∷ [] = c.in_ok-push.ensures.items in
    let long : length made ≡ k = c.loop-k.invariant.many in
    let one : IsWiringOf (tree_in c.args.routes.now k) (via_points x) (shown_net net) =
    subst (λ (t : Option Tree). IsWiringOf t (via_points x) (shown_net net)) c.tree.ensures
    (subst (λ (qs : List Node). IsWiringOf (option_map shown_tree (option_copied c.tree.result)) qs (shown_net net)) c.via_points.ensures c.in_ok-net.ensures) in
    record {
      many = let a = ap length more in let b = length-append made (net ∷ []) in omega (arith, a, b, long);
      each = λ j y low s.
          subst (λ (ws : List NetWires). IsWiringOf (tree_in c.args.routes.now j) (via_points y) (wiring_in ws j)) (sym more)
          (wired_more (tree_in c.args.routes.now) nets made net k x long at c.loop-k.invariant.each one j y low s);
    }

pub returns : goal.returns
returns c = record {
  many = let a = c.loop-k.invariant.many in let b = c.loop-k.auto.k-end in let d = c.loop-k-test.false in omega (arith, a, b, d);
  each = λ j net s. c.loop-k.invariant.each j net (let a = slice_get_within c.args.nets.now j net s in let d = c.loop-k-test.false in omega (arith, a, d)) s;
}
