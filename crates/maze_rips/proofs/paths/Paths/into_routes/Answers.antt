use Rattle.std.proofs.Common.{◌≡◌, ◌≤◌, ◌<◌, List, Option, length, arith, sym, subst, ◌∙◌}
use Rattle.grid_core.specs.Routes.{Tree}
use Rattle.grid_core.specs.Shown.{tree_in}
use Rattle.maze_rips.specs.Paths.{laid, paths_in}
use Rattle.maze_rips.proofs.Laid.{taken_more, taken_all}
use Rattle.maze_rips.proofs.paths.Paths.into_routes.Goals as goal

pub take_tree-requires-clause-laid : goal.take_tree-requires-clause-laid
take_tree-requires-clause-laid c =
    let i = c.loop-net.net in
    let lt : i < length c.args.self = (let a = c.loop-net-test.true in let b = c.nets-nets.ensures in omega arith) in
    let (t, is) = c.requires.laid i lt in
    (t, c.loop-net.invariant.left i (omega arith) ∙ is)

pub loop-net-preserved : goal.loop-net-preserved
loop-net-preserved c =
    taken_more c.args.self c.loop-net.paths c.take_tree.new.self c.loop-net.net c.loop-net.trees.items c.push.new.self.items c.in_ok-take_tree.field-0 c.loop-net.invariant
    c.in_ok-take_tree.ensures.tree c.in_ok-take_tree.ensures.others c.in_ok-push.ensures.items

pub returns-clause-trees : goal.returns-clause-trees
returns-clause-trees c = λ k.
    let le : length c.args.self ≤ c.loop-net.net = (let a = c.loop-net-test.false in let b = c.nets-nets.ensures in omega arith) in
    subst (λ (r : List (Option Tree)). paths_in c.args.self k ≡ laid (tree_in r k)) (sym c.new.ensures.trees)
    (taken_all c.args.self c.loop-net.paths c.loop-net.net c.loop-net.trees.items c.loop-net.invariant le k)
