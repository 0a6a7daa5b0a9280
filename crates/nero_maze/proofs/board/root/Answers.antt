use Rattle.std.proofs.Common.{◌<◌, length, arith}
use Rattle.nero_maze.proofs.Holding.{holds_more, hulls_with, other_own}
use Rattle.nero_maze.proofs.board.root.Goals as goal

pub returns-clause-holds : goal.returns-clause-holds
returns-clause-holds c =
    let r = c.args.board.now.room in
    let o = r.owners.items in
    let l = r.links.items in
    let lt : c.args.node < length o = (let e = c.requires.sound.room.owners in let h = c.requires.node in omega arith) in
    let own = holds_more r.grid c.nowhere.result c.with_node-hull.result o l c.args.net c.args.node 9 (λ v own. absurd (c.requires.alone v own))
    c.with_node-hull.ensures.holds c.with_node-hull.ensures.kept in
    rw c.keep_hull.ensures (hulls_with r.grid c.args.board.now.hulls.items c.with_node-hull.result o l _ _ c.args.net c.requires.sound.holds own
    (λ k v ne mine. other_own o l c.args.net c.args.node 9 k v lt ne mine))
