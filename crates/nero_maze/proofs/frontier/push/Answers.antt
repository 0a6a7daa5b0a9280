use Rattle.std.proofs.Common.{◌≡◌, ◌+◌, ◌-◌, arith, subst, ℕ, set}
use Rattle.nero_maze.specs.Search.{Kept}
use Rattle.nero_maze.proofs.frontier.push.Goals as goal
use Rattle.nero_maze.proofs.Theory.{room, Kept-more}

pub index_mut-requires-2 : goal.index_mut-requires-2
index_mut-requires-2 c =
    let r = room c.args.marked.now.order.items c.args.marked.now.marks.items c.args.marked.now.count c.args.node c.requires.kept c.requires.below c.requires.unmarked in
    let e = c.requires.kept.same in
    omega arith

pub returns-clause-kept : goal.returns-clause-kept
returns-clause-kept c =
    let same : c.args.mark - 1 + 1 ≡ c.args.mark = (let h = c.requires.mark in omega arith) in
    let h = Kept-more c.args.marked.now.order.items c.args.marked.now.marks.items c.args.marked.now.count c.args.node (c.args.mark - 1) c.requires.kept c.requires.below c.requires.unmarked in
    subst (λ (x : ℕ). Kept (set c.args.marked.now.order.items c.args.marked.now.count c.args.node) (set c.args.marked.now.marks.items c.args.node x) (c.args.marked.now.count + 1)) same h
