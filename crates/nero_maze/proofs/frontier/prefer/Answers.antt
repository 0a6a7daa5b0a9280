use Rattle.std.proofs.Common.{ℕ, ◌≡◌, ◌≢◌, ◌+◌, ◌-◌, set, slice_index, arith, subst}
use Rattle.nero_maze.specs.Search.{Kept}
use Rattle.nero_maze.proofs.frontier.prefer.Goals as goal
use Rattle.nero_maze.proofs.Theory.{Kept-again}

pub returns-then-sum-clause-kept : goal.returns-then-sum-clause-kept
returns-then-sum-clause-kept c =
    let ord = c.args.frontier.now.order.items in
    let m = c.args.frontier.now.marks.items in
    let n = c.args.frontier.now.count in
    let fresh = c.requires.fresh in
    let high = c.requires.mark in
    let ne : slice_index m c.args.node ≢ 0 = omega arith in
    let same : c.args.mark - 1 + 1 ≡ c.args.mark = omega arith in
    subst (λ (x : ℕ). Kept ord (set m c.args.node x) n) same (Kept-again ord m n c.args.node (c.args.mark - 1) c.requires.kept c.requires.below ne)
