use Rattle.std.proofs.Common.{ℕ, ◌≡◌, ◌≢◌, ◌+◌, ◌-◌, ◌%◌, ◌<◌, length, set, slice_index, arith, sym, subst}
use Rattle.nero_maze.specs.Search.{Kept}
use Rattle.nero_maze.proofs.Theory.{read_at, Kept-again}
use Rattle.nero_maze.proofs.frontier.settle.Goals as goal

pub returns : goal.returns
returns c =
    let ord = c.args.frontier.now.order.items in
    let m = c.args.frontier.now.marks.items in
    let n = c.args.frontier.now.count in
    let at = c.args.at in
    let node = c.index-node.result.now in
    let x = c.index_mut.result.now in
    let k = c.requires.kept in
    let lt : at < n = c.requires.at in
    let same = k.same in
    let full = k.full in
    let lt_o : at < length ord = omega arith in
    let e = read_at ord at node lt_o c.index-node.ensures in
    let listed = k.listed at lt in
    let lt_m : node < length m = rw (← e) listed in
    let is = read_at m node x lt_m c.index_mut.ensures.value in
    let ne : slice_index m node ≢ 0 = rw (← e) (k.marked at lt) in
    let live : slice_index m node % 8 ≢ 0 = rw (← e) c.requires.live in
    let less : x % 8 - 1 + 1 ≡ x % 8 = omega arith in
    let kept : Kept ord (set m node (x % 8)) n = subst (λ (y : ℕ). Kept ord (set m node y) n) less (Kept-again ord m n node (x % 8 - 1) k lt_m ne) in
    record {
      kept = kept;
      order = sym (let r : ord ≡ ord = cc in r);
      count = sym (let r : n ≡ n = cc in r);
      marks = rw (e, is) (let r : set m node (x % 8) ≡ set m node (x % 8) = cc in r);
    }
