use Rattle.std.proofs.Common.{◌<◌, ◌≤◌, length, get_or, ℕ, List, arith, ap, sym, ◌∙◌}
use Rattle.bit_order.specs.Order.{reads_of}
use Rattle.bit_order.proofs.Turning.{lists, lists_length, last_inside, reads_of_list, read_inside, next_read, finished_goes}
use Rattle.bit_order.proofs.walk.Walk.turn.Goals as goal

pub index-next-requires : goal.index-next-requires
index-next-requires c =
    let low = last_inside (lists c.args.reads.now) c.args.self.now c.last-node.result c.requires.walk c.last-node.ensures in
    let counted = c.requires.walk.counted in
    omega arith

pub bounds-reads-node : goal.bounds-reads-node
bounds-reads-node c =
    let low = last_inside (lists c.args.reads.now) c.args.self.now c.last-node.result c.requires.walk c.last-node.ensures in
    omega (arith, lists_length c.args.reads.now)

pub step-requires-clause-inside : goal.step-requires-clause-inside
step-requires-clause-inside c =
    let low = last_inside (lists c.args.reads.now) c.args.self.now c.last-node.result c.requires.walk c.last-node.ensures in
    let inside : c.last-node.result < length c.args.reads.now = omega (arith, lists_length c.args.reads.now) in
    let at = c.in-Some.ensures.lookup.3 in
    read_inside c.args.reads.now c.last-node.result c.index-next.result.now c.in-Some.read.now c.index-reads-node.result c.requires.inside c.index-reads-node.is inside (omega (arith, at.0, ap length c.deref.ensures.value)) (at.1 0 ∙ ap (λ (xs : List ℕ). get_or xs c.index-next.result.now 0) c.deref.ensures.value)

pub step-requires-clause-at : goal.step-requires-clause-at
step-requires-clause-at c =
    let low = last_inside (lists c.args.reads.now) c.args.self.now c.last-node.result c.requires.walk c.last-node.ensures in
    let counted = c.requires.walk.counted in
    next_read c.args.self.now.nexts.items c.last-node.result c.index-next.result.now c.index-next.ensures (omega arith)

pub step-requires-clause-read : goal.step-requires-clause-read
step-requires-clause-read c =
    let low = last_inside (lists c.args.reads.now) c.args.self.now c.last-node.result c.requires.walk c.last-node.ensures in
    let inside : c.last-node.result < length c.args.reads.now = omega (arith, lists_length c.args.reads.now) in
    let list = reads_of_list c.args.reads.now c.last-node.result c.index-reads-node.result c.index-reads-node.is inside ∙ sym c.deref.ensures.value in
    record {
      inside = omega (arith, ap length list, c.in-Some.ensures.lookup.3.0);
      is = ap (λ (xs : List ℕ). get_or xs c.index-next.result.now 0) list ∙ sym (c.in-Some.ensures.lookup.3.1 0);
    }

pub finish-requires-clause-inside : goal.finish-requires-clause-inside
finish-requires-clause-inside c =
    let low = last_inside (lists c.args.reads.now) c.args.self.now c.last-node.result c.requires.walk c.last-node.ensures in
    let marked = c.requires.walk.marked in
    omega arith

pub returns-in_ok-finish-in-None : goal.returns-in_ok-finish-in-None
returns-in_ok-finish-in-None c =
    let low = last_inside (lists c.args.reads.now) c.args.self.now c.last-node.result c.requires.walk c.last-node.ensures in
    let inside : c.last-node.result < length c.args.reads.now = omega (arith, lists_length c.args.reads.now) in
    let list = reads_of_list c.args.reads.now c.last-node.result c.index-reads-node.result c.index-reads-node.is inside ∙ sym c.deref.ensures.value in
    let counted = c.requires.walk.counted in
    let at = next_read c.args.self.now.nexts.items c.last-node.result c.index-next.result.now c.index-next.ensures (omega arith) in
    let all_read : length (reads_of (lists c.args.reads.now) c.last-node.result) ≤ get_or c.args.self.now.nexts.items c.last-node.result 0 = omega (arith, ap length list, c.in-None.ensures.lookup.3) in
    finished_goes (lists c.args.reads.now) c.args.self.now c.finish.new.self c.last-node.result c.requires.walk c.in_ok-finish-in-None.ensures c.last-node.ensures all_read
