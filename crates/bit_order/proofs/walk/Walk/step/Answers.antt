use Rattle.std.proofs.Common.{◌<◌, length, arith}
use Rattle.bit_order.specs.declared.walk.Mark.TheVariants as mark
use Rattle.bit_order.proofs.Turning.{lists, lists_length, mark_read, linked_on, entered_goes, passed_goes, ring_found}
use Rattle.bit_order.proofs.walk.Walk.step.Goals as goal

pub returns-in_ok-enter-in-New : goal.returns-in_ok-enter-in-New
returns-in_ok-enter-in-New c =
    let reads = lists c.args.reads.now in
    let low : c.args.read < length reads = omega (arith, lists_length c.args.reads.now, c.requires.inside) in
    let marked = c.requires.walk.marked in
    let is_new = mark_read c.args.self.now.marks.items c.args.read mark.New c.index.result.now c.index.ensures c.in-New.is (omega arith) in
    entered_goes reads c.args.self.now c.enter.new.self c.args.read c.requires.walk c.in_ok-enter-in-New.ensures low is_new
    (linked_on reads c.args.self.now.path.items c.args.node c.args.next c.args.read c.requires.last c.requires.read)

pub returns-in-Open : goal.returns-in-Open
returns-in-Open c =
    let reads = lists c.args.reads.now in
    let low : c.args.read < length reads = omega (arith, lists_length c.args.reads.now, c.requires.inside) in
    let marked = c.requires.walk.marked in
    let is_open = mark_read c.args.self.now.marks.items c.args.read (mark.Open c.in-Open.first) c.index.result.now c.index.ensures c.in-Open.is (omega arith) in
    ring_found reads c.args.self.now c.args.node c.args.next c.args.read c.in-Open.first c.requires.walk c.requires.last c.requires.read is_open

pub returns-in-Done : goal.returns-in-Done
returns-in-Done c =
    let reads = lists c.args.reads.now in
    let low : c.args.read < length reads = omega (arith, lists_length c.args.reads.now, c.requires.inside) in
    let marked = c.requires.walk.marked in
    let is_done = mark_read c.args.self.now.marks.items c.args.read (mark.Done c.in-Done.field-0) c.index.result.now c.index.ensures c.in-Done.is (omega arith) in
    passed_goes reads c.args.self.now c.pass.new.self c.args.node c.args.next c.args.read c.in-Done.field-0 c.requires.walk c.pass.ensures c.requires.last c.requires.at c.requires.read is_done
