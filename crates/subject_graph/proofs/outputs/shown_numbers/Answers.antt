use Rattle.std.proofs.Common.{get_or}
use Rattle.subject_graph.proofs.Showing.{index_same, shows_itself, shows_through}
use Rattle.subject_graph.proofs.outputs.shown_numbers.Goals as goal

pub loop-number-preserved-then-not-branch : goal.loop-number-preserved-then-not-branch
loop-number-preserved-then-not-branch c =
    let i = c.loop-number.number-index in
    let a = get_or c.args.plain.now i 0 in
    rw c.in_ok-push.ensures.items
    (shows_itself c.args.nodes.now.items c.loop-number.nodes.items c.args.inputs c.args.held c.args.plain.now c.loop-number.met c.is_taken.new.met c.loop-number.shown.items i a
    c.in_ok-is_taken.field-0 c.loop-number-test.true (index_same c.args.plain.now i 0 a c.loop-number-test.true) c.in_ok-is_taken.ensures c.if-not-branch.true c.loop-number.invariant)

pub loop-number-preserved : goal.loop-number-preserved
loop-number-preserved c =
    let i = c.loop-number.number-index in
    let a = get_or c.args.plain.now i 0 in
    rw c.in_ok-push-2.ensures.items
    (shows_through c.args.nodes.now.items c.loop-number.nodes.items c.push_twice.new.nodes.items c.args.inputs c.args.held c.args.plain.now c.loop-number.met c.is_taken.new.met
    c.loop-number.shown.items i a c.in_ok-root.root c.in_ok-is_taken.field-0 c.loop-number-test.true (index_same c.args.plain.now i 0 a c.loop-number-test.true) c.in_ok-is_taken.ensures
    c.if-not-branch.false c.in_ok-root.ensures.nodes c.in_ok-root.ensures.number c.loop-number.invariant)
