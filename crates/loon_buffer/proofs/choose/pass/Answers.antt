use Rattle.std.proofs.Common.{◌≡◌, ◌+◌, true, false, length, sym, ap, ◌∙◌, arith}
use Rattle.net_core.proofs.Rings.{nodes_count}
use Rattle.loon_buffer.proofs.Marked.{few_instances}
use Rattle.loon_buffer.proofs.Passing.{passing_start, passing_unmarked, passing_idle, passing_helped, passed, ready_with, passing_as}
use Rattle.loon_buffer.proofs.choose.pass.Goals.{then-has_marked_pin+then-exchange_cell, else-has_marked_pin, else-has_marked_pin-via-then-has_marked_pin+else-exchange_cell, else-has_marked_pin-via-else-has_marked_pin}
use Rattle.loon_buffer.proofs.choose.pass.Goals as goal

pub trace-requires : goal.trace-requires
trace-requires c = (c.args.netlist.now, c.args.library.now, c.requires.ready.sound, c.requires.ready.delays)

pub loop-k-init : goal.loop-k-init
loop-k-init c =
    let t = c.trace.ensures c.args.netlist.now c.args.library.now c.requires.ready.sound c.requires.ready.delays in
    passing_start c.args.library.now c.args.table.now.drives.items c.args.netlist.now c.trace.new.self (ready_with c.args.library.now c.args.netlist.now c.args.delays.now c.trace.new.self c.requires.ready t.0) t.1

pub overflow_cast-number : goal.overflow_cast-number
overflow_cast-number c =
    let l = c.loop-k-test.true in
    let count = nodes_count c.args.netlist.now.models c.nodes-k-end.result.now c.args.netlist.now.instances c.nodes-k-end.ensures.seen in
    let many = few_instances c.args.library.now c.args.netlist.now c.requires.ready.timed c.requires.ready.sound in
    let same = ap length c.classes.ensures.classes in
    let few = c.classes.ensures.few in
    omega (arith, l, count, many, same, few)

pub has_marked_pin-requires : goal.has_marked_pin-requires
has_marked_pin-requires c =
    let l = c.loop-k-test.true in
    let count = nodes_count c.args.netlist.now.models c.nodes-k-end.result.now c.args.netlist.now.instances c.nodes-k-end.ensures.seen in
    let many = c.loop-k.invariant.chosen.many in
    omega (arith, l, count, many)

pub exchange_cell-requires-clause-there : goal.exchange_cell-requires-clause-there
exchange_cell-requires-clause-there c =
    let l = c.loop-k-test.true in
    let count = nodes_count c.args.netlist.now.models c.nodes-k-end.result.now c.args.netlist.now.instances c.nodes-k-end.ensures.seen in
    let many = c.loop-k.invariant.chosen.many in
    omega (arith, l, count, many)

pub exchange_cell-requires-clause-table : goal.exchange_cell-requires-clause-table
exchange_cell-requires-clause-table c = c.requires.table

pub exchange_cell-requires-clause-ready : goal.exchange_cell-requires-clause-ready
exchange_cell-requires-clause-ready c = c.loop-k.invariant.ready

pub trace-requires-then-exchange_cell : goal.trace-requires-then-exchange_cell
trace-requires-then-exchange_cell c =
    (c.exchange_cell.new.netlist, c.args.library.now, c.exchange_cell.ensures.ready.sound, c.exchange_cell.ensures.ready.delays)

pub loop-k-preserved : goal.loop-k-preserved
loop-k-preserved c = elim c.if-has_marked_pin.branch [
  | then-has_marked_pin+then-exchange_cell w ↦
      let t = w.trace-then-exchange_cell.ensures w.exchange_cell.new.netlist c.args.library.now w.exchange_cell.ensures.ready.sound w.exchange_cell.ensures.ready.delays in
      passing_as c.args.library.now c.args.table.now.drives.items c.args.netlist.now w.exchange_cell.new.netlist c.if-has_marked_pin.netlist w.trace-then-exchange_cell.new.self c.if-has_marked_pin.delays
      true c.if-has_marked_pin.helped (c.loop-k.k + 1) w.netlist-is w.delays-is w.helped-is
      (passing_helped c.args.library.now c.args.table.now.drives.items c.args.netlist.now c.loop-k.netlist w.exchange_cell.new.netlist c.loop-k.delays w.trace-then-exchange_cell.new.self c.loop-k.helped c.loop-k.k
      c.loop-k.invariant (ready_with c.args.library.now w.exchange_cell.new.netlist w.exchange_cell.new.delays w.trace-then-exchange_cell.new.self w.exchange_cell.ensures.ready t.0) t.1
      (w.exchange_cell.ensures.helps w.if-exchange_cell.true))
  | else-has_marked_pin w ↦ elim w.else-has_marked_pin.branch [
    | else-has_marked_pin-via-then-has_marked_pin+else-exchange_cell v ↦
        passing_as c.args.library.now c.args.table.now.drives.items c.args.netlist.now v.exchange_cell.new.netlist c.if-has_marked_pin.netlist v.exchange_cell.new.delays c.if-has_marked_pin.delays
        c.loop-k.helped c.if-has_marked_pin.helped (c.loop-k.k + 1) (w.netlist-is ∙ v.netlist-is) (w.delays-is ∙ v.delays-is) w.helped-is
        (passing_idle c.args.library.now c.args.table.now.drives.items c.args.netlist.now c.loop-k.netlist v.exchange_cell.new.netlist c.loop-k.delays v.exchange_cell.new.delays c.loop-k.helped c.loop-k.k
        c.loop-k.invariant v.exchange_cell.ensures.ready v.exchange_cell.ensures.marks (v.exchange_cell.ensures.kept v.if-exchange_cell.false) (v.exchange_cell.ensures.driven v.if-exchange_cell.false))
    | else-has_marked_pin-via-else-has_marked_pin v ↦
        passing_as c.args.library.now c.args.table.now.drives.items c.args.netlist.now c.loop-k.netlist c.if-has_marked_pin.netlist c.loop-k.delays c.if-has_marked_pin.delays
        c.loop-k.helped c.if-has_marked_pin.helped (c.loop-k.k + 1) (w.netlist-is ∙ v.netlist-is) (w.delays-is ∙ v.delays-is) w.helped-is
        (passing_unmarked c.args.library.now c.args.table.now.drives.items c.args.netlist.now c.loop-k.netlist c.loop-k.delays c.loop-k.helped c.loop-k.k
        c.loop-k.invariant (λ h. let no : true ≡ false = sym (c.has_marked_pin.ensures.1 h) ∙ v.if-has_marked_pin.false in absurd cc))
  ]
]

pub returns-clause-ready : goal.returns-clause-ready
returns-clause-ready c = c.loop-k.invariant.ready

pub returns-clause-chosen : goal.returns-clause-chosen
returns-clause-chosen c = c.loop-k.invariant.chosen

pub returns-clause-shorter : goal.returns-clause-shorter
returns-clause-shorter c = c.loop-k.invariant.shorter

pub returns-clause-kept : goal.returns-clause-kept
returns-clause-kept c = c.loop-k.invariant.kept

pub returns-clause-driven : goal.returns-clause-driven
returns-clause-driven c = λ e.
    let all = c.loop-k-test.false in
    let count = nodes_count c.args.netlist.now.models c.nodes-k-end.result.now c.args.netlist.now.instances c.nodes-k-end.ensures.seen in
    let many = c.loop-k.invariant.chosen.many in
    passed c.args.library.now c.args.table.now.drives.items c.args.netlist.now c.loop-k.netlist c.loop-k.delays c.loop-k.helped c.loop-k.k c.requires.table (omega (arith, all, count, many)) c.loop-k.invariant e
