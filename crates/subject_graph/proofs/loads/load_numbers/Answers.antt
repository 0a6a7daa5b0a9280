use Rattle.std.proofs.Common.{◌+◌, ◌-◌, arith, length, map, take}
use Rattle.std.proofs.lemmas.List.{drop_all}
use Rattle.machine_core.specs.View.{register_view}
use Rattle.subject_graph.proofs.Loading.{starts, one_more}
use Rattle.subject_graph.proofs.Drawing.{loads_start, loads_on, loads_end}
use Rattle.subject_graph.proofs.Solving.{one_fits, one_over, take_views}
use Rattle.subject_graph.proofs.loads.load_numbers.Goals as goal

pub loop-k-init : goal.loop-k-init
loop-k-init c =
    let first = c.args.table.now.held - length c.args.registers.now in (
      rw c.new-loads.ensures.items (starts c.args.table.now c.args.numbers.now first c.requires.sound),
      rw c.new-loads.ensures.items (loads_start c.args.table.now c.args.numbers.now first c.args.registers.now),
    )

pub load_number-requires-clause-over : goal.load_number-requires-clause-over
load_number-requires-clause-over c =
    one_over (length c.args.numbers.now) c.args.registers.now c.loop-k.k c.index-registers-k.result c.requires.over c.loop-k-test.true c.index-registers-k.is

pub loop-k-preserved : goal.loop-k-preserved
loop-k-preserved c =
    let first = c.args.table.now.held - length c.args.registers.now in
    let views = take_views c.args.registers.now c.loop-k.k c.index-registers-k.result c.loop-k-test.true c.index-registers-k.is in
    let size = views.1 in
    let low = c.loop-k-test.true in
    let held = c.requires.held in (
      rw (views.0, c.in_ok-push.ensures.items)
          (one_more c.args.table.now c.loop-k.table c.load_number.new.table c.args.numbers.now first (first + c.loop-k.k) (map register_view (take c.loop-k.k c.args.registers.now)) c.loop-k.loads.items
          (register_view c.index-registers-k.result) c.in_ok-number.number c.requires.known (omega (arith, low, held)) (omega (arith, size)) c.loop-k.invariant.0 c.in_ok-number.ensures.value),
      rw c.in_ok-push.ensures.items
          (loads_on c.args.table.now c.loop-k.table c.load_number.new.table c.args.numbers.now first c.loop-k.k c.args.registers.now c.loop-k.loads.items c.index-registers-k.result
          c.in_ok-number.number low c.index-registers-k.is c.loop-k.invariant.1 c.in_ok-number.ensures.made),
    )

pub load_number-requires-clause-room : goal.load_number-requires-clause-room
load_number-requires-clause-room c =
    one_fits c.args.table.now c.loop-k.table c.args.numbers.now (c.args.table.now.held - length c.args.registers.now) c.args.registers.now c.loop-k.loads.items c.loop-k.k c.index-registers-k.result
    c.loop-k-test.true c.index-registers-k.is c.requires.room c.loop-k.invariant.0

pub returns-clause-made : goal.returns-clause-made
returns-clause-made c =
    let first = c.args.table.now.held - length c.args.registers.now in
    loads_end c.args.table.now c.loop-k.table c.args.numbers.now first (first + c.loop-k.k) c.loop-k.k c.args.registers.now c.loop-k.loads.items
    (drop_all c.loop-k.k c.args.registers.now c.loop-k-test.false) c.loop-k.invariant.1
