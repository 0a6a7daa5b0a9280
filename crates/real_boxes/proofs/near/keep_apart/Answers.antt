use Rattle.std.proofs.Common.{arith, rules}
use Rattle.real_boxes.proofs.Closest.{close_at, apart_next, apart_all}
use Rattle.real_boxes.proofs.near.keep_apart.Goals as goal

pub loop-entry-preserved : goal.loop-entry-preserved
loop-entry-preserved c =
    apart_next c.args.entries.now c.args.boxes.now c.loop-entry.entry-index c.entry-item.result c.loop-entry-test.true c.entry-item.is c.loop-entry.invariant c.in_ok-check_entry.ensures.apart

pub returns-in_err-check_entry-clause-refused : goal.returns-in_err-check_entry-clause-refused
returns-in_err-check_entry-clause-refused c =
    let refused =
    close_at c.args.entries.now c.args.boxes.now c.loop-entry.entry-index c.entry-item.result c.in_err-check_entry.field-0.0 c.loop-entry-test.true c.entry-item.is c.loop-entry.invariant
    c.in_err-check_entry.ensures.refused in
    search rules

pub returns-clause-apart : goal.returns-clause-apart
returns-clause-apart c = apart_all c.args.entries.now c.args.boxes.now c.loop-entry.entry-index (omega (arith, c.loop-entry-test.false)) c.loop-entry.invariant
