use Rattle.std.proofs.Common.{arith}
use Rattle.scan_checks.proofs.Planning.{names_once, taken_refused, none_taken, cover_refused, path_refused, path_registers, path_through, path_many, path_few, ordered_many}
use Rattle.scan_checks.proofs.plan.make_plan.Goals as goal

pub in_order-requires : goal.in_order-requires
in_order-requires c =
    names_once c.args.library.now c.args.netlist.now c.in_ok-registers.registers.items c.in_ok-registers.ensures.registers c.in_ok-registers.ensures.sound c.deref.result.now c.deref.ensures.value

pub returns-in-Some-clause-refused : goal.returns-in-Some-clause-refused
returns-in-Some-clause-refused c =
    taken_refused c.args.library.now c.args.netlist.now c.in_ok-registers.registers.items c.in_ok-registers.ensures.registers c.len.result c.in_ok-text.field-0 c.in-Some.text
    (let e = c.len.ensures in let k = c.in_ok-registers.registers.ok in grind (arith, e, k)) c.in_ok-text.ensures.found c.in-Some.is

pub returns-in-Err-clause-refused : goal.returns-in-Err-clause-refused
returns-in-Err-clause-refused c =
    cover_refused c.args.library.now c.args.netlist.now c.in_ok-registers.registers.items c.in_ok-registers.ensures.registers c.args.path.now c.in-Err.error
    (none_taken c.args.library.now c.args.netlist.now c.in_ok-registers.registers.items c.in_ok-registers.ensures.registers c.len.result c.in_ok-text.field-0
    (let e = c.len.ensures in let k = c.in_ok-registers.registers.ok in grind (arith, e, k)) c.in_ok-text.ensures.none c.in_default.is) c.in-Err.ensures.refused

pub returns-clause-refused : goal.returns-clause-refused
returns-clause-refused c =
    path_refused c.args.library.now c.args.netlist.now c.in_ok-registers.registers.items c.in_ok-registers.ensures.registers c.args.path.now c.deref.result.now c.in-Err-in_order.error
    c.deref.ensures.value
    (none_taken c.args.library.now c.args.netlist.now c.in_ok-registers.registers.items c.in_ok-registers.ensures.registers c.len.result c.in_ok-text.field-0
    (let e = c.len.ensures in let k = c.in_ok-registers.registers.ok in grind (arith, e, k)) c.in_ok-text.ensures.none c.in_default.is) c.in-Ok.ensures.covered c.in-Err-in_order.ensures.refused

pub returns-in-Ok-in_order-clause-plan : goal.returns-in-Ok-in_order-clause-plan
returns-in-Ok-in_order-clause-plan c = record {
  registers = path_registers c.args.library.now c.args.netlist.now c.in_ok-registers.registers.items c.in_ok-registers.ensures.registers c.args.path.now c.deref.result.now c.deref.ensures.value
      c.in-Ok-in_order.registers.items c.in-Ok-in_order.ensures.order c.in-Ok-in_order.ensures.all;
  cells = c.in-Ok.ensures.parts;
}

pub returns-in-Ok-in_order-clause-free : goal.returns-in-Ok-in_order-clause-free
returns-in-Ok-in_order-clause-free c =
    none_taken c.args.library.now c.args.netlist.now c.in_ok-registers.registers.items c.in_ok-registers.ensures.registers c.len.result c.in_ok-text.field-0
    (let e = c.len.ensures in let k = c.in_ok-registers.registers.ok in grind (arith, e, k)) c.in_ok-text.ensures.none c.in_default.is

pub returns-in-Ok-in_order-clause-through : goal.returns-in-Ok-in_order-clause-through
returns-in-Ok-in_order-clause-through c =
    path_through c.args.library.now c.args.netlist.now c.in_ok-registers.registers.items c.in_ok-registers.ensures.registers c.args.path.now c.deref.result.now c.deref.ensures.value
    c.in-Ok-in_order.registers.items c.in-Ok-in_order.ensures.order c.in-Ok-in_order.ensures.all

pub returns-in-Ok-in_order-clause-many : goal.returns-in-Ok-in_order-clause-many
returns-in-Ok-in_order-clause-many c =
    path_many c.args.library.now c.args.netlist.now c.in_ok-registers.registers.items c.in_ok-registers.ensures.registers c.args.path.now c.deref.result.now c.deref.ensures.value
    c.in-Ok-in_order.registers.items c.in-Ok-in_order.ensures.order c.in-Ok-in_order.ensures.all c.in_ok-registers.ensures.sound

pub returns-in-Ok-in_order-clause-few : goal.returns-in-Ok-in_order-clause-few
returns-in-Ok-in_order-clause-few c =
    path_few c.args.library.now c.args.netlist.now c.in_ok-registers.registers.items c.in_ok-registers.ensures.registers c.args.path.now c.deref.result.now c.deref.ensures.value
    c.in-Ok-in_order.registers.items c.in-Ok-in_order.ensures.order c.in-Ok-in_order.ensures.all c.in_ok-registers.ensures.sound c.in_ok-registers.ensures.few

pub returns-in-Ok-in_order-clause-registers : goal.returns-in-Ok-in_order-clause-registers
returns-in-Ok-in_order-clause-registers c =
    ordered_many c.args.library.now c.args.netlist.now c.in_ok-registers.registers.items c.in_ok-registers.ensures.registers c.args.path.now c.deref.result.now c.deref.ensures.value
    c.in-Ok-in_order.registers.items c.in-Ok-in_order.ensures.order c.in-Ok-in_order.ensures.all
