use Rattle.std.proofs.Common.{ℕ, subst}
use Rattle.std.proofs.lemmas.Result.{err_from_is_err_and}
use Rattle.loon_fanout.specs.Limited.{IsBuffered, HasFanout, IsBufferRefusal}
use Rattle.loon_drive.specs.Driven.{most_sinks}
use Rattle.loon_drive.proofs.Driving.{timed_again, are, no_slower_again, right_again, few_again, most_is_four}
use Rattle.loon_drive.proofs.drive.drive_netlist.Goals as goal

pub returns-in_err-limited-clause-refused : goal.returns-in_err-limited-clause-refused
returns-in_err-limited-clause-refused c =
    let p = err_from_is_err_and c.from_residual.result c.from_residual.ensures.1 in
    rw (p.1, p.2)
    (subst (λ (m : ℕ). IsBufferRefusal c.args.netlist.now c.args.library.now m c.in_err-limited.field-0.0) c.max.ensures c.in_err-limited.ensures.refused)

pub exchanged-requires-clause-timed : goal.exchanged-requires-clause-timed
exchanged-requires-clause-timed c =
    timed_again c.args.netlist.now c.args.library.now c.max.result c.in_ok-limited.limited c.reserve.new.netlist c.in_ok-reserve.ensures.same
    c.passes_law.ensures c.cells.ensures.checked c.classes.ensures.sound c.classes-2.ensures.sound c.requires.cells c.requires.tied c.requires.timed
    c.in_ok-limited.ensures.buffered c.in_ok-limited.ensures.cells

pub returns-clause-driven : goal.returns-clause-driven
returns-clause-driven c = record {
  buffered = c.in_ok-limited.limited;
  sound = c.in_ok-limited.ensures.sound;
  is_buffered = subst (λ (m : ℕ). IsBuffered c.args.netlist.now c.args.library.now m c.in_ok-limited.limited) c.max.ensures c.in_ok-limited.ensures.buffered;
  exchanged = are c.args.netlist.now c.args.library.now c.max.result c.in_ok-limited.limited c.reserve.new.netlist c.in_ok-reserve.ensures.same
      c.in_ok-exchanged.field-0.netlist c.in_ok-exchanged.ensures.exchanged;
  driven = c.in_ok-exchanged.ensures.driven;
  worst = c.in_ok-exchanged.ensures.worst;
  no_slower = no_slower_again c.args.netlist.now c.args.library.now c.max.result c.in_ok-limited.limited c.reserve.new.netlist c.in_ok-reserve.ensures.same
      c.in_ok-exchanged.field-0.netlist c.in_ok-exchanged.field-0.delay c.in_ok-exchanged.ensures.exchanged c.in_ok-exchanged.ensures.no_slower;
}

pub returns-clause-cells : goal.returns-clause-cells
returns-clause-cells c =
    c.exchanged_law.ensures.cells c.args.library.now c.in_ok-limited.limited c.in_ok-exchanged.field-0.netlist
    (are c.args.netlist.now c.args.library.now c.max.result c.in_ok-limited.limited c.reserve.new.netlist c.in_ok-reserve.ensures.same
    c.in_ok-exchanged.field-0.netlist c.in_ok-exchanged.ensures.exchanged)
    c.in_ok-limited.ensures.cells

pub returns-clause-fanout : goal.returns-clause-fanout
returns-clause-fanout c =
    c.exchanged_law.ensures.fanout c.args.library.now c.in_ok-limited.limited c.in_ok-exchanged.field-0.netlist (most_sinks c.args.fanout)
    (are c.args.netlist.now c.args.library.now c.max.result c.in_ok-limited.limited c.reserve.new.netlist c.in_ok-reserve.ensures.same
    c.in_ok-exchanged.field-0.netlist c.in_ok-exchanged.ensures.exchanged)
    (subst (λ (m : ℕ). HasFanout c.args.library.now m c.in_ok-limited.limited) c.max.ensures c.in_ok-limited.ensures.fanout)

pub returns-clause-right : goal.returns-clause-right
returns-clause-right c =
    right_again c.args.netlist.now c.args.library.now c.max.result c.in_ok-limited.limited c.reserve.new.netlist c.in_ok-reserve.ensures.same
    c.exchanged_law.ensures.right c.in_ok-exchanged.field-0.netlist c.in_ok-limited.ensures.sound c.in_ok-exchanged.ensures.exchanged c.in_ok-limited.ensures.right

pub returns-clause-few : goal.returns-clause-few
returns-clause-few c =
    few_again c.args.netlist.now c.args.library.now c.max.result c.in_ok-limited.limited c.reserve.new.netlist c.in_ok-reserve.ensures.same
    c.in_ok-exchanged.field-0.netlist c.in_ok-exchanged.ensures.exchanged
    (c.in_ok-limited.ensures.few (most_is_four c.args.fanout c.max.result c.max.ensures))
