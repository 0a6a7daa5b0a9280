use Rattle.std.proofs.Common.{sym, ap, ◌∙◌, refl}
use Rattle.ap_io.specs.LineFaults.{is_blank_line}
use Rattle.ap_io.proofs.Walking.{end_goes_on, end_refuses, end_done}
use Rattle.ap_io.proofs.reader.end.Goals as goal

pub loop-line-preserved : goal.loop-line-preserved
loop-line-preserved c =
    end_goes_on c.args.lines.now c.args.before c.loop-line.lines c.loop-line.before c.in-Some.line.now c.next_line.new.self c.loop-line.invariant c.in-Some.ensures.some
    (sym (ap is_blank_line c.without_return.ensures) ∙ sym c.is_blank_line.ensures ∙ c.if-not-is_blank_line.false)

pub returns-then-not-is_blank_line-clause-refused : goal.returns-then-not-is_blank_line-clause-refused
returns-then-not-is_blank_line-clause-refused c =
    end_refuses c.args.lines.now c.args.before c.loop-line.lines c.loop-line.before c.in-Some.line.now c.next_line.new.self c.fault_on.result c.loop-line.invariant c.in-Some.ensures.some
    (sym (ap is_blank_line c.without_return.ensures) ∙ sym c.is_blank_line.ensures ∙ c.if-not-is_blank_line.true) c.fault_on.ensures

pub returns-clause-none : goal.returns-clause-none
returns-clause-none c = (end_done c.args.lines.now c.args.before c.loop-line.lines c.loop-line.before c.loop-line.invariant (c.in_default.ensures.none refl)).1
