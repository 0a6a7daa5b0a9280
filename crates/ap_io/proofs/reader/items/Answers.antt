use Rattle.std.proofs.Common.{sym, ap, ◌∙◌, refl, ◌≡◌, true, false}
use Rattle.std.proofs.lemmas.Result.{err_from_is_err_and}
use Rattle.vlsi_base.specs.Lines.{without_return}
use Rattle.ap_io.specs.LineFaults.{is_end}
use Rattle.ap_io.proofs.Walking.{goes_on, refuses, end_none, end_some, end_items, no_end}
use Rattle.ap_io.proofs.reader.items.Goals as goal

pub returns-clause-refused : goal.returns-clause-refused
returns-clause-refused c =
    no_end c.args.scale c.args.lines.now c.args.before c.loop-line.body c.loop-line.lines c.loop-line.before c.fault_on.result c.loop-line.invariant (c.in_default.ensures.none refl) c.fault_on.ensures

pub returns-then-is_end-clause-none : goal.returns-then-is_end-clause-none
returns-then-is_end-clause-none c =
    let ended : is_end (without_return c.in-Some.line.now) ≡ true = sym (ap is_end c.without_return-line.ensures) ∙ sym c.is_end.ensures ∙ c.if-is_end.true in
    end_none c.args.scale c.args.lines.now c.args.before c.loop-line.body c.loop-line.lines c.loop-line.before c.in-Some.line.now c.next_line.new.self c.loop-line.invariant c.in-Some.ensures.some ended c.in_ok-end.ensures.none

pub returns-then-is_end-clause-read : goal.returns-then-is_end-clause-read
returns-then-is_end-clause-read c =
    let ended : is_end (without_return c.in-Some.line.now) ≡ true = sym (ap is_end c.without_return-line.ensures) ∙ sym c.is_end.ensures ∙ c.if-is_end.true in
    end_items c.args.scale c.args.lines.now c.args.before c.loop-line.body c.loop-line.lines c.loop-line.before c.in-Some.line.now c.next_line.new.self c.into_items.result c.loop-line.invariant c.in-Some.ensures.some ended c.in_ok-end.ensures.read c.into_items.ensures

pub returns-in_err-end-clause-refused : goal.returns-in_err-end-clause-refused
returns-in_err-end-clause-refused c =
    let ended : is_end (without_return c.in-Some.line.now) ≡ true = sym (ap is_end c.without_return-line.ensures) ∙ sym c.is_end.ensures ∙ c.if-is_end.true in
    let p = err_from_is_err_and c.from_residual.result c.from_residual.ensures.1 in
    rw (p.1, p.2) (end_some c.args.scale c.args.lines.now c.args.before c.loop-line.body c.loop-line.lines c.loop-line.before c.in-Some.line.now c.next_line.new.self c.in_err-end.field-0.0 c.loop-line.invariant c.in-Some.ensures.some ended c.in_err-end.ensures.refused)

pub returns-in-Some-2-clause-refused : goal.returns-in-Some-2-clause-refused
returns-in-Some-2-clause-refused c =
    let more : is_end (without_return c.in-Some.line.now) ≡ false = sym (ap is_end c.without_return-line.ensures) ∙ sym c.is_end.ensures ∙ c.if-is_end.false in
    refuses c.args.scale c.args.lines.now c.args.before c.loop-line.body c.loop-line.lines c.loop-line.before c.in-Some.line.now c.next_line.new.self _ c.in-Some-2.fault c.refusal_on.result c.loop-line.invariant c.in-Some.ensures.some more
    (rw (← c.without_return-line.ensures) c.in_ok-fault.ensures.fault) c.in-Some-2.is c.refusal_on.ensures

pub loop-line-preserved : goal.loop-line-preserved
loop-line-preserved c =
    let more : is_end (without_return c.in-Some.line.now) ≡ false = sym (ap is_end c.without_return-line.ensures) ∙ sym c.is_end.ensures ∙ c.if-is_end.false in
    goes_on c.args.scale c.args.lines.now c.args.before c.loop-line.body c.take.new.self c.loop-line.lines c.loop-line.before c.in-Some.line.now c.next_line.new.self c.in_ok-fault.field-0 c.loop-line.invariant c.in-Some.ensures.some more
    (rw (← c.without_return-line.ensures) c.in_ok-fault.ensures.fault) c.in_default-2.is (rw (← c.without_return-line.ensures) (c.in_ok-fault.ensures.taken c.in_default-2.is))
