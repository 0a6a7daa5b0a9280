use Rattle.std.proofs.Common.{◌≡◌, drop, []}
use Rattle.std.proofs.lemmas.List.{drop_all}
use Rattle.std.proofs.lemmas.Result.{err_from_is_err_and}
use Rattle.asimut_sim.proofs.Leads.{leads-next, leads-end, refusal}
use Rattle.asimut_sim.proofs.simulation.fill.Goals as goal

pub returns-in_err-pass-clause-differs : goal.returns-in_err-pass-clause-differs
returns-in_err-pass-clause-differs c =
    let p = err_from_is_err_and c.from_residual-in_err-pass.result c.from_residual-in_err-pass.ensures.1 in
    rw (p.1, p.2)
    (refusal c.settles_once.ensures c.args.flat.now.machine.now c.registers.ensures.checked.ordered c.args.columns.now c.args.patterns.now c.loop-number.number
    c.index-patterns-number.result c.loop-number.state.contents.items c.loop-number.state.clock c.loop-number.made c.in_err-pass.field-0.0
    c.loop-number-test.true c.index-patterns-number.is c.in_err-pass.ensures.stops c.loop-number.invariant.leads)

pub loop-number-preserved : goal.loop-number-preserved
loop-number-preserved c = record {
  state = c.in_ok-pass.ensures.state;
  leads =
      rw (c.in_ok-push.ensures.ok)
      (leads-next c.args.flat.now.machine.now c.args.columns.now c.args.patterns.now c.loop-number.number c.index-patterns-number.result
      c.loop-number.state.contents.items c.loop-number.state.clock c.pass.new.state.contents.items c.pass.new.state.clock c.loop-number.made c.in_ok-pass.field-0
      c.loop-number-test.true c.index-patterns-number.is c.in_ok-pass.ensures.passes c.loop-number.invariant.leads);
}

pub returns-clause-filled : goal.returns-clause-filled
returns-clause-filled c =
    let none : drop c.loop-number.number c.args.patterns.now ≡ [] = drop_all c.loop-number.number c.args.patterns.now c.loop-number-test.false in
    leads-end c.args.flat.now.machine.now c.args.columns.now c.args.patterns.now c.loop-number.number c.loop-number.state.contents.items c.loop-number.state.clock
    c.loop-number.made none c.loop-number.invariant.leads
