use Rattle.std.proofs.Common.{Option, ℕ, refl, sym, subst}
use Rattle.delay_sta.specs.Traces.{GoesBack, without_step, at_first, back}
use Rattle.delay_sta.proofs.arrivals.Delays.go_back.Goals as goal

pub returns-in_err-arc-clause-others : goal.returns-in_err-arc-clause-others
returns-in_err-arc-clause-others c = refl

pub returns-in_err-arc-clause-back : goal.returns-in_err-arc-clause-back
returns-in_err-arc-clause-back c =
    subst (λ (o : Option ℕ). GoesBack c.args.self.now.arcs.items c.args.self.now.arrivals.items c.args.class c.args.self.now.marks.items c.args.self.now.marks.items o)
    (sym c.from_residual.ensures) (without_step c.in_err-arc.ensures refl)

pub returns-then-arc-clause-others : goal.returns-then-arc-clause-others
returns-then-arc-clause-others c = refl

pub returns-then-arc-clause-back : goal.returns-then-arc-clause-back
returns-then-arc-clause-back c = at_first c.in_ok-arc.arc c.in_ok-arc.ensures c.if-arc.true refl

pub returns-clause-others : goal.returns-clause-others
returns-clause-others c = refl

pub returns-clause-back : goal.returns-clause-back
returns-clause-back c = back c.in_ok-arc.arc c.in_ok-arc.ensures c.if-arc.false refl
