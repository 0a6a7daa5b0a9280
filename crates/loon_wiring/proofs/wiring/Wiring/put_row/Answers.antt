use Rattle.std.proofs.Common.{ℕ, List, sym, subst}
use Rattle.loon_wiring.specs.declared.repeater.Tie.{Tie}
use Rattle.loon_wiring.specs.Stages.{PutsGate, PutsRow, once, two}
use Rattle.loon_wiring.proofs.wiring.Wiring.put_row.Goals as goal

pub returns-then-not-repeater-clause-row : goal.returns-then-not-repeater-clause-row
returns-then-not-repeater-clause-row c =
    subst (λ (k : ℕ). PutsRow c.args.repeater.now c.args.self.now c.put_gate.new.self c.args.read c.in_ok-input.input k) (sym c.count-first.ensures)
    (once c.if-not-repeater.true
    (subst (λ (ts : List Tie). PutsGate ts c.args.self.now c.put_gate.new.self c.args.read c.in_ok-input.input) c.deref.ensures.value c.in_ok-input.ensures.gate))

pub returns-clause-row : goal.returns-clause-row
returns-clause-row c =
    subst (λ (k : ℕ). PutsRow c.args.repeater.now c.args.self.now c.put_gate-2.new.self c.args.read c.in_ok-input.input k) (sym c.count-second.ensures)
    (two c.put_gate.new.self c.in_ok-put_gate.field-0 c.if-not-repeater.false
    (subst (λ (ts : List Tie). PutsGate ts c.args.self.now c.put_gate.new.self c.args.read c.in_ok-input.input) c.deref.ensures.value c.in_ok-input.ensures.gate)
    (subst (λ (k : ℕ). PutsGate c.args.repeater.now.ties.items c.put_gate.new.self c.put_gate-2.new.self k c.in_ok-put_gate.field-0) c.count-first.ensures
    (subst (λ (ts : List Tie). PutsGate ts c.put_gate.new.self c.put_gate-2.new.self c.count-first.result c.in_ok-put_gate.field-0) c.deref-2.ensures.value c.in_ok-put_gate.ensures.gate)))
