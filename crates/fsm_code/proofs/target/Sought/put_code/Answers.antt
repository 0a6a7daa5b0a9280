use Rattle.std.proofs.Common.{◌≡◌, ℕ, Some, ap, arith}
use Rattle.bool_expr.specs.Expression.{Expression, constant}
use Rattle.fsm_machine.specs.MachineOf.{code_given}
use Rattle.fsm_machine.specs.Signals.{assigned}
use Rattle.fsm_machine.specs.Statements.{next}
use Rattle.fsm_code.proofs.Targeted.{made_none, made_more, made_all}
use Rattle.fsm_code.proofs.target.Sought.put_code.Goals as goal

pub loop-k-init : goal.loop-k-init
loop-k-init c = made_none (λ k v. assigned (code_given c.args.codes.now k (next c.args.state)) c.args.path v) c.args.values.now

pub loop-k-preserved : goal.loop-k-preserved
loop-k-preserved c =
    let made : ℕ → Expression → Expression = λ k v. assigned (code_given c.args.codes.now k (next c.args.state)) c.args.path v in
    let one : Expression → Expression = λ v. assigned (Some (constant c.bit.result)) c.args.path v in
    let same : (v : Expression) → one v ≡ made c.loop-k.k v = λ v. ap (λ b. assigned (Some (constant b)) c.args.path v) c.bit.ensures in
    made_more made c.args.values.now c.loop-k.values c.put.new.values c.loop-k.k one same c.in_ok-put.ensures c.loop-k.invariant

pub returns : goal.returns
returns c =
    made_all (λ k v. assigned (code_given c.args.codes.now k (next c.args.state)) c.args.path v) c.args.values.now c.loop-k.values c.loop-k.k
    (omega (arith, c.loop-k-test.false, c.requires, c.width-k-end.ensures)) c.loop-k.invariant
