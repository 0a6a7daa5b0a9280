use Rattle.std.proofs.Common.{[], ◌∷◌}
use Rattle.std.proofs.lemmas.Result.{IfOk-weaker}
use Rattle.proof_joint.specs.declared.naming.Role.TheVariants.{Input, Output}
use Rattle.proof_joint.proofs.Least.{no_role, plain_roles, all_roles, are_plain, are_all, told_none, told_some}
use Rattle.proof_joint.proofs.naming.least_one_sided.Goals as goal

pub returns-then-have_registers-clause-none : goal.returns-then-have_registers-clause-none
returns-then-have_registers-clause-none c =
    let a = c.args.a.now in
    let b = c.args.b.now in
    let one = c.in_ok-least.ensures [] (no_role c.args.a.now c.args.b.now) in
    let two = c.in_ok-least-2.ensures (Input ∷ []) one in
    let three = c.in_ok-least-3.ensures (Output ∷ Input ∷ []) two in
    IfOk-weaker c.lesser_with-then-have_registers.result _ _
    (λ o h. told_none a b all_roles (are_all a b (c.have_registers.ensures.0 c.if-have_registers.true)) o (h plain_roles three)) c.lesser_with-then-have_registers.ensures

pub returns-then-have_registers-clause-some : goal.returns-then-have_registers-clause-some
returns-then-have_registers-clause-some c =
    let a = c.args.a.now in
    let b = c.args.b.now in
    let one = c.in_ok-least.ensures [] (no_role c.args.a.now c.args.b.now) in
    let two = c.in_ok-least-2.ensures (Input ∷ []) one in
    let three = c.in_ok-least-3.ensures (Output ∷ Input ∷ []) two in
    IfOk-weaker c.lesser_with-then-have_registers.result _ _
    (λ o h. told_some a b all_roles (are_all a b (c.have_registers.ensures.0 c.if-have_registers.true)) o (h plain_roles three)) c.lesser_with-then-have_registers.ensures

pub returns-clause-none : goal.returns-clause-none
returns-clause-none c =
    let a = c.args.a.now in
    let b = c.args.b.now in
    let one = c.in_ok-least.ensures [] (no_role c.args.a.now c.args.b.now) in
    let two = c.in_ok-least-2.ensures (Input ∷ []) one in
    let three = c.in_ok-least-3.ensures (Output ∷ Input ∷ []) two in
    told_none a b plain_roles (are_plain a b (λ h. let t = c.have_registers.ensures.1 h in let f = c.if-have_registers.false in cc (t, f)))
    c.in_ok-least-3.least three

pub returns-clause-some : goal.returns-clause-some
returns-clause-some c =
    let a = c.args.a.now in
    let b = c.args.b.now in
    let one = c.in_ok-least.ensures [] (no_role c.args.a.now c.args.b.now) in
    let two = c.in_ok-least-2.ensures (Input ∷ []) one in
    let three = c.in_ok-least-3.ensures (Output ∷ Input ∷ []) two in
    told_some a b plain_roles (are_plain a b (λ h. let t = c.have_registers.ensures.1 h in let f = c.if-have_registers.false in cc (t, f)))
    c.in_ok-least-3.least three
