use Rattle.std.proofs.Common.{IfOk, ◌≡◌, map, sym, ap, subst, ◌∙◌}
use Rattle.std.proofs.lemmas.Result.{IfOk-weaker}
use Rattle.machine_core.specs.Machine.{Register}
use Rattle.machine_core.specs.View.{register_view}
use Rattle.proof_joint.specs.declared.naming.Role.{Role}
use Rattle.proof_joint.specs.Naming.{names_with}
use Rattle.proof_joint.proofs.Roles.{role_ordered, registers_again}
use Rattle.proof_joint.proofs.naming.names_with.Goals as goal

pub returns-in-Input-clause-ordered : goal.returns-in-Input-clause-ordered
returns-in-Input-clause-ordered c = role_ordered c.args.m.now c.ports.ensures.checked c.args.role

pub returns-in-Output-clause-ordered : goal.returns-in-Output-clause-ordered
returns-in-Output-clause-ordered c = role_ordered c.args.m.now c.ports-in-Output.ensures.checked c.args.role

pub returns-in-Register-clause-names : goal.returns-in-Register-clause-names
returns-in-Register-clause-names c =
    subst (λ (r : Role). IfOk c.register_names.result (λ v. map (λ n. n.now) v.items ≡ names_with c.args.m.now r)) (sym c.in-Register.is)
    (IfOk-weaker c.register_names.result _ _
    (λ v h. h ∙ sym (registers_again c.as_slice-in-Register.result.now)
    ∙ ap (map (λ (r : Register). r.name)) (ap (map register_view) c.as_slice-in-Register.ensures ∙ c.registers.ensures.value)) c.register_names.ensures)
