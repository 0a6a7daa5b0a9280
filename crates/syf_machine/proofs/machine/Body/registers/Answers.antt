use Rattle.std.proofs.Common.{◌≡◌, ◌∙◌, ap, map, length, arith}
use Rattle.fsm_machine.specs.MachineOf.{up}
use Rattle.fsm_code.specs.declared.target.Targets.TheVariants as targets
use Rattle.fsm_code.specs.Over.{numbered_body}
use Rattle.fsm_code.specs.Sought.{given_at}
use Rattle.fsm_code.specs.View.{body_view}
use Rattle.syf_machine.specs.Pieces.{register_of, registers_by}
use Rattle.syf_machine.proofs.Targeted.{registers_are, values_count}
use Rattle.syf_machine.proofs.machine.Body.registers.Goals as goal

pub registers-requires : goal.registers-requires
registers-requires c =
    let self = c.args.self.now in
    let count = values_count (given_at (targets.Code c.args.codes)) self.first (numbered_body self.numbers.now (body_view self.statements.now)) c.in_ok-values.values.items c.width.result
    c.in_ok-values.ensures in
    omega (arith, count, c.width.type_inv)

pub returns : goal.returns
returns c =
    let self = c.args.self.now in
    let codes = c.args.codes.now in
    let body = numbered_body self.numbers.now (body_view self.statements.now) in
    c.in_ok-made.ensures ∙ ap (registers_by c.args.text.now 0) c.in_ok-values.ensures ∙ registers_are codes self.first body c.args.text.now c.width.result
    ∙ ap (λ n. map (register_of codes self.first body c.args.text.now) (up 0 n)) c.width.ensures
