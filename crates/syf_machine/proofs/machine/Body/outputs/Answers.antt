use Rattle.std.proofs.Common.{◌∙◌, ap, sym, List, length}
use Rattle.vlsi_base.specs.declared.name.Name.{Name}
use Rattle.fsm_machine.specs.MachineOf.{named}
use Rattle.fsm_code.specs.Over.{numbered_body}
use Rattle.fsm_code.specs.declared.target.Targets.TheVariants as targets
use Rattle.fsm_code.specs.Sought.{given_at}
use Rattle.fsm_code.specs.View.{body_view}
use Rattle.syf_machine.proofs.Targeted.{outputs_are, values_count}
use Rattle.syf_machine.proofs.machine.Body.outputs.Goals as goal

pub returns : goal.returns
returns c =
    let self = c.args.self.now in
    let names : List Name = c.args.names.now in
    c.in_ok-made.ensures ∙ ap (named names) c.in_ok-values.ensures ∙ outputs_are self.first (numbered_body self.numbers.now (body_view self.statements.now)) names

pub equations-requires : goal.equations-requires
equations-requires c =
    let self = c.args.self.now in
    sym (values_count (given_at (targets.Outputs c.args.names)) self.first (numbered_body self.numbers.now (body_view self.statements.now)) c.in_ok-values.values.items
    (length c.args.names.now) c.in_ok-values.ensures)
