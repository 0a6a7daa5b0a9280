use Rattle.std.proofs.Common.{Err, List, length, sym, ap, ◌<◌, ◌^◌, subst, refl}
use Rattle.vlsi_base.specs.declared.name.Port.{Port}
use Rattle.fsm_machine.specs.Fsm.{Fsm}
use Rattle.fsm_io.specs.Text.{IsFsmRefusal}
use Rattle.fsm_merge.specs.Merged.{merged_fsm}
use Rattle.fsm_print.specs.Writable.{CanBeFsm}
use Rattle.tool_drive.specs.Refusals.{refused_file}
use Rattle.tool_drive.specs.declared.tool.Refusal.{Refusal}
use Rattle.tool_drive.specs.Table.{IsJudged}
use Rattle.fmi_run.specs.Fmi.{bad_source, Minimises}
use Rattle.fmi_run.proofs.Minimising.{by_limit}
use Rattle.fmi_run.proofs.Writing.{can_be_merged}
use Rattle.fmi_run.proofs.fmi.told.Goals as goal

pub minimised-requires : goal.minimised-requires
minimised-requires c = (c.fsm_can_be_written.ensures c.args.source.now c.in-Ok.machine c.in-Ok.ensures.accepted).1

pub returns-in-Err : goal.returns-in-Err
returns-in-Err c =
    refused_file (Minimises c.args.command.now c.args.source.now) c.args.command.now.source (IsFsmRefusal c.args.source.now) c.in-Err.error c.refused.result c.plain.result
    c.in-Err.ensures.refused c.refused.ensures c.plain.ensures (λ o. (refl, bad_source o))

pub returns-in-Err-minimised : goal.returns-in-Err-minimised
returns-in-Err-minimised c =
    subst (λ (r : Refusal). IsJudged (Minimises c.args.command.now c.args.source.now) (Err r)) (sym c.plain-in-Err-minimised.ensures)
    (by_limit c.args.command.now c.args.source.now c.in-Ok.machine c.in-Err-minimised.status c.in-Ok.ensures.accepted c.in-Err-minimised.ensures.refused)

pub product-requires-clause-names : goal.product-requires-clause-names
product-requires-clause-names c =
    let fewest = c.in-Ok-minimised.ensures.made.fewest in
    subst (λ (g : Fsm). CanBeFsm g) (sym fewest.made)
    (can_be_merged c.in-Ok.machine c.in-Ok-minimised.ensures.made.state_of fewest.kept
    (c.fsm_can_be_written.ensures c.args.source.now c.in-Ok.machine c.in-Ok.ensures.accepted).0)

pub product-requires-clause-few : goal.product-requires-clause-few
product-requires-clause-few c =
    let fewest = c.in-Ok-minimised.ensures.made.fewest in
    subst (λ (g : Fsm). length g.ports < 2 ^ 32) (sym fewest.made)
    (c.fsm_can_be_written.ensures c.args.source.now c.in-Ok.machine c.in-Ok.ensures.accepted).1

pub returns : goal.returns
returns c = record {
  f = c.in-Ok.machine;
  machine = c.in-Ok.ensures.accepted;
  few = c.in-Ok-minimised.ensures.few;
  g = c.in-Ok-minimised.made;
  minimal = c.in-Ok-minimised.ensures.made;
  name = c.in_ok-written.ensures.name;
  file = c.in_ok-written.ensures.file;
  text = c.in_ok-written.ensures.text;
}
