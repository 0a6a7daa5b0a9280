use Rattle.std.proofs.Common.{Err, sym, subst, refl}
use Rattle.vbe_io.specs.Text.{IsVbeRefusal}
use Rattle.tool_drive.specs.Refusals.{refused_file}
use Rattle.tool_drive.specs.declared.tool.Refusal.{Refusal}
use Rattle.tool_drive.specs.Table.{IsJudged}
use Rattle.boog_run.specs.Boog.{bad_source, Maps}
use Rattle.boog_run.proofs.Mapping.{mapping}
use Rattle.boog_run.proofs.Naming.{writable}
use Rattle.boog_run.proofs.Refusing.{by_netlist}
use Rattle.boog_run.proofs.Sizes.{few_ports}
use Rattle.boog_run.proofs.boog.mapped.Goals as goal

pub netlist_of-requires : goal.netlist_of-requires
netlist_of-requires c = few_ports c.args.source.now c.in-Ok.machine c.in-Ok.ensures.accepted

pub product-requires : goal.product-requires
product-requires c =
    writable c.catal_is_named.ensures c.cell_can_be_written.ensures c.requires.0 c.requires.1 c.args.library.now c.requires.2 c.in-Ok.machine
    c.in-Ok-netlist_of.netlist c.in-Ok-netlist_of.ensures.right c.in-Ok-netlist_of.ensures.small
    (c.machine_is_named.ensures c.args.source.now c.in-Ok.machine c.in-Ok.ensures.accepted).0
    (c.machine_can_be_written.ensures c.args.source.now c.in-Ok.machine c.in-Ok.ensures.accepted)

pub returns-in-Err : goal.returns-in-Err
returns-in-Err c = λ catal cells library.
    refused_file (Maps c.args.command.now c.args.source.now catal cells) c.args.command.now.source (IsVbeRefusal c.args.source.now) c.in-Err.error c.refused.result c.plain.result c.in-Err.ensures.refused
    c.refused.ensures c.plain.ensures (λ o. (refl, bad_source c.args.library.now library o))

pub returns-in-Err-netlist_of : goal.returns-in-Err-netlist_of
returns-in-Err-netlist_of c = λ catal cells library.
    subst (λ (r : Refusal). IsJudged (Maps c.args.command.now c.args.source.now catal cells) (Err r)) (sym c.plain-in-Err-netlist_of.ensures)
    (by_netlist c.args.command.now c.args.source.now catal cells c.args.library.now c.in-Ok.machine c.in-Err-netlist_of.status library
    c.in-Ok.ensures.accepted c.in-Err-netlist_of.ensures.refused)

pub returns : goal.returns
returns c = λ catal cells library.
    mapping c.args.command.now c.args.source.now catal cells c.args.library.now c.in-Ok.machine c.in-Ok-netlist_of.netlist c.in_ok-written.written
    library c.in-Ok.ensures.accepted c.in-Ok-netlist_of.ensures.small c.in-Ok-netlist_of.ensures.right c.in_ok-written.ensures
