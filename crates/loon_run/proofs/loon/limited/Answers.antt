use Rattle.std.proofs.Common.{false, Err, sym, subst, refl}
use Rattle.vst_io.specs.Text.{IsVstRefusal}
use Rattle.tool_drive.specs.Refusals.{refused_file}
use Rattle.tool_drive.specs.declared.tool.Refusal.{Refusal}
use Rattle.tool_drive.specs.Table.{IsJudged}
use Rattle.loon_run.specs.Loon.{bad_netlist, Limits}
use Rattle.vst_laws.proofs.Supplies.{lists_supplies}
use Rattle.loon_run.proofs.Refusing.{by_drive}
use Rattle.loon_run.proofs.loon.limited.Goals as goal

pub returns-in-Err : goal.returns-in-Err
returns-in-Err c = λ catal cells library.
    refused_file (Limits c.args.command.now c.args.source.now catal cells) c.args.command.now.source (IsVstRefusal c.args.source.now c.in_ok-table.table) c.in-Err.error c.refused.result c.plain.result c.in-Err.ensures.refused
    c.refused.ensures c.plain.ensures (λ o. (refl, bad_netlist c.args.library.now c.in_ok-table.table library c.in_ok-table.ensures.table o))

pub driven-requires-clause-drivable : goal.driven-requires-clause-drivable
driven-requires-clause-drivable c =
    c.loon_law.ensures.drivable c.requires.0 c.requires.1 c.args.library.now c.in_ok-table.table c.in-Ok.netlist c.requires.2 c.in_ok-table.ensures.table
    c.in-Ok.ensures.accepted.netlist.sound (c.in-Ok.ensures.condition (lists_supplies c.args.library.now false c.in_ok-table.table c.in_ok-table.ensures.table))

pub driven-requires-clause-room : goal.driven-requires-clause-room
driven-requires-clause-room c =
    c.loon_law.ensures.room c.requires.0 c.args.source.now c.requires.1 c.args.library.now c.in_ok-table.table c.in-Ok.netlist c.requires.2 c.in_ok-table.ensures.table
    c.in-Ok.ensures.accepted (c.in-Ok.ensures.condition (lists_supplies c.args.library.now false c.in_ok-table.table c.in_ok-table.ensures.table))

pub returns-in-Err-driven : goal.returns-in-Err-driven
returns-in-Err-driven c = λ catal cells library.
    subst (λ (r : Refusal). IsJudged (Limits c.args.command.now c.args.source.now catal cells) (Err r)) (sym c.plain-in-Err-driven.ensures)
    (by_drive c.args.command.now c.args.source.now catal cells c.args.library.now c.in_ok-table.table library c.in_ok-table.ensures.table c.in-Ok.netlist
    c.in-Ok.ensures.accepted c.in-Err-driven.error c.drive_status.result c.in-Err-driven.ensures.refused c.drive_status.ensures)

pub product-requires : goal.product-requires
product-requires c =
    let met = c.in-Ok.ensures.condition (lists_supplies c.args.library.now false c.in_ok-table.table c.in_ok-table.ensures.table) in
    c.loon_law.ensures.writable c.requires.0 c.args.source.now c.requires.1 c.args.library.now c.in_ok-table.table c.in-Ok.netlist c.in-Ok-driven.driven.netlist
    c.args.command.now.fanout c.in-Ok-driven.driven.delay c.requires.2 c.in_ok-table.ensures.table c.in_ok-table.ensures.sound c.in-Ok.ensures.accepted met
    c.in-Ok-driven.ensures.made c.in-Ok-driven.ensures.cells

pub returns : goal.returns
returns c = λ catal cells library. record {
  l = c.args.library.now;
  table = c.in_ok-table.table;
  n = c.in-Ok.netlist;
  read = record { library = library; pins = c.in_ok-table.ensures.table; netlist = c.in-Ok.ensures.accepted };
  k = c.in-Ok-driven.driven.netlist;
  delay = c.in-Ok-driven.driven.delay;
  sound = c.in-Ok-driven.ensures.sound;
  made = c.in-Ok-driven.ensures.made;
  right = c.in-Ok-driven.ensures.right;
  written = c.in_ok-written.ensures;
}
