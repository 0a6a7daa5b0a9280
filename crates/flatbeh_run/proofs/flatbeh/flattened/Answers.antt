use Rattle.std.proofs.Common.{true, Err, sym, subst, refl, arith}
use Rattle.vst_io.specs.Text.{IsVstRefusal}
use Rattle.tool_drive.specs.Refusals.{refused_file}
use Rattle.tool_drive.specs.declared.tool.Refusal.{Refusal}
use Rattle.tool_drive.specs.Table.{IsJudged}
use Rattle.machine_core.specs.Checked.{IsChecked}
use Rattle.vst_laws.proofs.Supplies.{lists_supplies}
use Rattle.flatbeh_run.specs.Flatbeh.{bad_netlist, Flattens}
use Rattle.flatbeh_run.proofs.Refusing.{by_flat, by_clock}
use Rattle.flatbeh_run.proofs.FewBits.{names_few}
use Rattle.flatbeh_run.proofs.flatbeh.flattened.Goals as goal

pub returns-in-Err : goal.returns-in-Err
returns-in-Err c = λ catal cells library.
    refused_file (Flattens c.args.command.now c.args.source.now catal cells) c.args.command.now.source (IsVstRefusal c.args.source.now c.in_ok-table.table) c.in-Err.error c.refused.result c.plain.result c.in-Err.ensures.refused
    c.refused.ensures c.plain.ensures (λ o. (refl, bad_netlist c.args.library.now c.in_ok-table.table library c.in_ok-table.ensures.table o))

pub flatbeh-requires-clause-condition : goal.flatbeh-requires-clause-condition
flatbeh-requires-clause-condition c =
    (c.in_ok-table.table, c.in_ok-table.ensures.table, c.in-Ok.ensures.condition (lists_supplies c.args.library.now true c.in_ok-table.table c.in_ok-table.ensures.table))

pub flatbeh-requires-clause-few : goal.flatbeh-requires-clause-few
flatbeh-requires-clause-few c = λ plain.
    let met = c.in-Ok.ensures.condition (lists_supplies c.args.library.now true c.in_ok-table.table c.in_ok-table.ensures.table) in
    let few = (c.netlist_has_few_bits.ensures c.requires.0 c.args.source.now c.requires.1 c.args.library.now c.in_ok-table.table c.in-Ok.netlist c.requires.2 c.in_ok-table.ensures.table
    c.in-Ok.ensures.accepted met plain).bits in
    omega (arith, few)

pub returns-in-Err-flatbeh : goal.returns-in-Err-flatbeh
returns-in-Err-flatbeh c = λ catal cells library.
    subst (λ (r : Refusal). IsJudged (Flattens c.args.command.now c.args.source.now catal cells) (Err r)) (sym c.plain-in-Err-flatbeh.ensures)
    (by_flat c.args.command.now c.args.source.now catal cells c.args.library.now c.in_ok-table.table library c.in_ok-table.ensures.table c.in-Ok.netlist
    c.in-Ok.ensures.accepted c.in-Err-flatbeh.error c.flat_status.result c.in-Err-flatbeh.ensures.refused c.flat_status.ensures)

pub product-requires-clause-few : goal.product-requires-clause-few
product-requires-clause-few c =
    let met = c.in-Ok.ensures.condition (lists_supplies c.args.library.now true c.in_ok-table.table c.in_ok-table.ensures.table) in
    names_few c.in-Ok.netlist c.args.library.now c.in_ok-table.table c.in-Ok-flatbeh.machine
    (c.netlist_has_few_bits.ensures c.requires.0 c.args.source.now c.requires.1 c.args.library.now c.in_ok-table.table c.in-Ok.netlist c.requires.2 c.in_ok-table.ensures.table
    c.in-Ok.ensures.accepted met c.in-Ok-flatbeh.ensures.plain)
    (c.in-Ok-flatbeh.ensures.machine c.in_ok-table.table c.in_ok-table.ensures.table met) c.in-Ok-flatbeh.ensures.numbered

pub returns-in-Some : goal.returns-in-Some
returns-in-Some c = λ catal cells library.
    subst (λ (r : Refusal). IsJudged (Flattens c.args.command.now c.args.source.now catal cells) (Err r)) (sym c.plain-in-Some.ensures)
    (by_clock c.args.command.now c.args.source.now catal cells c.args.library.now c.in_ok-table.table library c.in_ok-table.ensures.table c.in-Ok.netlist
    c.in-Ok.ensures.accepted c.in-Ok-flatbeh.machine c.in-Ok-flatbeh.ensures.plain c.in-Ok-flatbeh.ensures.apart
    (c.in-Ok-flatbeh.ensures.machine c.in_ok-table.table c.in_ok-table.ensures.table (c.in-Ok.ensures.condition (lists_supplies c.args.library.now true c.in_ok-table.table c.in_ok-table.ensures.table)))
    c.in-Some.name.now c.clock_status.result c.in-Some.ensures c.clock_status.ensures)

pub returns : goal.returns
returns c = λ catal cells library. record {
  l = c.args.library.now;
  table = c.in_ok-table.table;
  n = c.in-Ok.netlist;
  m = c.in-Ok-flatbeh.machine;
  read = record { library = library; pins = c.in_ok-table.ensures.table; netlist = c.in-Ok.ensures.accepted };
  plain = c.in-Ok-flatbeh.ensures.plain;
  apart = c.in-Ok-flatbeh.ensures.apart;
  flat = c.in-Ok-flatbeh.ensures.machine c.in_ok-table.table c.in_ok-table.ensures.table
      (c.in-Ok.ensures.condition (lists_supplies c.args.library.now true c.in_ok-table.table c.in_ok-table.ensures.table));
  numbered = c.in-Ok-flatbeh.ensures.numbered;
  checked = subst IsChecked c.machine.view_is c.machine.invariant;
  names = c.in-Ok-flatbeh.ensures.text (c.netlist_has_words.ensures c.args.source.now c.in_ok-table.table c.in-Ok.netlist c.in-Ok.ensures.accepted) c.in_default.ensures;
  written = c.in_ok-written.ensures;
}
