use Rattle.std.proofs.Common.{true, ℕ, List, Err, sym, subst}
use Rattle.vst_io.specs.Text.{IsVst, IsVstRefusal}
use Rattle.vst_laws.proofs.Supplies.{lists_supplies}
use Rattle.tool_drive.specs.declared.tool.Refusal.{Refusal}
use Rattle.tool_drive.specs.Table.{IsJudged}
use Rattle.asimut_run.specs.Netlist.{texts, Simulates}
use Rattle.asimut_run.proofs.Netlists.{by_netlist}
use Rattle.asimut_run.proofs.netlist.simulated.Goals as goal

pub returns-in-Err : goal.returns-in-Err
returns-in-Err c = λ more library.
    let t = texts c.args.first.now more in
    let table = c.in_ok-table.table in
    let refused = subst (λ (x : List ℕ). IsVstRefusal x table c.in-Err.error) c.bytes_at.ensures c.in-Err.ensures.refused in
    subst (λ (r : Refusal). IsJudged (Simulates c.args.command.now t) (Err r)) (sym c.plain.ensures)
    (by_netlist c.args.command.now t c.args.library.now table c.in-Err.error c.refused.result (record { library = library; pins = c.in_ok-table.ensures.table }) refused c.refused.ensures)

pub on_netlist-requires : goal.on_netlist-requires
on_netlist-requires c =
    (c.in_ok-table.table, c.in_ok-table.ensures.table, c.in-Ok.ensures.condition (lists_supplies c.args.library.now true c.in_ok-table.table c.in_ok-table.ensures.table))

pub returns : goal.returns
returns c = λ more library.
    let t = texts c.args.first.now more in
    let table = c.in_ok-table.table in
    let netlist = subst (λ (x : List ℕ). IsVst x table c.in-Ok.netlist) c.bytes_at.ensures c.in-Ok.ensures.accepted in
    let met = c.in-Ok.ensures.condition (lists_supplies c.args.library.now true table c.in_ok-table.ensures.table) in
    c.on_netlist.ensures t table (record { library = library; pins = c.in_ok-table.ensures.table }) netlist met (sym c.bytes_at-2.ensures)
