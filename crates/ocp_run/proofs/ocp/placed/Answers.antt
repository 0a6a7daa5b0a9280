use Rattle.std.proofs.Common.{ℕ, false, List, Err, sym, ap, subst}
use Rattle.tool_drive.specs.declared.tool.Refusal.{Refusal}
use Rattle.tool_drive.specs.Refusals.{MemoryOr}
use Rattle.tool_drive.specs.Table.{IsJudged}
use Rattle.vst_laws.proofs.Supplies.{lists_supplies}
use Rattle.ocp_anneal.specs.Rows.{IsWellPlaced}
use Rattle.ocp_run.specs.Asked.{Asked}
use Rattle.ocp_run.specs.Source.{IsNoSource}
use Rattle.ocp_run.specs.Ocp.{IsWrittenAs, Places}
use Rattle.ocp_run.proofs.Refusing.{by_source}
use Rattle.ocp_run.proofs.ocp.placed.Goals as goal

pub returns-in-Err : goal.returns-in-Err
returns-in-Err c = λ catal cells library.
    let s = c.in-Err.status in
    let table = c.in_ok-table.table in
    let refused = subst (λ (f : List ℕ). MemoryOr s (IsNoSource f c.args.source.now table s)) (ap (λ (a : Asked). a.source) c.command.view_is) c.in-Err.ensures.refused in
    subst (λ (r : Refusal). IsJudged (Places c.args.command.now c.args.source.now catal cells) (Err r)) (sym c.plain.ensures)
    (by_source c.args.command.now c.args.source.now catal cells c.args.library.now table s library c.in_ok-table.ensures.table refused)

pub place-requires-clause-library : goal.place-requires-clause-library
place-requires-clause-library c =
    let l = c.args.library.now in
    let table = c.in_ok-table.table in
    (c.source_law.ensures.placed c.args.source.now c.requires.0 c.requires.1 l table c.in-Ok.netlist
    (record { library = c.requires.2; pins = c.in_ok-table.ensures.table; netlist = c.in-Ok.ensures.read })
    (c.in-Ok.ensures.condition (lists_supplies l false table c.in_ok-table.ensures.table))).passed

pub place-requires-clause-netlist : goal.place-requires-clause-netlist
place-requires-clause-netlist c =
    let l = c.args.library.now in
    let table = c.in_ok-table.table in
    (c.source_law.ensures.placed c.args.source.now c.requires.0 c.requires.1 l table c.in-Ok.netlist
    (record { library = c.requires.2; pins = c.in_ok-table.ensures.table; netlist = c.in-Ok.ensures.read })
    (c.in-Ok.ensures.condition (lists_supplies l false table c.in_ok-table.ensures.table))).drawable

pub returns : goal.returns
returns c = λ catal cells library.
    let l = c.args.library.now in
    let n = c.in-Ok.netlist in
    let p = c.in_ok-placement.placement in
    record {
      l = l;
      table = c.in_ok-table.table;
      n = n;
      read = record { library = library; pins = c.in_ok-table.ensures.table; netlist = c.in-Ok.ensures.read };
      placement = p;
      placed = record {
        placed = c.in_ok-placement.ensures.placed;
        even = c.in_ok-placement.ensures.even;
        good = subst (λ (a : Asked). IsWellPlaced l n a.rows a.seed a.moves p) c.command.view_is c.in_ok-placement.ensures.good;
      };
      written = subst (λ (a : Asked). IsWrittenAs a.out l n p c.in_ok-product.product) c.command.view_is c.in_ok-product.ensures;
    }
