use Rattle.std.proofs.Common.{ℕ, false, List, ap, subst}
use Rattle.ocp_grid.specs.Points.{HasFewNodes}
use Rattle.tool_drive.specs.Refusals.{MemoryOr}
use Rattle.vst_laws.proofs.Supplies.{lists_supplies}
use Rattle.ocp_run.specs.Source.{IsSource, IsNoSource}
use Rattle.nero_run.specs.Asked.{Asked}
use Rattle.nero_run.specs.Nero.{texts, NetlistIsRead, IsPlacementIn, IsUnplaced, IsOverGrid, IsGiven}
use Rattle.nero_run.proofs.Grid.{few_rows}
use Rattle.nero_run.proofs.Refusing.{by_source, by_placed, by_grid}
use Rattle.nero_run.proofs.given.read_given.Goals as goal

pub returns-in-Err-clause-refused : goal.returns-in-Err-clause-refused
returns-in-Err-clause-refused c = λ more library.
    let t = texts c.args.first.now more in
    let asked = c.args.command.now in
    let table = c.in-Ok.table in
    let s = c.in-Err.status in
    let told = subst (λ (f : List ℕ). MemoryOr s (IsNoSource f c.bytes_at.result.now table s)) (ap (λ (a : Asked). a.source) c.command.view_is) c.in-Err.ensures.refused in
    let refused = subst (λ (b : List ℕ). MemoryOr s (IsNoSource asked.source b table s)) c.bytes_at.ensures told in
    by_source asked t c.args.library.now table s library c.in-Ok.ensures.table refused

pub read_placement-placed-requires-clause-library : goal.read_placement-placed-requires-clause-library
read_placement-placed-requires-clause-library c =
    let l = c.args.library.now in
    let table = c.in-Ok.table in
    (c.source_law.ensures.placed c.bytes_at.result.now c.requires.0 c.requires.1 l table c.in-Ok-read_source.netlist
    (record { library = c.requires.2; pins = c.in-Ok.ensures.table; netlist = c.in-Ok-read_source.ensures.read })
    (c.in-Ok-read_source.ensures.condition (lists_supplies l false table c.in-Ok.ensures.table))).passed

pub read_placement-placed-requires-clause-netlist : goal.read_placement-placed-requires-clause-netlist
read_placement-placed-requires-clause-netlist c =
    let l = c.args.library.now in
    let table = c.in-Ok.table in
    (c.source_law.ensures.placed c.bytes_at.result.now c.requires.0 c.requires.1 l table c.in-Ok-read_source.netlist
    (record { library = c.requires.2; pins = c.in-Ok.ensures.table; netlist = c.in-Ok-read_source.ensures.read })
    (c.in-Ok-read_source.ensures.condition (lists_supplies l false table c.in-Ok.ensures.table))).drawable

pub returns-in-Err-placed-clause-refused : goal.returns-in-Err-placed-clause-refused
returns-in-Err-placed-clause-refused c = λ more library.
    let t = texts c.args.first.now more in
    let asked = c.args.command.now in
    let l = c.args.library.now in
    let table = c.in-Ok.table in
    let n = c.in-Ok-read_source.netlist in
    let s = c.in-Err-placed.status in
    let read : NetlistIsRead t l table n = record {
      library = library;
      pins = c.in-Ok.ensures.table;
      netlist = subst (λ (b : List ℕ). IsSource b table n) c.bytes_at.ensures c.in-Ok-read_source.ensures.read;
    } in
    let told = subst (λ (f : List ℕ). MemoryOr s (IsUnplaced f c.bytes_at-2.result.now l n s)) (ap (λ (a : Asked). a.placed) c.command.view_is) c.in-Err-placed.ensures.refused in
    let refused = subst (λ (b : List ℕ). MemoryOr s (IsUnplaced asked.placed b l n s)) c.bytes_at-2.ensures told in
    by_placed asked t l table n read s refused

pub check_nodes-requires-clause-rows : goal.check_nodes-requires-clause-rows
check_nodes-requires-clause-rows c = few_rows c.args.library.now c.in-Ok-read_source.netlist c.in-Ok-placed.placement c.in-Ok-placed.ensures.placed.placed

pub returns-clause-refused : goal.returns-clause-refused
returns-clause-refused c = λ more library.
    let t = texts c.args.first.now more in
    let asked = c.args.command.now in
    let l = c.args.library.now in
    let table = c.in-Ok.table in
    let n = c.in-Ok-read_source.netlist in
    let p = c.in-Ok-placed.placement in
    let s = c.in-Err-check_nodes.status in
    let given : IsGiven t l n p = record {
      table = table;
      read = record {
        library = library;
        pins = c.in-Ok.ensures.table;
        netlist = subst (λ (b : List ℕ). IsSource b table n) c.bytes_at.ensures c.in-Ok-read_source.ensures.read;
      };
      placed = subst (λ (b : List ℕ). IsPlacementIn b l n p) c.bytes_at-2.ensures c.in-Ok-placed.ensures.placed;
    } in
    let over = c.in-Err-check_nodes.ensures.many l n c.in-Ok-placed.ensures.placed.placed in
    by_grid asked t l n p given s (subst (λ (a : Asked). IsOverGrid l n p a.metals s) c.command.view_is over)

pub returns-in-Ok-check_nodes-clause-given : goal.returns-in-Ok-check_nodes-clause-given
returns-in-Ok-check_nodes-clause-given c = λ more library.
    let t = texts c.args.first.now more in
    let asked = c.args.command.now in
    let l = c.args.library.now in
    let table = c.in-Ok.table in
    let n = c.in-Ok-read_source.netlist in
    let p = c.in-Ok-placed.placement in
    let given : IsGiven t l n p = record {
      table = table;
      read = record {
        library = library;
        pins = c.in-Ok.ensures.table;
        netlist = subst (λ (b : List ℕ). IsSource b table n) c.bytes_at.ensures c.in-Ok-read_source.ensures.read;
      };
      placed = subst (λ (b : List ℕ). IsPlacementIn b l n p) c.bytes_at-2.ensures c.in-Ok-placed.ensures.placed;
    } in
    let few = subst (λ (a : Asked). HasFewNodes l n p a.metals) c.command.view_is (c.in-Ok-check_nodes.ensures.few l n c.in-Ok-placed.ensures.placed.placed) in
    record { given = given; few = few }

pub returns-in-Ok-check_nodes-clause-few : goal.returns-in-Ok-check_nodes-clause-few
returns-in-Ok-check_nodes-clause-few c =
    let l = c.args.library.now in
    let n = c.in-Ok-read_source.netlist in
    let p = c.in-Ok-placed.placement in
    subst (λ (a : Asked). HasFewNodes l n p a.metals) c.command.view_is (c.in-Ok-check_nodes.ensures.few l n c.in-Ok-placed.ensures.placed.placed)
