use Rattle.std.proofs.Common.{sym, subst}
use Rattle.tool_drive.specs.declared.status.Status.{Status}
use Rattle.tool_drive.specs.Refusals.{MemoryOr}
use Rattle.flow_run.specs.View.{origin_view}
use Rattle.flow_run.specs.Flow.{IsNoSource, IsUnread, no_source}
use Rattle.tool_drive.specs.Refusals.{memory_then}
use Rattle.flow_run.proofs.Refusing.{by_list, by_cell}
use Rattle.flow_run.proofs.flow.read_all.Goals as goal

pub returns-in-Err-clause-refused : goal.returns-in-Err-clause-refused
returns-in-Err-clause-refused c =
    subst (λ (s : Status). MemoryOr s (IsUnread c.args.command.now c.args.source.now c.args.catal.now c.args.cells.now s)) (sym c.library_status.ensures)
    (by_list c.args.command.now c.args.source.now c.args.catal.now c.args.cells.now c.in-Err.error c.in-Err.ensures.err)

pub returns-in-Err-read_source-clause-refused : goal.returns-in-Err-read_source-clause-refused
returns-in-Err-read_source-clause-refused c =
    let command = c.args.command.now in
    let s = c.in-Err-read_source.status in
    memory_then s (IsNoSource command c.args.source.now s) (IsUnread command c.args.source.now c.args.catal.now c.args.cells.now s)
    (λ r. no_source c.in-Ok.names c.in-Ok.ensures.ok r) c.in-Err-read_source.ensures.refused

pub listed_library-requires : goal.listed_library-requires
listed_library-requires c = c.in-Ok.ensures.ok.used.different

pub returns-in-Ok-listed_library-clause-read : goal.returns-in-Ok-listed_library-clause-read
returns-in-Ok-listed_library-clause-read c = record {
  machine = c.in-Ok-read_source.ensures.accepted.machine;
  small = c.in-Ok-read_source.ensures.accepted.small;
  library = record { names = c.in-Ok.names; uses = c.in-Ok.ensures.ok; cells = c.in-Ok-listed_library.ensures.ok };
}

pub returns-clause-refused : goal.returns-clause-refused
returns-clause-refused c =
    subst (λ (s : Status). MemoryOr s (IsUnread c.args.command.now c.args.source.now c.args.catal.now c.args.cells.now s)) (sym c.library_status-in-Err-listed_library.ensures)
    (by_cell c.args.command.now c.args.source.now c.args.catal.now c.args.cells.now c.in-Ok.names (origin_view c.in-Ok-read_source.source.origin) c.in-Ok-read_source.source.machine
    c.in-Err-listed_library.error c.in-Ok-read_source.ensures.accepted c.in-Ok.ensures.ok c.in-Err-listed_library.ensures.err)
