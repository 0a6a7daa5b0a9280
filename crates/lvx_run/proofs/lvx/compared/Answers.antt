use Rattle.std.proofs.Common.{ℕ, List, Err, sym, subst}
use Rattle.vst_io.specs.Text.{IsVst}
use Rattle.tool_drive.specs.declared.tool.Refusal.{Refusal}
use Rattle.tool_drive.specs.Refusals.{MemoryOr}
use Rattle.tool_drive.specs.Table.{IsJudged}
use Rattle.lvx_run.specs.Lvx.{texts, AreCells, IsUnread, Compares}
use Rattle.lvx_run.proofs.Netlists.{by_unread, by_told}
use Rattle.lvx_run.proofs.lvx.compared.Goals as goal

pub returns-in-Ok : goal.returns-in-Ok
returns-in-Ok c = λ more library.
    let t = texts c.args.first.now more in
    let l = c.args.library.now in
    let table = c.in_ok-table.table in
    let cells : AreCells t l table = record { library = library; pins = c.in_ok-table.ensures.table } in
    let first : IsVst t.source table c.in-Ok.both.0 = subst (λ (x : List ℕ). IsVst x table c.in-Ok.both.0) c.bytes_at-source.ensures c.in-Ok.ensures.first in
    let second : IsVst t.other table c.in-Ok.both.1 = subst (λ (x : List ℕ). IsVst x table c.in-Ok.both.1) c.bytes_at-other.ensures c.in-Ok.ensures.second in
    by_told c.args.command.now t l table c.in-Ok.both.0 c.in-Ok.both.1 c.told.result cells first second c.told.ensures

pub returns : goal.returns
returns c = λ more library.
    let t = texts c.args.first.now more in
    let l = c.args.library.now in
    let table = c.in_ok-table.table in
    let s = c.in-Err.status in
    let cells : AreCells t l table = record { library = library; pins = c.in_ok-table.ensures.table } in
    let unread : MemoryOr s (IsUnread c.args.command.now t.source t.other table s) =
    subst (λ (x : List ℕ). MemoryOr s (IsUnread c.args.command.now x t.other table s)) c.bytes_at-source.ensures
    (subst (λ (x : List ℕ). MemoryOr s (IsUnread c.args.command.now c.bytes_at-source.result.now x table s)) c.bytes_at-other.ensures c.in-Err.ensures.refused) in
    subst (λ (r : Refusal). IsJudged (Compares c.args.command.now t) (Err r)) (sym c.plain.ensures) (by_unread c.args.command.now t l table s cells unread)
