use Rattle.std.proofs.Common.{ℕ, List, false, Err, sym, subst}
use Rattle.tool_drive.specs.declared.tool.Refusal.{Refusal}
use Rattle.tool_drive.specs.Plan.{inputs}
use Rattle.tool_drive.specs.Table.{IsJudged}
use Rattle.cell_lib.specs.Cells.{OrMemory}
use Rattle.cell_lib.specs.Library.{IsLibraryOf, IsRefusedLibrary}
use Rattle.cell_lib.proofs.Answering.{refused_library}
use Rattle.cell_lib.proofs.Tools.{catal_is}
use Rattle.cell_lib.proofs.tool.WithLibraryTool.judge.Goals as goal

pub judge_with-requires : goal.judge_with-requires
judge_with-requires g c = (c.catal_in.result.now, c.args.more.now, c.in-Ok.ensures.ok)

pub returns-in-Ok : goal.returns-in-Ok
returns-in-Ok g c =
    let t = c.args.self.now.0.now in
    let catal = catal_is (g.T.LibraryTool.files t) (g.T.LibraryTool.folder t) c.args.first.now c.catal_in.result.now c.requires.first c.catal_in.ensures in
    c.judge_with.ensures c.args.more.now (subst (λ (x : List ℕ). IsLibraryOf false x c.args.more.now c.in-Ok.library) catal c.in-Ok.ensures.ok)

pub returns-in-Err : goal.returns-in-Err
returns-in-Err g c =
    let t = c.args.self.now.0.now in
    let first = c.args.first.now in
    let more = c.args.more.now in
    let catal = catal_is (g.T.LibraryTool.files t) (g.T.LibraryTool.folder t) first c.catal_in.result.now c.requires.first c.catal_in.ensures in
    let unread = subst (λ (x : List ℕ). OrMemory (IsRefusedLibrary false x more) c.in-Err.error) catal c.in-Err.ensures.err in
    let A = g.T.LibraryTool.answers t (inputs first more) in
    subst (λ (r : Refusal). IsJudged A (Err r)) (sym c.plain.ensures)
    (rw (c.library_status.ensures) (refused_library A false _ more c.in-Err.error unread (λ e r. g.met.T.LibraryTool.refuses t first more e r)))
