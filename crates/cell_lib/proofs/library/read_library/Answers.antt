use Rattle.std.proofs.Common.{sym, subst}
use Rattle.cell_lib.specs.declared.error.LibError.{LibError}
use Rattle.cell_lib.specs.Cells.{OrMemory}
use Rattle.cell_lib.specs.Library.{IsRefusedLibrary}
use Rattle.cell_lib.proofs.Plain.{list_so, cells_so}
use Rattle.cell_lib.proofs.library.read_library.Goals as goal

pub returns-in-Err-clause-err : goal.returns-in-Err-clause-err
returns-in-Err-clause-err c =
    let r = c.in-Err.ensures.err in
    subst (λ (e : LibError). OrMemory (IsRefusedLibrary c.args.tracks c.args.catal.now c.args.files.now) e) (sym r.told)
    (list_so c.args.tracks c.args.catal.now c.args.files.now r.fault r.refusal)

pub listed_library-requires : goal.listed_library-requires
listed_library-requires c = c.in-Ok.ensures.ok.used.different

pub returns-in-Ok-listed_library-clause-ok : goal.returns-in-Ok-listed_library-clause-ok
returns-in-Ok-listed_library-clause-ok c = record { names = c.in-Ok.names; uses = c.in-Ok.ensures.ok; cells = c.in-Ok-listed_library.ensures.ok }

pub returns-clause-err : goal.returns-clause-err
returns-clause-err c =
    cells_so c.args.tracks c.args.catal.now c.args.files.now c.in-Ok.names c.in-Err-listed_library.error c.in-Ok.ensures.ok c.in-Err-listed_library.ensures.err
