use Rattle.std.proofs.lemmas.Result.{IfOk-weaker}
use Rattle.cell_lib.proofs.Tools.{more_are}
use Rattle.cell_lib.proofs.tool.WithLibraryTool.more.Goals as goal

pub returns : goal.returns
returns g c =
    let t = c.args.self.now.0.now in
    IfOk-weaker c.named_files.result _ _
    (λ w h.
    more_are (g.T.LibraryTool.files t) (g.T.LibraryTool.folder t) c.library_folder.result.now c.args.first.now c.catal_in.result.now w.items c.requires c.catal_in.ensures
    c.library_folder.ensures h) c.named_files.ensures
