use Rattle.std.proofs.Common.{rules}
use Rattle.cell_lib.proofs.Loading.{files_more}
use Rattle.cell_lib.proofs.files.cell_files.Goals as goal

pub loop-name-preserved : goal.loop-name-preserved
loop-name-preserved c =
    files_more c.args.dir.now c.args.names.now c.loop-name.name-index c.name-item.result c.name-item.result c.loop-name.wanted.items c.push.new.self.items
    c.push-in-loop-name.new.self.items (search rules) (search rules) c.loop-name.invariant (search rules) (search rules)
