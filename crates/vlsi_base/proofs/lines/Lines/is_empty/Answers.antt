use Rattle.vlsi_base.proofs.Cutting.{ends_exactly}
use Rattle.vlsi_base.proofs.lines.Lines.is_empty.Goals as goal

pub returns : goal.returns
returns c = ends_exactly c.self.inside.text.now c.is_empty.result c.args.self.now c.self.view_is c.is_empty.ensures
