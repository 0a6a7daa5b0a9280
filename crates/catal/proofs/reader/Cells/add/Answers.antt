use Rattle.catal.proofs.Using.{cell_added, cell_there}
use Rattle.catal.proofs.reader.Cells.add.Goals as goal

pub returns-in_ok-push : goal.returns-in_ok-push
returns-in_ok-push c =
    cell_added c.in_ok-added.added c.args.self.now.names c.push.new.self c.as_bytes.result.now c.args.name c.add.new.used c.as_bytes.ensures c.if-added.true
    (c.in_ok-added.ensures c.args.self.now.names c.requires) c.in_ok-push.ensures.ok

pub returns-else-added : goal.returns-else-added
returns-else-added c =
    cell_there c.in_ok-added.added c.args.self.now.names c.as_bytes.result.now c.args.name c.add.new.used c.as_bytes.ensures c.if-added.false
    (c.in_ok-added.ensures c.args.self.now.names c.requires)
