use Rattle.std.proofs.Common.{Err}
use Rattle.tool_drive.specs.Outside.{outside}
use Rattle.tool_drive.proofs.Rows.{lifts_at}
use Rattle.tool_drive.proofs.run.answer.Goals as goal

pub returns-in-Err-clause-left : goal.returns-in-Err-clause-left
returns-in-Err-clause-left g c =
    let sink = g.T.Sink.seen c.args.out.now in
    lifts_at (g.A.Tool.answers c.args.tool.now) c.deref.result.now c.deref-2.result.now c.args.read.now.first.items c.args.read.now.more.items c.deref.ensures.value c.deref-2.ensures.value
    (Err c.in-Err.refusal) c.in-Err.ensures (outside (g.S.Shelf.seen c.args.shelf.now) sink) (outside (g.S.Shelf.seen c.refuse.new.shelf) sink) c.refuse.result (c.refuse.ensures sink)
