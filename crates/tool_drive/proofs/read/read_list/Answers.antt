use Rattle.std.proofs.Common.{rules}
use Rattle.tool_drive.proofs.Reading.{list_stop, list_more}
use Rattle.tool_drive.proofs.read.read_list.Goals as goal

pub loop-item-preserved : goal.loop-item-preserved
loop-item-preserved g c = record {
  counted = search rules;
  reads = search rules;
  had = rw c.in_ok-push-in-Ok.ensures.items (list_more (g.S.Shelf.seen c.args.shelf.now) (g.S.Shelf.seen c.loop-item.shelf) c.args.wanted.now c.loop-item.item-index
      c.item-item.result c.item-item.result c.loop-item.read.items c.in-Ok.bytes c.loop-item.invariant.reads c.loop-item-test.true c.item-item.is c.loop-item.invariant.had c.in-Ok.ensures.ok);
}

pub returns-in-Err-clause-err : goal.returns-in-Err-clause-err
returns-in-Err-clause-err g c =
    list_stop (g.S.Shelf.seen c.args.shelf.now) (g.S.Shelf.seen c.loop-item.shelf) (g.S.Shelf.seen c.read_file.new.shelf) c.args.wanted.now c.loop-item.item-index
    c.item-item.result c.item-item.result c.loop-item.read.items c.in-Err.stop c.loop-item.invariant.reads c.loop-item-test.true c.item-item.is c.loop-item.invariant.had c.in-Err.ensures.err
