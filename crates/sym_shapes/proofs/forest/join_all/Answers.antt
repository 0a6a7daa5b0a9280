use Rattle.sym_shapes.proofs.Joins.{alone_spans, grows_then}
use Rattle.sym_shapes.proofs.Marked.{covers_so}
use Rattle.sym_shapes.proofs.forest.join_all.Goals as goal

pub returns-clause-covers : goal.returns-clause-covers
returns-clause-covers c =
    let lines = c.in_ok-join_marked.ensures in
    let names = c.in_ok-join_marked-2.ensures in
    covers_so c.args.shapes.now c.join_touching.new.forest.groups c.join_marked.new.forest.groups c.join_marked-2.new.forest.groups
    c.in_ok-join_touching.ensures.covers lines.grows.kept lines.covers names.grows.kept names.covers

pub returns-clause-spans : goal.returns-clause-spans
returns-clause-spans c =
    let made = c.in_ok-forest.ensures in
    let grows = grows_then c.in_ok-join_touching.ensures.grows (grows_then c.in_ok-join_marked.ensures.grows c.in_ok-join_marked-2.ensures.grows) in
    grows.spans (alone_spans c.args.shapes.now c.in_ok-forest.forest made.alone made.none)
