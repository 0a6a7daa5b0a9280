use Rattle.s2r_cif.proofs.Cutting.{boxes_next, edges_push}
use Rattle.s2r_cif.proofs.making.boxes.Goals as goal

pub loop-shape-preserved : goal.loop-shape-preserved
loop-shape-preserved c = record {
  value = boxes_next c.args.table.now c.args.shapes.now c.loop-shape.shape-index c.shape-item.result c.box_of.result c.loop-shape.made.items c.push.new.self.items c.loop-shape-test.true
      c.shape-item.is c.loop-shape.invariant.value c.in_ok-push.ensures.items c.box_of.ensures.value;
  edges = edges_push c.loop-shape.made.items c.push.new.self.items c.box_of.result c.in_ok-push.ensures.items c.loop-shape.invariant.edges c.box_of.ensures.edges;
}
