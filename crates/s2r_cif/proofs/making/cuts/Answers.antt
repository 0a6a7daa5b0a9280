use Rattle.s2r_cif.proofs.Cutting.{cuts_next}
use Rattle.s2r_cif.proofs.making.cuts.Goals as goal

pub loop-item-preserved : goal.loop-item-preserved
loop-item-preserved c = record {
  value = cuts_next c.args.table.now c.args.items.now c.loop-item.item-index c.item-item.result c.loop-item.made.items c.put_cut.new.cuts.items c.loop-item-test.true c.item-item.is
      c.loop-item.invariant.value c.in_ok-put_cut.ensures.value;
  edges = c.in_ok-put_cut.ensures.edges;
}
