use Rattle.std.proofs.Common.{arith, ◌∙◌, ap, sym}
use Rattle.ap_io.specs.Fields.{label_of}
use Rattle.ap_io.specs.Words.{direction_of, layer_of}
use Rattle.ap_io.proofs.Near.{read_at}
use Rattle.ap_io.proofs.items.segment.Goals as goal

pub returns : goal.returns
returns c = let k = c.args.scale in let f = c.args.fields.now in record {
  x1 = read_at k f 5 0 c.at-2.result.now c.coordinate.result c.requires.near (omega arith) c.at-2.ensures c.coordinate.type_inv c.coordinate.ensures;
  y1 = read_at k f 5 1 c.at-3.result.now c.coordinate-2.result c.requires.near (omega arith) c.at-3.ensures c.coordinate-2.type_inv c.coordinate-2.ensures;
  x2 = read_at k f 5 2 c.at-4.result.now c.coordinate-3.result c.requires.near (omega arith) c.at-4.ensures c.coordinate-3.type_inv c.coordinate-3.ensures;
  y2 = read_at k f 5 3 c.at-5.result.now c.coordinate-4.result c.requires.near (omega arith) c.at-5.ensures c.coordinate-4.type_inv c.coordinate-4.ensures;
  width = read_at k f 5 4 c.at-6.result.now c.coordinate-5.result c.requires.near (omega arith) c.at-6.ensures c.coordinate-5.type_inv c.coordinate-5.ensures;
  name = c.in_ok-name.ensures ∙ ap label_of c.at.ensures;
  direction = sym (ap direction_of c.at-7.ensures) ∙ sym c.direction_of.ensures ∙ c.unwrap.ensures;
  layer = sym (ap layer_of c.at-8.ensures) ∙ sym c.layer_of.ensures ∙ c.unwrap-2.ensures;
}
