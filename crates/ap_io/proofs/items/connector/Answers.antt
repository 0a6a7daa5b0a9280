use Rattle.std.proofs.Common.{arith, ◌∙◌, ap, sym}
use Rattle.ap_io.specs.Fields.{label_of}
use Rattle.ap_io.specs.Words.{layer_of, side_of}
use Rattle.ap_io.proofs.Near.{read_at, index_at}
use Rattle.ap_io.proofs.items.connector.Goals as goal

pub returns : goal.returns
returns c = let k = c.args.scale in let f = c.args.fields.now in record {
  x = read_at k f 3 0 c.at-2.result.now c.coordinate.result c.requires.near (omega arith) c.at-2.ensures c.coordinate.type_inv c.coordinate.ensures;
  y = read_at k f 3 1 c.at-3.result.now c.coordinate-2.result c.requires.near (omega arith) c.at-3.ensures c.coordinate-2.type_inv c.coordinate-2.ensures;
  width = read_at k f 3 2 c.at-4.result.now c.coordinate-3.result c.requires.near (omega arith) c.at-4.ensures c.coordinate-3.type_inv c.coordinate-3.ensures;
  name = c.in_ok-name.ensures ∙ ap label_of c.at.ensures;
  index = index_at f 4 c.at-5.result.now c.index.result c.requires.index c.at-5.ensures c.index.type_inv c.index.ensures;
  side = sym (ap side_of c.at-6.ensures) ∙ sym c.side_of.ensures ∙ c.unwrap.ensures;
  layer = sym (ap layer_of c.at-7.ensures) ∙ sym c.layer_of.ensures ∙ c.unwrap-2.ensures;
}
