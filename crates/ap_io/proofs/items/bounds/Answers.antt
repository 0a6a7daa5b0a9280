use Rattle.std.proofs.Common.{arith}
use Rattle.ap_io.proofs.Near.{read_at}
use Rattle.ap_io.proofs.items.bounds.Goals as goal

pub returns : goal.returns
returns c = let k = c.args.scale in let f = c.args.fields.now in record {
  x1 = read_at k f 4 0 c.at.result.now c.coordinate.result c.requires (omega arith) c.at.ensures c.coordinate.type_inv c.coordinate.ensures;
  y1 = read_at k f 4 1 c.at-2.result.now c.coordinate-2.result c.requires (omega arith) c.at-2.ensures c.coordinate-2.type_inv c.coordinate-2.ensures;
  x2 = read_at k f 4 2 c.at-3.result.now c.coordinate-3.result c.requires (omega arith) c.at-3.ensures c.coordinate-3.type_inv c.coordinate-3.ensures;
  y2 = read_at k f 4 3 c.at-4.result.now c.coordinate-4.result c.requires (omega arith) c.at-4.ensures c.coordinate-4.type_inv c.coordinate-4.ensures;
}
