use Rattle.std.proofs.Common.{arith, ◌∙◌, ap}
use Rattle.ap_io.specs.Fields.{lower}
use Rattle.ap_io.proofs.Near.{read_at}
use Rattle.ap_io.proofs.items.reference.Goals as goal

pub returns : goal.returns
returns c = let k = c.args.scale in let f = c.args.fields.now in record {
  x = read_at k f 2 0 c.at-3.result.now c.coordinate.result c.requires (omega arith) c.at-3.ensures c.coordinate.type_inv c.coordinate.ensures;
  y = read_at k f 2 1 c.at-4.result.now c.coordinate-2.result c.requires (omega arith) c.at-4.ensures c.coordinate-2.type_inv c.coordinate-2.ensures;
  word = c.in_ok-word.ensures ∙ ap lower c.at.ensures;
  name = c.in_ok-name.ensures ∙ c.at-2.ensures;
}
