use Rattle.std.proofs.Common.{arith, ◌∙◌, ap}
use Rattle.ap_io.specs.Words.{contact_of}
use Rattle.ap_io.proofs.Near.{read_at}
use Rattle.ap_io.proofs.items.via.Goals as goal

pub returns : goal.returns
returns c = let k = c.args.scale in let f = c.args.fields.now in record {
  x = read_at k f 2 0 c.at-2.result.now c.coordinate.result c.requires.near (omega arith) c.at-2.ensures c.coordinate.type_inv c.coordinate.ensures;
  y = read_at k f 2 1 c.at-3.result.now c.coordinate-2.result c.requires.near (omega arith) c.at-3.ensures c.coordinate-2.type_inv c.coordinate-2.ensures;
  contact = c.in_ok-contact.ensures ∙ ap contact_of c.at.ensures;
  name = c.in_ok-name.ensures;
}
