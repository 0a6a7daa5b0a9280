use Rattle.asimut_sim.proofs.PlaceLemmas.{is_index}
use Rattle.asimut_sim.proofs.places.Index.of.Goals as goal

pub returns : goal.returns
returns c = is_index c.new-places.result c.insert_all.new.self c.args.names.now c.requires c.new-places.ensures c.in_ok-insert_all.ensures
