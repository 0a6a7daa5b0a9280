use Rattle.cell_pins.proofs.Starts.{same_test}
use Rattle.boog_map.proofs.part.is_same.Goals as goal

pub returns : goal.returns
returns c = same_test c.args.a.now c.args.b.now c.is_same.result c.is_same.ensures
