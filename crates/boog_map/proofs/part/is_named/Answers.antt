use Rattle.vlsi_base.specs.Names.{scalar}
use Rattle.cell_pins.proofs.Starts.{same_test}
use Rattle.boog_map.proofs.part.is_named.Goals as goal

pub returns : goal.returns
returns c = same_test c.args.name.now (scalar c.args.text.now) c.is_scalar.result c.is_scalar.ensures
