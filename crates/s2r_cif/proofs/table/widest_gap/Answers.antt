use Rattle.s2r_cif.proofs.Scales.{all_within_gap}
use Rattle.s2r_cif.proofs.table.widest_gap.Goals as goal

pub returns : goal.returns
returns c = all_within_gap c.args.table.now c.largest.result c.requires.least c.largest.ensures.each
