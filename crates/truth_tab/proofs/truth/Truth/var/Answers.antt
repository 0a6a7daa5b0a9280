use Rattle.std.proofs.Common.{◌∙◌, arith}
use Rattle.truth_tab.specs.Table.{row_of}
use Rattle.truth_tab.proofs.Lists.{row_bit_of, row_below}
use Rattle.truth_tab.proofs.truth.Truth.var.Goals as goal

pub returns : goal.returns
returns g c = λ w h. c.pattern.ensures (row_of w) (row_below w (omega arith)) ∙ row_bit_of w c.args.k
