use Rattle.std.proofs.Common.{arith}
use Rattle.truth_tab.proofs.Lists.{rows_within}
use Rattle.truth_tab.proofs.rows.row_count.Goals as goal

pub returns-clause-count : goal.returns-clause-count
returns-clause-count c = let r = rows_within c.args.variables c.requires in omega (arith, r)

pub returns-clause-few : goal.returns-clause-few
returns-clause-few c = let r = rows_within c.args.variables c.requires in omega (arith, r)
