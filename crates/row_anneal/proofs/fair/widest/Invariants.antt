use Rattle.std.proofs.Common.{◌≡◌, max, drop}
use Rattle.row_meaning.specs.First.{widest}
use Rattle.row_anneal.proofs.fair.widest.Given as goal

abbrev pub invariant-loop-width : goal.invariant-loop-width
invariant-loop-width l = max l.most (widest (drop l.width-index l.columns)) ≡ widest l.columns
