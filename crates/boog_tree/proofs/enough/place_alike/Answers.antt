use Rattle.boog_cuts.proofs.Growing.{is_number}
use Rattle.boog_tree.proofs.enough.place_alike.Goals as goal

pub returns-then-are_alike-clause-alike : goal.returns-then-are_alike-clause-alike
returns-then-are_alike-clause-alike c = (
  c.index-cuts-at.result,
  is_number c.args.cuts.now c.loop-at.at c.index-cuts-at.result c.loop-at-test.true c.index-cuts-at.is,
  c.are_alike.ensures c.if-are_alike.true,
)
