use Rattle.loon_laws.proofs.Meets.{driven_meets, made_meets}
use Rattle.loon_laws.proofs.read_again.meets_law.Goals as goal

pub returns-clause-driven : goal.returns-clause-driven
returns-clause-driven c = driven_meets (record {
  passes = c.passes_law.ensures;
  remains = c.remains_law.ensures;
  cells = c.exchanged_law.ensures.cells;
  grown = c.driven_law.ensures.grown;
})

pub returns-clause-made : goal.returns-clause-made
returns-clause-made c = made_meets (record {
  passes = c.passes_law.ensures;
  remains = c.remains_law.ensures;
  cells = c.exchanged_law.ensures.cells;
  grown = c.driven_law.ensures.grown;
})
