use Rattle.flow_words.proofs.Bounds.{flows_within, gens_within}
use Rattle.flow_words.proofs.law.words_are_within_bounds.Goals as goal

pub returns-clause-flows : goal.returns-clause-flows
returns-clause-flows c = flows_within

pub returns-clause-gens : goal.returns-clause-gens
returns-clause-gens c = gens_within
