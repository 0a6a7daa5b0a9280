use Rattle.std.proofs.Common.{rules, sym, ◌∙◌}
use Rattle.vhdl_token.specs.Keyword.{keyword_of}
use Rattle.vhdl_token.proofs.Words.{keyword_of_none}
use Rattle.vhdl_token.proofs.keyword.Keyword.from_word.Goals as goal

pub returns-clause-first : goal.returns-clause-first
unfolding keyword_of
returns-clause-first c = c.keyword_among.ensures.first

pub returns-clause-none : goal.returns-clause-none
unfolding keyword_of
returns-clause-none c = λ none. keyword_of_none c.args.word.now (sym c.keyword_among.ensures.first ∙ search rules)
