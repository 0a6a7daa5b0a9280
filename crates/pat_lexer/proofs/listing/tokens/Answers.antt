use Rattle.std.proofs.Common.{◌∙◌}
use Rattle.pat_lexer.proofs.NoPragmas.{no_pragmas}
use Rattle.pat_lexer.proofs.listing.tokens.Goals as goal

pub returns-clause-no_pragmas : goal.returns-clause-no_pragmas
returns-clause-no_pragmas c = c.into_tokens.ensures.pragmas ∙ c.in_ok-front.ensures.read.pragmas ∙ no_pragmas c.args.bytes.now
