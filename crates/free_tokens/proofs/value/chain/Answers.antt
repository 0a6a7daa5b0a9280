use Rattle.std.proofs.Common.{rules}
use Rattle.vlsi_base.specs.declared.expression.ParsedExpr.TheViews.{the_lemmas}
use Rattle.vlsi_base.proofs.Groups.{grouped_is}
use Rattle.free_tokens.proofs.value.chain.Goals as goal

pub returns : goal.returns
returns c = search (rules, the_lemmas, grouped_is)
