use Rattle.std.proofs.Common.{ap, ◌∙◌, List}
use Rattle.source_checks.specs.declared.symbol_table.Symbol.{Symbol}
use Rattle.source_checks.specs.Known.{position_of}
use Rattle.source_checks.proofs.symbol_table.SymbolTable.place.Goals as goal

pub returns : goal.returns
returns c = c.place_of.ensures ∙ c.self.invariant.each c.args.text.now ∙ ap (λ (known : List Symbol). position_of known c.args.text.now) c.self.view_is
