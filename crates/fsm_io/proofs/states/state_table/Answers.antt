use Rattle.std.proofs.Common.{List, ◌++◌, ap, ◌∙◌}
use Rattle.source_checks.specs.declared.symbol_table.Symbol.{Symbol}
use Rattle.fsm_io.specs.Known.{inner_symbols}
use Rattle.fsm_io.specs.Pieces.{symbol_texts}
use Rattle.fsm_io.proofs.StateNames.{texts_inner}
use Rattle.fsm_io.proofs.states.state_table.Goals as goal

pub returns : goal.returns
returns c = ap symbol_texts (c.in_ok-made.ensures ∙ ap (λ (k : List Symbol). k ++ inner_symbols 0 c.args.states.now) c.empty.ensures) ∙ texts_inner 0 c.args.states.now
