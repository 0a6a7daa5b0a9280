use Rattle.std.proofs.Common.{ap, ◌∙◌}
use Rattle.source_bits.specs.Formulas.{first_of}
use Rattle.source_checks.specs.Formula.{formulas}
use Rattle.vlsi_base.specs.Tree.{view as tree}
use Rattle.fsm_io.proofs.OverPorts.{first_numbered}
use Rattle.fsm_io.proofs.bits.Frame.condition.Goals as goal

pub returns : goal.returns
returns c =
    c.first.ensures ∙ ap first_of c.in_ok-values.ensures ∙ first_numbered c.args.self.now.vars.now (formulas c.args.self.now.numbers.now (tree c.args.e.now))
