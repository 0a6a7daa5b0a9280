use Rattle.std.proofs.Common.{arith}
use Rattle.std.proofs.lemmas.Grind.{common_steps}
use Rattle.vlsi_base.proofs.NumberLemmas.{value_from-le, value_from-drop}
use Rattle.vlsi_base.proofs.number.spelled.Goals as goal

pub returns-in_err-tenfold-clause-over : goal.returns-in_err-tenfold-clause-over
returns-in_err-tenfold-clause-over c =
    λ none. omega (arith, value_from-le c.loop-digit.value c.loop-digit.digit-index c.args.text.now (omega arith), c.in_err-tenfold.ensures, c.loop-digit.invariant)

pub returns-in_err-value-clause-over : goal.returns-in_err-value-clause-over
returns-in_err-value-clause-over c =
    λ none. omega (arith, value_from-le c.loop-digit.value c.loop-digit.digit-index c.args.text.now (omega arith), c.in_err-value.ensures, c.in_ok-tenfold.ensures, c.loop-digit.invariant)

pub loop-digit-preserved : goal.loop-digit-preserved
loop-digit-preserved c = grind (arith, common_steps, value_from-drop c.loop-digit.value c.loop-digit.digit-index c.args.text.now (omega arith), c.loop-digit.invariant)
