use Rattle.vhdl_print.proofs.FormulaAgain.{formula_is_read_again}
use Rattle.vhdl_print.proofs.law.formula_is_read_again.Goals as goal

pub returns : goal.returns
returns c = formula_is_read_again
