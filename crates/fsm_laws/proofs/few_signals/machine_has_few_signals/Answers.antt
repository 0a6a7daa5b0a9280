use Rattle.fsm_laws.proofs.Few.{statements_few, codes_few, styles_few}
use Rattle.fsm_laws.proofs.few_signals.machine_has_few_signals.Goals as goal

pub returns-clause-signals : goal.returns-clause-signals
returns-clause-signals c = statements_few

pub returns-clause-codes : goal.returns-clause-codes
returns-clause-codes c = codes_few

pub returns-clause-styles : goal.returns-clause-styles
returns-clause-styles c = styles_few c.encodings_are_codes.ensures
