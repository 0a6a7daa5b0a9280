use Rattle.syf_run.proofs.Declared.{can_be_declared}
use Rattle.syf_run.proofs.Single.{encoded_is_one}
use Rattle.syf_run.proofs.laws.encoded_law.Goals as goal

pub returns-clause-declared : goal.returns-clause-declared
returns-clause-declared c = λ source how f k m e.
    can_be_declared c.fsm_is_named.ensures.named c.fsm_is_named.ensures.short c.pins_are_named.ensures c.in_order_can_be_written.ensures source how f k m e

pub returns-clause-one : goal.returns-clause-one
returns-clause-one c = λ source how f g k l m n a b. encoded_is_one c.one_fsm.ensures source how f g k l m n a b
