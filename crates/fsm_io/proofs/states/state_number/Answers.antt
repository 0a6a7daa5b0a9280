use Rattle.std.proofs.Common.{arith}
use Rattle.fsm_io.proofs.StateNames.{few_numbers}
use Rattle.fsm_io.proofs.states.state_number.Goals as goal

pub overflow_cast-result : goal.overflow_cast-result
overflow_cast-result c =
    let few = few_numbers c.args.states.now c.args.text.now c.place_of.result c.place_of.ensures c.requires in
    omega (arith, few)
