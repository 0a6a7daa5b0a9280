use Rattle.std.proofs.Common.{◌≡◌, ℕ, true, List, length, ap, subst, arith}
use Rattle.bool_expr.specs.Support.{among}
use Rattle.fsm_machine.proofs.States.{among_up}
use Rattle.syf_machine.proofs.inner.inner_expressions.Goals as goal

pub emit-requires-clause-fits : goal.emit-requires-clause-fits
emit-requires-clause-fits c = λ s inside.
    let count = length c.as_slice.result.now in
    let below = among_up s 0 count (subst (λ (states : List ℕ). among s states ≡ true) c.in_ok-all_states.ensures inside) in
    let each = ap (λ codes. length codes) c.as_slice.ensures in
    omega (arith, below, each, c.requires.room)
