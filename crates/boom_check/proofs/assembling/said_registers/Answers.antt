use Rattle.std.proofs.Common.{List, map, take, ◌+◌, sym, subst}
use Rattle.std.specs.List.{AllZip}
use Rattle.machine_core.specs.declared.equation.Register.{Register as RegisterParts}
use Rattle.machine_core.specs.View.{register_view}
use Rattle.boom_check.specs.Assembling.{IsSaidRegister}
use Rattle.boom_check.proofs.Lists.{zip_taken}
use Rattle.boom_check.proofs.assembling.said_registers.Goals as goal

pub loop-k-preserved : goal.loop-k-preserved
loop-k-preserved c =
    let made : RegisterParts = record { name = c.in_ok-name.name; next = c.in_ok-next.next; enable = c.in_ok-enable.enable } in
    subst (λ (l : List RegisterParts). AllZip (IsSaidRegister c.args.numbers.now) (map register_view (take (c.loop-k.k + 1) c.args.given.now)) (map register_view l)) (sym c.in_ok-push.ensures.items)
    (zip_taken (IsSaidRegister c.args.numbers.now) register_view register_view c.args.given.now c.loop-k.made.items c.loop-k.k c.index-given-k.result made c.loop-k-test.true c.index-given-k.is
    c.loop-k.invariant (c.in_ok-name.ensures, c.in_ok-next.ensures, c.in_ok-enable.ensures))
