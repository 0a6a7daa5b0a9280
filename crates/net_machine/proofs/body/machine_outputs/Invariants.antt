use Rattle.std.proofs.Common.{◌≡◌, ◌++◌, map, filter, drop, not}
use Rattle.bool_expr.specs.Expression.{variable}
use Rattle.machine_core.specs.Machine.{is_input, names_of}
use Rattle.source_checks.specs.Formula.{place}
use Rattle.net_machine.specs.Body.{shown_view}
use Rattle.net_machine.proofs.body.machine_outputs.Given as goal

abbrev pub invariant-loop-port : goal.invariant-loop-port
invariant-loop-port l = map shown_view l.shows.items ++ map (λ o. record { pin = o; expr = variable (place l.vars o) }) (names_of (filter (λ p. not (is_input p.dir)) (drop l.port-index l.ports)))
    ≡ map (λ o. record { pin = o; expr = variable (place l.vars o) }) (names_of (filter (λ p. not (is_input p.dir)) l.ports))
