use Rattle.std.proofs.Common.{◌≡◌, ◌++◌, map, filter, drop, not}
use Rattle.bool_expr.specs.View.{view}
use Rattle.machine_core.specs.Machine.{is_input, names_of}
use Rattle.net_machine.specs.Body.{shown_view}
use Rattle.net_machine.proofs.body.shown_pins.Given as goal

abbrev pub invariant-loop-pin : goal.invariant-loop-pin
invariant-loop-pin l = map shown_view l.shows.items ++ map (λ o. record { pin = o; expr = view l.expr }) (names_of (filter (λ p. not (is_input p.dir)) (map (λ p. p.port) (drop l.pin-index l.pins))))
    ≡ map (λ o. record { pin = o; expr = view l.expr }) (names_of (filter (λ p. not (is_input p.dir)) (map (λ p. p.port) l.pins)))
