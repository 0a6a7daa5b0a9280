use Rattle.std.proofs.Common.{◌≡◌, map, take}
use Rattle.bool_expr.specs.View.{view}
use Rattle.bool_expr.specs.Renumbering.{renumbered}
use Rattle.fsm_io.proofs.bits.Frame.values.Given as goal

abbrev pub invariant-loop-value : goal.invariant-loop-value
invariant-loop-value l = map view l.made.items ≡ map (λ e. renumbered l.self.places.now (view e)) (take l.value-index l.value-items)
