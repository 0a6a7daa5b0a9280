use Rattle.std.proofs.Common.{◌≡◌, map}
use Rattle.vbe_text.specs.Source.{guarded_view}
use Rattle.vbe_free.specs.Filled.{filled_guarded}
use Rattle.vbe_free.proofs.filling.filled_alternatives.Given as goal

abbrev pub invariant-loop-guarded : goal.invariant-loop-guarded
invariant-loop-guarded l = map guarded_view l.made.items ≡ map (λ x. filled_guarded l.bit (guarded_view x)) l.yielded
