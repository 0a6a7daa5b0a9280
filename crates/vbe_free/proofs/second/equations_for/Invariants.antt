use Rattle.std.proofs.Common.{◌≡◌, map, take}
use Rattle.machine_core.specs.View.{equation_view}
use Rattle.source_checks.specs.Symbols.{all_names}
use Rattle.source_bits.specs.Driven.{driven_view}
use Rattle.vbe_free.specs.Second.{equation_for}
use Rattle.vbe_free.proofs.second.equations_for.Given as goal

abbrev pub invariant-loop-equation : goal.invariant-loop-equation
invariant-loop-equation l =
    map equation_view l.made.items ≡ map (λ e. equation_for (all_names l.numbers) (map driven_view l.driven) l.places l.vars e.name) (take l.equation-index l.equations)
