use Rattle.std.proofs.Common.{◌≡◌, map, take}
use Rattle.machine_core.specs.View.{equation_view}
use Rattle.source_checks.specs.Symbols.{all_names}
use Rattle.source_bits.specs.Driven.{driven_view}
use Rattle.vlsi_model.specs.Numbered.{driven_at, equation_from}
use Rattle.vlsi_model.proofs.equations.equations.Given as goal

abbrev pub invariant-loop-k : goal.invariant-loop-k
invariant-loop-k l = map equation_view l.made.items ≡ map (λ k. equation_from (all_names l.numbers) l.table (driven_at (map driven_view l.driven) k)) (take l.k-index l.order)
