use Rattle.std.proofs.Common.{◌≡◌, drop}
use Rattle.source_checks.specs.Symbols.{all_names}
use Rattle.source_checks.specs.Formula.{place}
use Rattle.fsm_io.specs.Drivers.{unassigned_at, first_of}
use Rattle.fsm_io.specs.Pieces.{is_marked}
use Rattle.fsm_io.proofs.drivers.first_unmarked.Given as goal

abbrev pub invariant-loop-symbol : goal.invariant-loop-symbol
invariant-loop-symbol l =
    first_of (unassigned_at (λ n. is_marked l.marks (place (all_names l.numbers) n))) (drop l.symbol-index l.symbols)
    ≡ first_of (unassigned_at (λ n. is_marked l.marks (place (all_names l.numbers) n))) l.symbols
