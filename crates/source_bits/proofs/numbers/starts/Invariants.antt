use Rattle.std.proofs.Common.{◌≡◌, ◌+◌, ◌++◌, drop, length}
use Rattle.source_checks.specs.Symbols.{all_names}
use Rattle.source_bits.specs.Numbering.{starts_from}
use Rattle.source_bits.proofs.numbers.starts.Given as goal

abbrev pub invariant-loop-symbol : goal.invariant-loop-symbol
invariant-loop-symbol l =
    (l.starts.items ++ starts_from l.next (drop l.symbol-index l.symbols) ≡ starts_from 0 l.symbols) × (l.next + length (all_names (drop l.symbol-index l.symbols)) ≡ length (all_names l.symbols))
