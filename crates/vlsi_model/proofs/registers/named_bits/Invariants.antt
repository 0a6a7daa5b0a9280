use Rattle.std.proofs.Common.{◌≡◌, map}
use Rattle.vlsi_base.specs.Range.{rising}
use Rattle.source_checks.specs.Symbols.{all_names}
use Rattle.vlsi_model.specs.Numbered.{named_at}
use Rattle.vlsi_model.proofs.registers.named_bits.Given as goal

abbrev pub invariant-loop-k : goal.invariant-loop-k
invariant-loop-k l = l.named.items ≡ map (named_at (all_names l.numbers) l.bits) (rising 0 l.k)
