use Rattle.std.proofs.Common.{◌≡◌, map, take}
use Rattle.source_checks.specs.Symbols.{all_names}
use Rattle.vlsi_model.specs.Numbered.{name_at}
use Rattle.vbe_free.proofs.second.driven_names.Given as goal

abbrev pub invariant-loop-bit : goal.invariant-loop-bit
invariant-loop-bit l = l.names.items ≡ map (λ d. name_at (all_names l.numbers) d.bit) (take l.bit-index l.driven)
