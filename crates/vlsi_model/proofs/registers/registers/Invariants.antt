use Rattle.std.proofs.Common.{◌≡◌, map, take}
use Rattle.machine_core.specs.View.{register_view}
use Rattle.source_checks.specs.Symbols.{all_names}
use Rattle.source_bits.specs.Driven.{stored_view}
use Rattle.vlsi_model.specs.Numbered.{stored_at, register_from}
use Rattle.vlsi_model.proofs.registers.registers.Given as goal

abbrev pub invariant-loop-k : goal.invariant-loop-k
invariant-loop-k l = map register_view l.made.items ≡ map (λ k. register_from (all_names l.numbers) l.table (stored_at (map stored_view l.stored) k)) (take l.k-index l.order)
