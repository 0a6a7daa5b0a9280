use Rattle.std.proofs.Common.{◌≡◌, ◌++◌, map, take}
use Rattle.std.specs.Prelude.{slice_index}
use Rattle.source_checks.specs.Symbols.{all_names}
use Rattle.vlsi_model.specs.Numbered.{name_at}
use Rattle.vlsi_model.proofs.equations.push_names.Given as goal

abbrev pub invariant-loop-k : goal.invariant-loop-k
invariant-loop-k l = l.names.items ≡ l.initial.names.items ++ map (λ k. name_at (all_names l.numbers) (slice_index l.bits k)) (take l.k-index l.order)
