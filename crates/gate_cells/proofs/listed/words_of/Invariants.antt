use Rattle.std.proofs.Common.{◌≡◌, ◌++◌, map, drop}
use Rattle.gate_cells.proofs.listed.words_of.Given as goal

abbrev pub invariant-loop-entry : goal.invariant-loop-entry
invariant-loop-entry l = l.words.items ++ map (λ x. x.word) (drop l.entry-index l.entries) ≡ map (λ x. x.word) l.entries
