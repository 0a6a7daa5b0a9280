use Rattle.std.proofs.Common.{◌≡◌, ◌<◌, ℕ, List, Some, get_or, slice_index}
use Rattle.cell_match.specs.declared.gate.Gate.{Gate}
use Rattle.boog_tight.specs.Cover.{gate_at}
use Rattle.cell_match.specs.Computes.{Computes}
use Rattle.boog_tight.proofs.pass.find_fused.Given as goal

abbrev pub invariant-loop-leaf : goal.invariant-loop-leaf
invariant-loop-leaf l =
    (n : ℕ) → n < l.leaf-index → (h : Gate) (k : ℕ) (order : List ℕ) → gate_at l.gates (get_or l.leaf-items n 0) ≡ Some h
    → slice_index l.counts (get_or l.leaf-items n 0) ≡ 1 → Computes l.cells k order h l.outer (get_or l.leaf-items n 0) → ⊥
