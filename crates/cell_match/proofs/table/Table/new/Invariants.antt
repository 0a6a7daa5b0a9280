use Rattle.std.proofs.Common.{◌≡◌, ℕ, length, slice_get, Some, nat_eq}
use Rattle.std.specs.HashMap.{get}
use Rattle.cell_match.specs.Matches.{IsTableOf}
use Rattle.cell_match.proofs.table.Table.new.Given as goal

abbrev pub invariant-loop-inputs : goal.invariant-loop-inputs
invariant-loop-inputs l = record {
  many : length l.maps.items ≡ l.inputs;
  each : (n : ℕ) (m : _) → slice_get l.maps.items n ≡ Some m → IsTableOf l.cells n (λ w. get nat_eq m w);
}
