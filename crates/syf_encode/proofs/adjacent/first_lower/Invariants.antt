use Rattle.std.proofs.Common.{◌≡◌, ◌+◌, ◌++◌, ℕ, Bool, map, length}
use Rattle.fsm_machine.specs.Encoding.{cost, exchanges, first_lower}
use Rattle.fsm_machine.specs.MachineOf.{up}
use Rattle.syf_encode.specs.Pieces.{neighbours_by}
use Rattle.syf_encode.proofs.Exchanges.{pairs_from, rows_from}
use Rattle.syf_encode.proofs.adjacent.first_lower.Given as goal

-- the numbers stand as before, and none of the exchanges so far lowers the cost
abbrev pub invariant-loop-first : goal.invariant-loop-first
invariant-loop-first l = record {
  kept : l.numbers ≡ l.fn.numbers;
  passed : (edge : ℕ → ℕ → Bool) → map (λ v. v.items) l.near ≡ map (neighbours_by edge (length l.fn.numbers)) (up 0 (length l.fn.numbers))
      → first_lower (cost edge (length l.fn.numbers)) l.fn.numbers (exchanges (length l.fn.numbers))
      ≡ first_lower (cost edge (length l.fn.numbers)) l.fn.numbers (rows_from (length l.fn.numbers) l.first);
}

abbrev pub invariant-loop-second : goal.invariant-loop-second
invariant-loop-second l = record {
  kept : l.numbers ≡ l.fn.numbers;
  passed : (edge : ℕ → ℕ → Bool) → map (λ v. v.items) l.near ≡ map (neighbours_by edge (length l.fn.numbers)) (up 0 (length l.fn.numbers))
      → first_lower (cost edge (length l.fn.numbers)) l.fn.numbers (exchanges (length l.fn.numbers))
      ≡ first_lower (cost edge (length l.fn.numbers)) l.fn.numbers
      (pairs_from (length l.fn.numbers) l.first l.second ++ rows_from (length l.fn.numbers) (l.first + 1));
}
