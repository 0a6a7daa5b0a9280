-- Where the clock stands that it mustn't, in file order: the lines of the tokens at fault.
use Rattle.std.specs.Prelude.{ℕ, Bool, true, false, ◌&&◌, bytes_eq, List, [], ◌∷◌, ◌++◌, Some, if◌then◌else◌}
use Rattle.vlsi_base.specs.Tree.{Tree}
use Rattle.source_checks.specs.declared.symbol_table.Symbol.{Symbol}
use Rattle.source_checks.specs.Clock.{clock_of, clock_lines, conditions_among, parts_of, is_same_clock}
use Rattle.source_checks.specs.Widths.{if_not}
use Rattle.fsm_text.specs.Written.{MachineTree}
use Rattle.fsm_io.specs.Known.{Named, symbols}
use Rattle.fsm_io.specs.Looks.{Mention, asserting, assigning, testing, selecting, listing, found}

abbrev pub is_empty : {A : Type 0} → List A → Bool
is_empty [] = true
is_empty (x ∷ rest) = false

-- the rise of this clock, and no further condition
abbrev pub is_edge : List Symbol → List ℕ → Tree → Bool
is_edge known clock e = is_same_clock (clock_of known e) (Some clock) && is_empty (conditions_among clock (parts_of e))

-- each read of the clock and each `stable`; what is assigned to the next state reads nothing
abbrev pub clock_reads_at : Named → Mention → List ℕ
clock_reads_at n (asserting e) = clock_lines (Some n.clock) e
clock_reads_at n (assigning t first e) = if bytes_eq t.name n.next then [] else clock_lines (Some n.clock) e
clock_reads_at n (testing line e) = clock_lines (Some n.clock) e
clock_reads_at n (selecting seen line called) = []
clock_reads_at n (listing states) = []

-- these, and a condition of the process at the clock that isn't its rise, at its first token
abbrev pub all_clock_reads : MachineTree → Named → List ℕ
all_clock_reads m n =
    found (clock_reads_at n) m ++ if_not (is_edge (symbols m) n.clock m.clock.condition) m.clock.condition_line
