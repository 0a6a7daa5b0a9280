-- Where widths of a state machine don't fit, in file order: the lines of the tokens at fault. The states and the two signals that hold
-- them have one bit.
use Rattle.std.specs.Prelude.{ℕ, Bool, not, bytes_eq, List, [], ◌++◌, Option, Some, if◌then◌else◌}
use Rattle.vlsi_base.specs.Tree.{Tree}
use Rattle.source_checks.specs.declared.statement.Target.{Target}
use Rattle.source_checks.specs.declared.symbol_table.Symbol.{Symbol}
use Rattle.source_checks.specs.Symbols.{find}
use Rattle.source_checks.specs.Widths.{width, differ, found_width, target_width, target_faults, width_faults, condition_faults, if_not, port_faults}
use Rattle.fsm_text.specs.Written.{MachineTree, ClockTree}
use Rattle.fsm_io.specs.Known.{Named, symbols}
use Rattle.fsm_io.specs.Looks.{Mention, asserting, assigning, testing, selecting, listing, found}

-- what is assigned to another target than the next state is as wide as the target, else the target is at fault
abbrev pub wide_enough : Bool → Option ℕ → Option ℕ → ℕ → List ℕ
wide_enough to_next a b line = if to_next then [] else if_not (not (differ a b)) line

-- at an assignment
abbrev pub assignment_widths : List Symbol → Named → Target → Tree → List ℕ
assignment_widths known n t e =
    wide_enough (bytes_eq t.name n.next) (width known e) (target_width known t) t.line ++ (target_faults known t ++ width_faults known e)

abbrev pub widths_at : List Symbol → Named → Mention → List ℕ
widths_at known n (asserting e) = width_faults known e
widths_at known n (assigning t first e) = assignment_widths known n t e
widths_at known n (testing line e) = condition_faults known line e
widths_at known n (selecting seen line called) = []
widths_at known n (listing states) = []

abbrev pub clock_widths : List Symbol → Named → ClockTree → List ℕ
clock_widths known n c =
    condition_faults known c.condition_line c.condition
    ++ wide_enough (bytes_eq c.target.text n.next) (Some (found_width (find known c.value.text))) (Some (found_width (find known c.target.text))) c.target.line

abbrev pub all_widths : MachineTree → Named → List ℕ
all_widths m n = port_faults m.entity.ports ++ (found (widths_at (symbols m) n) m ++ clock_widths (symbols m) n m.clock)
