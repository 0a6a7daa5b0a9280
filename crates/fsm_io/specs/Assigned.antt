-- Targets that some state leaves without an assignment on some path of ifs.
use Rattle.std.specs.Prelude.{ℕ, Bool, [], length, Option, None, Some, if◌then◌else◌}
use Rattle.std.specs.List.{list_all}
use Rattle.vlsi_base.specs.Range.{rising}
use Rattle.vlsi_base.specs.declared.name.Name.{Name}
use Rattle.source_checks.specs.declared.symbol_table.Symbol.{Symbol}
use Rattle.source_checks.specs.declared.drivers.NameFault.{NameFault}
use Rattle.source_checks.specs.Symbols.{scalar}
use Rattle.fsm_machine.specs.Statements.{Assignment, Statements}
use Rattle.fsm_machine.specs.Assigned.{sure, sets_next, sets_output}
use Rattle.fsm_text.specs.Written.{MachineTree}
use Rattle.fsm_io.specs.Known.{Named, symbols}
use Rattle.fsm_io.specs.Drivers.{unassigned_at, first_of, or_else}
use Rattle.fsm_io.specs.Elaboration.{body_bits, frame_of}

-- in each of so many states, on each path
abbrev pub always : ℕ → (Assignment → Bool) → Statements → Bool
always count sets body = list_all (λ (s : ℕ). sure sets s body) (rising 0 count)

-- an output's least bit that isn't
abbrev pub left_out_at : ℕ → Statements → Symbol → Option NameFault
left_out_at count body s = unassigned_at (λ (n : Name). always count (sets_output n) body) s

abbrev pub next_left_out : MachineTree → Named → Statements → Option NameFault
next_left_out m n body = if always (length m.states.states) sets_next body then None else Some (record { line = m.signals.line; name = scalar n.next })

-- the first output with a bit that these statements leave out, or else the next state
abbrev pub left_out_of : MachineTree → Named → Statements → Option NameFault
left_out_of m n body = or_else (first_of (left_out_at (length m.states.states) body) (symbols m)) (next_left_out m n body)

-- of which bits the expressions are made has no effect
abbrev pub left_out : MachineTree → Named → Option NameFault
left_out m n = left_out_of m n (body_bits (frame_of m n []) m.step.body)
