-- What the text of a state machine comes to: the first check that fails, in their order, or the state machine that it is.
use Rattle.std.specs.Prelude.{◌≡◌, ◌≤◌, ◌<◌, ◌⊎◌, ℕ, List, [], ◌∷◌, length, Option, None, Some}
use Rattle.vlsi_base.specs.declared.pragma.Pragma.{Pragma}
use Rattle.vlsi_base.specs.declared.fault.FaultKind.TheVariants as kind
use Rattle.vlsi_base.specs.declared.fault.LimitKind.TheVariants as limit
use Rattle.vlsi_base.specs.declared.fault.ReadError.{ReadError}
use Rattle.vlsi_base.specs.declared.fault.ReadError.TheVariants as errors
use Rattle.source_checks.specs.Symbols.{scalar}
use Rattle.source_checks.specs.Places.{Use, first_unknown}
use Rattle.source_checks.specs.Elaboration.{port_bits}
use Rattle.source_checks.specs.Checks.{most_ports, fault, if_use, if_line, if_name, if_symbol, first_repeated}
use Rattle.fsm_text.specs.Written.{MachineTree}
use Rattle.fsm_io.specs.Known.{Named, symbols, named}
use Rattle.fsm_io.specs.Looks.{all_uses}
use Rattle.fsm_io.specs.Widths.{all_widths}
use Rattle.fsm_io.specs.Drivers.{first_unassigned}
use Rattle.fsm_io.specs.Unsupported.{all_forms}
use Rattle.fsm_io.specs.Clock.{all_clock_reads}
use Rattle.fsm_io.specs.States.{all_bad_states}
use Rattle.fsm_io.specs.Assigned.{left_out}

-- the most states that a state machine may have
abbrev pub most_states : ℕ
most_states = 256

abbrev pub if_state : List Use → Option ReadError → Option ReadError
if_state [] later = later
if_state (u ∷ _) later = Some (fault kind.BadState u.line (scalar u.text ∷ []))

-- the checks behind that of the pragmas, in their order, each at its first place in the text
abbrev pub fault_behind : MachineTree → Named → Option ReadError
fault_behind m n =
    if_use (first_unknown (symbols m) (all_uses m n))
    (if_line kind.Width (all_widths m n)
    (if_name kind.Undriven (first_unassigned m)
    (if_line kind.Unsupported (all_forms m n)
    (if_line kind.ClockUse (all_clock_reads m n)
    (if_state (all_bad_states m n)
    (if_name kind.NotAssigned (left_out m n) None))))))

abbrev pub fault_of : MachineTree → Option Named → Option ReadError
fault_of m None = Some (fault kind.NoPragma 1 [])
fault_of m (Some n) = fault_behind m n

-- The checks in their order. A reader of texts refuses a name that is declared twice where it stands.
abbrev pub first_fault : MachineTree → List Pragma → Option ReadError
first_fault m pragmas = if_symbol (first_repeated [] (symbols m)) (fault_of m (named m pragmas))

abbrev pub ports_count : MachineTree → ℕ
ports_count m = length (port_bits (symbols m))

-- too many port bits, or else too many states
pub data PassesLimit (m : MachineTree) (e : ReadError) : Type 0 where
  ports : most_ports < ports_count m → e ≡ errors.Limit (record { which = limit.Ports; reached = ports_count m }) → PassesLimit m e
  states : ports_count m ≤ most_ports → most_states < length m.states.states → e ≡ errors.Limit (record { which = limit.States; reached = length m.states.states }) → PassesLimit m e

-- why a text is no state machine: the first check that fails, or else a limit that it passes
abbrev pub IsRefusedFor : MachineTree → List Pragma → ReadError → Type 0
IsRefusedFor m pragmas e = (first_fault m pragmas ≡ Some e) ⊎ ((first_fault m pragmas ≡ None) × PassesLimit m e)

-- no check fails, and no limit is passed
pub record Passes (m : MachineTree) (pragmas : List Pragma) (n : Named) : Type 0 where
  pub names : named m pragmas ≡ Some n
  pub no_fault : first_fault m pragmas ≡ None
  pub few_ports : ports_count m ≤ most_ports
  pub some_state : 0 < length m.states.states
  pub few_states : length m.states.states ≤ most_states
