-- What a state machine declares, and which of it the pragmas name.
use Rattle.std.specs.Prelude.{ℕ, Bool, false, not, ◌&&◌, ◌||◌, bytes_eq, List, [], ◌∷◌, ◌++◌, map, Option, None, Some, is_none, codes, if◌then◌else◌}
use Rattle.std.specs.List.{list_any}
use Rattle.vlsi_base.specs.declared.entity.NewName.{NewName}
use Rattle.vlsi_base.specs.declared.entity.Generic.{Generic}
use Rattle.vlsi_base.specs.declared.entity.PortGroup.{PortGroup}
use Rattle.vlsi_base.specs.declared.pragma.Pragma.{Pragma}
use Rattle.vlsi_base.specs.Name.{is_supply}
use Rattle.source_checks.specs.declared.symbol_table.Role.TheVariants as role
use Rattle.source_checks.specs.declared.symbol_table.Symbol.{Symbol}
use Rattle.source_checks.specs.Symbols.{port_symbols, symbols_named}
use Rattle.source_checks.specs.Unsupported.{is_in_mode, is_bit_word}
use Rattle.fsm_text.specs.Written.{MachineTree}
use Rattle.fsm_text.specs.Chains.{named_by}

abbrev pub texts : List NewName → List (List ℕ)
texts names = map (λ (n : NewName). n.text) names

-- names that are no ports count as inner signals of one bit
abbrev pub inner_symbols : ℕ → List NewName → List Symbol
inner_symbols line names = symbols_named role.Inner None line names

abbrev pub generic_symbols : List Generic → List Symbol
generic_symbols [] = []
generic_symbols (g ∷ groups) = inner_symbols g.line g.names ++ generic_symbols groups

-- all names that are declared: the ports, the generics, the type with its states, and the two signals
abbrev pub symbols : MachineTree → List Symbol
symbols m =
    port_symbols m.entity.ports
    ++ (generic_symbols m.entity.generics
    ++ (inner_symbols m.states.line (m.states.name ∷ m.states.states) ++ inner_symbols m.signals.line (m.signals.first ∷ m.signals.second ∷ [])))

-- ---- pragmas

-- the signals that hold the current and the next state, and the clock
pub record Named : Type 0 where
  pub current : List ℕ
  pub next : List ℕ
  pub clock : List ℕ

abbrev pub is_state_signal : MachineTree → List ℕ → Bool
is_state_signal m text = bytes_eq m.signals.first.text text || bytes_eq m.signals.second.text text

-- a scalar input of type bit that is no supply
abbrev pub is_clock_port : List PortGroup → List ℕ → Bool
is_clock_port [] text = false
is_clock_port (g ∷ groups) text =
    if list_any (λ (n : NewName). bytes_eq n.text text) g.names then (is_in_mode g.mode && (is_bit_word g.kind.word && is_none g.kind.range)) && not (is_supply text)
    else is_clock_port groups text

-- the two state signals differ, and the clock is one
abbrev pub fits_all : MachineTree → List ℕ → List ℕ → List ℕ → Bool
fits_all m current next clock =
    (is_state_signal m current && (is_state_signal m next && not (bytes_eq current next))) && is_clock_port m.entity.ports clock

abbrev pub named_in : MachineTree → Option (List ℕ) → Option (List ℕ) → Option (List ℕ) → Option Named
named_in m (Some current) (Some next) (Some clock) =
    if fits_all m current next clock then Some (record { current = current; next = next; clock = clock }) else None
named_in m _ _ _ = None

-- what the first pragma of each of the three keys names; none where one is missing, or names nothing that fits
abbrev pub named : MachineTree → List Pragma → Option Named
named m pragmas =
    named_in m (named_by (codes "current_state") pragmas) (named_by (codes "next_state") pragmas) (named_by (codes "clock") pragmas)
