-- What follows from the grammar of whole texts.
use Rattle.std.specs.Prelude.{◌≡◌, ◌⊎◌}
use Rattle.vlsi_base.specs.declared.fault.ReadError.{ReadError}
use Rattle.vhdl_token.specs.declared.token.Tokens.{Tokens}
use Rattle.fsm_text.specs.Written.{MachineTree}
use Rattle.fsm_text.specs.Texts.{IsMachine, RefusedAs}

-- A text is at most one state machine.
abbrev pub OneMachine : Type 0
OneMachine = (tokens : Tokens) (a b : MachineTree) → IsMachine tokens a → IsMachine tokens b → a ≡ b

-- A text that is a state machine has no refusal.
abbrev pub NeverBothMachine : Type 0
NeverBothMachine = (tokens : Tokens) (machine : MachineTree) (e : ReadError) → IsMachine tokens machine → RefusedAs tokens e → ⊥

-- A text has at most one refusal.
abbrev pub OneRefusedMachine : Type 0
OneRefusedMachine = (tokens : Tokens) (d e : ReadError) → RefusedAs tokens d → RefusedAs tokens e → d ≡ e

-- Each text is a state machine or has a refusal.
abbrev pub EachMachine : Type 0
EachMachine = (tokens : Tokens) → ((machine : MachineTree) × IsMachine tokens machine) ⊎ ((e : ReadError) × RefusedAs tokens e)
