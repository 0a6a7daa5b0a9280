-- What a source is read as: a machine, and for a state machine its states and their codes.
use Rattle.std.specs.Prelude.{ℕ, Bool, true, false, List, codes, nat_eq}
use Rattle.std.specs.List.{ends_with}
use Rattle.vlsi_base.specs.declared.fault.ReadError.{ReadError}
use Rattle.machine_core.specs.Machine.{Machine}
use Rattle.vbe_io.specs.Text.{IsVbe, IsVbeRefusal}
use Rattle.fsm_machine.specs.Fsm.{Fsm}
use Rattle.fsm_machine.specs.Codes.{Codes}
use Rattle.fsm_io.specs.Text.{IsFsmRefusal}
use Rattle.syf_run.specs.Syf.{style_of, IsEncodedSource}
use Rattle.flow_words.specs.declared.words.FlowCommand.{FlowCommand}

-- where a machine comes from: a data-flow text, or a state machine with codes of its states
pub data Origin : Type 0 where
  equations : Origin
  states : Fsm → Codes → Origin

-- a state machine's source
abbrev pub is_fsm : FlowCommand → Bool
is_fsm c = ends_with nat_eq c.source (codes ".fsm")

abbrev pub IsOf : Bool → FlowCommand → List ℕ → Origin → Machine → Type 0
IsOf false c source equations m = IsVbe source m
IsOf false c source (states f k) m = ⊥
IsOf true c source equations m = ⊥
IsOf true c source (states f k) m = IsEncodedSource source (style_of c.encoding c.seed) f k m

-- The source is this machine: a data-flow text is it, and a state machine is made it by the codes that the command asks for.
abbrev pub IsSourceFor : FlowCommand → List ℕ → Origin → Machine → Type 0
IsSourceFor c source o m = IsOf (is_fsm c) c source o m

abbrev pub refusal_by : Bool → List ℕ → ReadError → Type 0
refusal_by false source e = IsVbeRefusal source e
refusal_by true source e = IsFsmRefusal source e

-- why the source is none
abbrev pub IsSourceRefusal : FlowCommand → List ℕ → ReadError → Type 0
IsSourceRefusal c source e = refusal_by (is_fsm c) source e
