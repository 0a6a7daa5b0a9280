-- What `fmi` reads and answers.
use Rattle.std.specs.Prelude.{◌≡◌, ℕ, ◌<◌, ◌≤◌, Bool, List, [], ◌∷◌, ◌++◌, length, get_or, codes, Option, None, Some, Result, Ok, Err}
use Rattle.vlsi_base.specs.declared.fault.LimitKind.TheVariants.{Inputs}
use Rattle.fsm_machine.specs.Fsm.{Fsm}
use Rattle.fsm_io.specs.Text.{IsFsm, IsFsmRefusal}
use Rattle.fsm_walk.specs.Reads.{inputs_read}
use Rattle.fsm_merge.specs.Fewest.{IsFewest}
use Rattle.fsm_print.specs.Written.{IsTextOf}
use Rattle.fmi_min.specs.declared.vectors.TheConstants.{MOST_INPUTS}
use Rattle.fmi_run.specs.declared.words.FmiCommand.{FmiCommand}
use Rattle.tool_drive.specs.declared.status.Status.{Status}
use Rattle.tool_drive.specs.declared.status.Status.TheVariants as status
use Rattle.tool_drive.specs.declared.tool.Product.{Product}
use Rattle.tool_drive.specs.declared.tool.Refusal.{Refusal}
use Rattle.tool_drive.specs.Lines.{count_line}
use Rattle.tool_drive.specs.Plan.{Plan, Inputs as Read, limited}
use Rattle.tool_drive.specs.Refusals.{OfFile}

abbrev pub fmi_plan : FmiCommand → Plan
fmi_plan c = record { first = limited c.source ∷ []; more = λ first. [] }

abbrev pub text_name : List ℕ → List ℕ
text_name out = out ++ codes ".fsm"

-- how many states there are
abbrev pub report : Fsm → List ℕ
report g = count_line (codes "states") (length g.states)

-- g is f with the states made one that do the same: it has the fewest
pub record IsMinimal (f g : Fsm) : Type 0 where
  pub state_of : List ℕ
  pub tests : ℕ → ℕ → List (List Bool)
  pub fewest : IsFewest f g state_of tests

-- the file has the machine's text
abbrev pub IsFileOf : Fsm → Option (List ℕ) → Type 0
IsFileOf g None = ⊥
IsFileOf g (Some bytes) = IsTextOf g bytes

-- The source is read and its statements read few inputs; the text of the machine with the fewest states is that of NAME.fsm, and the number
-- of its states is printed.
pub record IsMinimised (c : FmiCommand) (source : List ℕ) (p : Product) : Type 0 where
  pub f : Fsm
  pub machine : IsFsm source f
  pub few : inputs_read f ≤ MOST_INPUTS
  pub g : Fsm
  pub minimal : IsMinimal f g
  pub name : p.name ≡ text_name c.out
  pub file : IsFileOf g p.file
  pub text : p.text ≡ report g

-- the statements read too many input bits
abbrev pub IsTooMany : Fsm → Status → Type 0
IsTooMany f s = (MOST_INPUTS < inputs_read f) × (s ≡ status.Limit (record { which = Inputs; reached = inputs_read f }))

-- what is refused, in this order: the source, its statements
pub data IsFmiRefusal (c : FmiCommand) (source : List ℕ) (s : Status) : Type 0 where
  bad_source : OfFile c.source (IsFsmRefusal source) s → IsFmiRefusal c source s
  too_many : (f : Fsm) → IsFsm source f → IsTooMany f s → IsFmiRefusal c source s

-- the text is written and its states are counted, or one of these refusals
abbrev pub Minimises : FmiCommand → List ℕ → Result Product Refusal → Type 0
Minimises c source (Ok p) = IsMinimised c source p
Minimises c source (Err r) = (r.part ≡ None) × IsFmiRefusal c source r.status

abbrev pub fmi_answers : FmiCommand → Read → Result Product Refusal → Type 0
fmi_answers c i r = Minimises c (get_or i.first 0 []) r
