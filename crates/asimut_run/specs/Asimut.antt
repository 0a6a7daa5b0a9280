-- What `asimut` on a source reads and answers.
use Rattle.std.specs.Prelude.{◌≡◌, ◌⊎◌, ℕ, List, [], ◌∷◌, drop, get_or, Option, None, Some, Result, Ok, Err}
use Rattle.std.specs.Fmt.{decimal}
use Rattle.vlsi_base.specs.declared.name.Name.{Name}
use Rattle.vlsi_base.specs.declared.fault.ReadError.{ReadError}
use Rattle.machine_core.specs.Machine.{Machine}
use Rattle.pat_meaning.specs.declared.patterns.Pattern.{Pattern}
use Rattle.pat_meaning.specs.declared.patterns.Patterns.{Patterns}
use Rattle.pat_meaning.specs.Answers.{IsFilled, DiffersAt}
use Rattle.pat_io.specs.PatternText.{IsPatternText, IsPatternRefusal}
use Rattle.pat_io.specs.Spelling.{text_of}
use Rattle.vbe_io.specs.Text.{IsVbe, IsVbeRefusal}
use Rattle.asimut_sim.specs.declared.refusal.SimError.{SimError}
use Rattle.asimut_sim.specs.declared.refusal.SimError.TheVariants as sim
use Rattle.asimut_run.specs.declared.words.AsimutCommand.{AsimutCommand}
use Rattle.tool_drive.specs.declared.status.Status.{Status}
use Rattle.tool_drive.specs.declared.status.Status.TheVariants as status
use Rattle.tool_drive.specs.declared.status.Verdict.TheVariants.{Differs}
use Rattle.tool_drive.specs.declared.tool.Product.{Product}
use Rattle.tool_drive.specs.declared.tool.Refusal.{Refusal}
use Rattle.tool_drive.specs.Plan.{Plan, Inputs, limited}
use Rattle.tool_drive.specs.Refusals.{OfFile}

-- SOURCE, then PATTERNS
abbrev pub asimut_plan : AsimutCommand → Plan
asimut_plan c = record { first = limited c.source ∷ limited c.patterns ∷ []; more = λ first. [] }

-- ---- what the two texts come to

-- a pattern is called by its label, or by its number from 0
abbrev pub label_or : Option (List ℕ) → ℕ → List ℕ
label_or None number = decimal number
label_or (Some label) number = label

abbrev pub first_label : List Pattern → Option (List ℕ)
first_label [] = None
first_label (p ∷ rest) = p.label

abbrev pub label_of : List Pattern → ℕ → List ℕ
label_of patterns number = label_or (first_label (drop number patterns)) number

-- the source is a machine, the patterns are for its ports, they come out as they expect, and this is their text with every
-- output filled in
pub record IsSimulation (source patterns text : List ℕ) : Type 0 where
  pub m : Machine
  pub p : Patterns
  pub out : Patterns
  pub machine : IsVbe source m
  pub for_ports : IsPatternText patterns m.ports p
  pub filled : IsFilled m p out
  pub text_is : text ≡ text_of out

-- the patterns are refused for the ports of the source's machine
pub record IsPatternFault (source patterns : List ℕ) (e : ReadError) : Type 0 where
  pub m : Machine
  pub machine : IsVbe source m
  pub refused : IsPatternRefusal patterns m.ports e

-- the first bit that isn't what the patterns expect is this one, of the pattern with this label
pub record IsDifference (source patterns label : List ℕ) (name : Name) : Type 0 where
  pub m : Machine
  pub p : Patterns
  pub number : ℕ
  pub machine : IsVbe source m
  pub for_ports : IsPatternText patterns m.ports p
  pub differs : DiffersAt m p number name
  pub label_is : label ≡ label_of p.patterns number

abbrev pub IsDifferent : List ℕ → List ℕ → Status → Type 0
IsDifferent source patterns (status.No (Differs label name)) = IsDifference source patterns label name
IsDifferent source patterns s = ⊥

-- what is refused: the source, or else the patterns, or else a bit differs
abbrev pub IsAsimutRefusal : AsimutCommand → List ℕ → List ℕ → Status → Type 0
IsAsimutRefusal c source patterns s =
    OfFile c.source (IsVbeRefusal source) s ⊎ (OfFile c.patterns (IsPatternFault source patterns) s ⊎ IsDifferent source patterns s)

-- The filled patterns are printed, and no file is written; or one of these refusals.
abbrev pub Simulates : AsimutCommand → List ℕ → List ℕ → Result Product Refusal → Type 0
Simulates c source patterns (Ok p) = (p.name ≡ c.source) × (p.file ≡ None) × IsSimulation source patterns p.text
Simulates c source patterns (Err r) = (r.part ≡ None) × IsAsimutRefusal c source patterns r.status

abbrev pub asimut_answers : AsimutCommand → Inputs → Result Product Refusal → Type 0
asimut_answers c i r = Simulates c (get_or i.first 0 []) (get_or i.first 1 []) r

-- how a simulation's refusal is told
abbrev pub IsToldOf : List Pattern → SimError → Status → Type 0
IsToldOf patterns e status.Memory = Unit {0}
IsToldOf patterns (sim.Differs number name) (status.No (Differs label n)) = (label ≡ label_of patterns number) × (n ≡ name)
IsToldOf patterns e s = ⊥
