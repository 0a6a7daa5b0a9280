-- What `druc` reads and answers.
use Rattle.std.specs.Prelude.{◌≡◌, ℕ, ◌<◌, ◌^◌, List, [], ◌∷◌, ◌++◌, map, length, get_or, false, None, Result, Ok, Err}
use Rattle.vlsi_base.specs.declared.fault.FaultKind.TheVariants as kind
use Rattle.vlsi_base.specs.declared.fault.Limit.{Limit}
use Rattle.vlsi_base.specs.Names.{scalar}
use Rattle.ap_io.specs.declared.figure.Figure.{Figure}
use Rattle.ap_io.specs.ApText.{IsApText}
use Rattle.ap_io.specs.Refusal.{IsApRefusal}
use Rattle.cell_model.specs.Library.{Library}
use Rattle.cell_model.specs.Layout.{instances_of, shapes}
use Rattle.cell_lib.specs.declared.error.LibError.{LibError}
use Rattle.cell_lib.specs.Files.{with_library}
use Rattle.cell_lib.specs.Library.{IsLibraryOf, IsRefusedLibrary, status_of}
use Rattle.net_meaning.specs.Breaches.{Breaches}
use Rattle.cougar_extract.specs.Extracted.{AreKnown}
use Rattle.cougar_extract.specs.Refused.{IsFirstUnknown, IsTooLarge}
use Rattle.druc_rules.specs.declared.breach.Breach.{Breach}
use Rattle.druc_rules.specs.declared.error.DrucError.{DrucError}
use Rattle.druc_rules.specs.declared.error.DrucError.TheVariants as error
use Rattle.druc_rules.specs.Breaches.{breach_of}
use Rattle.druc_run.specs.declared.words.DrucCommand.{DrucCommand}
use Rattle.tool_drive.specs.declared.status.Status.{Status}
use Rattle.tool_drive.specs.declared.status.Status.TheVariants as status
use Rattle.tool_drive.specs.declared.status.Verdict.TheVariants.{Broken}
use Rattle.tool_drive.specs.declared.tool.Product.{Product}
use Rattle.tool_drive.specs.declared.tool.Refusal.{Refusal}
use Rattle.tool_drive.specs.Plan.{Plan, Inputs, large}
use Rattle.tool_drive.specs.Refusals.{OfFile, whole_fault}
use Rattle.druc_run.specs.Report.{report}

-- SOURCE, then CATAL, and then the files of the cells that CATAL uses
abbrev pub druc_plan : DrucCommand → Plan
druc_plan c = with_library (large c.source ∷ []) c.library

-- library and layout are read, the model of each instance is in the library, the shapes are fewer than 2^32, and these are the
-- layout's breaches
pub record AreListed (source catal : List ℕ) (cells : List (List ℕ)) (found : List Breach) : Type 0 where
  pub l : Library
  pub library : IsLibraryOf false catal cells l
  pub f : Figure
  pub figure : IsApText source f
  pub known : AreKnown (instances_of f.items) l
  pub few : length (shapes f.items l) < 2 ^ 32
  pub breaches : Breaches f.items l (map breach_of found)

-- there is no breach, and that is printed; no file is written
pub record IsWithoutBreach (c : DrucCommand) (source catal : List ℕ) (cells : List (List ℕ)) (p : Product) : Type 0 where
  pub name : p.name ≡ c.source
  pub none : AreListed source catal cells []
  pub file : p.file ≡ None
  pub text : p.text ≡ report [] ++ 10 ∷ []

-- What is refused, in this order: the library, the layout, an instance of a cell that the library hasn't, 2^32 shapes or more,
-- and a layout that has breaches, which are listed.
pub data IsDrucRefusal (c : DrucCommand) (source catal : List ℕ) (cells : List (List ℕ)) (s : Status) : Type 0 where
  no_library : (e : LibError) → IsRefusedLibrary false catal cells e → s ≡ status_of e → IsDrucRefusal c source catal cells s
  bad_layout : (l : Library) → IsLibraryOf false catal cells l → OfFile c.source (IsApRefusal source) s → IsDrucRefusal c source catal cells s
  unknown_cell : (l : Library) (f : Figure) (model : List ℕ) → IsLibraryOf false catal cells l → IsApText source f
      → IsFirstUnknown (instances_of f.items) l model → s ≡ whole_fault c.source kind.UnknownCell (scalar model ∷ []) → IsDrucRefusal c source catal cells s
  too_large : (l : Library) (f : Figure) (limit : Limit) → IsLibraryOf false catal cells l → IsApText source f
      → AreKnown (instances_of f.items) l → IsTooLarge f.items l limit → s ≡ status.Limit limit → IsDrucRefusal c source catal cells s
  broken : (found : List Breach) → AreListed source catal cells found → 0 < length found → s ≡ status.No (Broken (report found))
      → IsDrucRefusal c source catal cells s

-- there is no breach, or one of these refusals
abbrev pub Checks : DrucCommand → List ℕ → List ℕ → List (List ℕ) → Result Product Refusal → Type 0
Checks c source catal cells (Ok p) = IsWithoutBreach c source catal cells p
Checks c source catal cells (Err r) = (r.part ≡ None) × IsDrucRefusal c source catal cells r.status

abbrev pub druc_answers : DrucCommand → Inputs → Result Product Refusal → Type 0
druc_answers c i r = Checks c (get_or i.first 0 []) (get_or i.first 1 []) i.more r

-- how a refusal of the rules' check is told
abbrev pub IsToldOf : DrucCommand → DrucError → Status → Type 0
IsToldOf c error.Memory s = ⊥
IsToldOf c (error.UnknownCell model) s = s ≡ whole_fault c.source kind.UnknownCell (scalar model ∷ [])
IsToldOf c (error.Limit limit) s = s ≡ status.Limit limit

-- what is answered of breaches that were found
abbrev pub IsAnswerOf : DrucCommand → List Breach → Result Product Refusal → Type 0
IsAnswerOf c found (Ok p) = (found ≡ []) × (p.name ≡ c.source) × (p.file ≡ None) × (p.text ≡ report [] ++ 10 ∷ [])
IsAnswerOf c found (Err r) = (r.part ≡ None) × (0 < length found) × (r.status ≡ status.No (Broken (report found)))
