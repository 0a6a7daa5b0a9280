-- What the plan and the answers of `asimut` on a source come to, said of files.
use Rattle.std.specs.Prelude.{ℕ, List, Option, IfSome, Result}
use Rattle.vlsi_shelf.specs.Files.{Files}
use Rattle.asimut_run.specs.declared.words.AsimutCommand.{AsimutCommand}
use Rattle.tool_drive.specs.declared.status.Status.{Status}
use Rattle.tool_drive.specs.declared.tool.Product.{Product}
use Rattle.tool_drive.specs.declared.tool.Refusal.{Refusal}
use Rattle.tool_drive.specs.Outside.{Outside, IsUntouched}
use Rattle.tool_drive.specs.Held.{Holds}
use Rattle.tool_drive.specs.Table.{ComesTo, Caused}
use Rattle.asimut_run.specs.Asimut.{asimut_plan, asimut_answers, Simulates}

-- both files were read, neither is too long, and this holds of their bytes
abbrev pub OfBoth : Option Files → AsimutCommand → (List ℕ → List ℕ → Type 0) → Type 0
OfBoth told c P =
    IfSome told (λ files. (source : List ℕ) × (patterns : List ℕ) × Holds files c.source source × Holds files c.patterns patterns × P source patterns)

-- an answer of `asimut` on a source is one to the contents of both files
abbrev pub AnswersBoth : Type 0
AnswersBoth = (c : AsimutCommand) (told : Option Files) (r : Result Product Refusal) → ComesTo told (asimut_plan c) (asimut_answers c) r
    → OfBoth told c (λ source patterns. Simulates c source patterns r)

-- whatever the status, no file changes
abbrev pub ChangesNoFile : Type 0
ChangesNoFile = (c : AsimutCommand) (before now : Outside) (s : Status) → Caused (asimut_plan c) (asimut_answers c) before now s → IsUntouched before now
