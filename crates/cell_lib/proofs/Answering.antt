-- A tool's answer to a library that is refused.
use Rattle.std.proofs.Common.{ℕ, Bool, List, None, Result, Err, refl}
use Rattle.cell_lib.specs.declared.error.LibError.{LibError}
use Rattle.cell_lib.specs.declared.error.LibError.TheVariants as errors
use Rattle.cell_lib.specs.Cells.{OrMemory}
use Rattle.cell_lib.specs.Library.{IsRefusedLibrary, status_of}
use Rattle.cell_lib.proofs.Plain.{never_missing, never_unread}
use Rattle.tool_drive.specs.declared.tool.Product.{Product}
use Rattle.tool_drive.specs.declared.tool.Refusal.{Refusal}
use Rattle.tool_drive.specs.Table.{IsJudged, refusal}

-- where the tool answers each library that is refused, or memory ran out
pub refused_library : (A : Result Product Refusal → Type 0) (tracks : Bool) (list : List ℕ) (cells : List (List ℕ)) (e : LibError) → OrMemory (IsRefusedLibrary tracks list cells) e
    → ((x : LibError) → IsRefusedLibrary tracks list cells x → A (Err (refusal (status_of x) None))) → IsJudged A (Err (refusal (status_of e) None))
refused_library A tracks list cells errors.Memory h f = refl
refused_library A tracks list cells (errors.Limit l) h f = f (errors.Limit l) h
refused_library A tracks list cells (errors.BadCatal line) h f = f (errors.BadCatal line) h
refused_library A tracks list cells (errors.BadCell cell cause) h f = f (errors.BadCell cell cause) h
refused_library A tracks list cells (errors.Missing name) h f = absurd (never_missing tracks list cells name h)
refused_library A tracks list cells (errors.ReadFault name) h f = absurd (never_unread tracks list cells name h)
