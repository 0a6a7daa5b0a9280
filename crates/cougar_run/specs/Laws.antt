-- What follows of a netlist that `cougar` writes.
use Rattle.std.specs.Prelude.{ℕ, List, IfSome}
use Rattle.net_meaning.specs.Netlist.{AbstractNetlist as Given, Extracts as Gives}
use Rattle.net_right.specs.View.{IsSeenAs}
use Rattle.vst_print.specs.Says.{IsWithinLimits}
use Rattle.vst_print.specs.Text.{IsTextOf}
use Rattle.cougar_run.specs.declared.words.CougarCommand.{CougarCommand}
use Rattle.tool_drive.specs.declared.tool.Product.{Product}
use Rattle.cougar_run.specs.Cougar.{IsExtraction}

-- As every netlist that it can be seen as, it is the one that the layout gives.
abbrev pub ExtractionIsGiven : Type 0
ExtractionIsGiven =
    (c : CougarCommand) (source catal : List ℕ) (cells : List (List ℕ)) (p : Product) (h : IsExtraction c source catal cells p)
    → (k : Given) → IsSeenAs h.n k → Gives h.f.items h.l k

-- Where names, numbers and declared bits are within the limits of texts, the file that is written is a structural text that says
-- the netlist.
abbrev pub ExtractionIsSaid : Type 0
ExtractionIsSaid =
    (c : CougarCommand) (source catal : List ℕ) (cells : List (List ℕ)) (p : Product) (h : IsExtraction c source catal cells p)
    → IsWithinLimits h.n h.written.table → IfSome p.file (λ bytes. IsTextOf h.n h.written.table bytes)
