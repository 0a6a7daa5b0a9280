-- What `loon` writes is read again.
use Rattle.std.specs.Prelude.{◌≡◌, ℕ, ◌<◌, ◌≤◌, ◌^◌, List, length, Some}
use Rattle.vlsi_base.specs.declared.limits.TheConstants.{MOST_NETLIST_BYTES}
use Rattle.vlsi_base.specs.declared.fault.ReadError.{ReadError}
use Rattle.vlsi_base.specs.declared.fault.ReadError.TheVariants as errors
use Rattle.cell_model.specs.Library.{Library}
use Rattle.net_core.specs.declared.pins.ModelPins.{ModelPins}
use Rattle.net_core.specs.Netlist.{Netlist, IsNetlist, terminals}
use Rattle.net_right.specs.Condition.{MeetsCondition}
use Rattle.vst_print.specs.Says.{IsWithinLimits}
use Rattle.vst_io.specs.Text.{IsVst, IsVstRefusal}
use Rattle.vst_io.specs.Laws.{AreAlike}
use Rattle.vst_laws.specs.Again.{text, with_used_models}
use Rattle.loon_run.specs.declared.words.LoonCommand.{LoonCommand}
use Rattle.tool_drive.specs.declared.tool.Product.{Product}
use Rattle.loon_run.specs.Loon.{AreRead, IsMade, IsLimiting}

-- a netlist that is read with the pins of the usable cells of a library meets what the stages ask
abbrev pub ReadMeetsCondition : Type 0
ReadMeetsCondition =
    (source catal : List ℕ) (files : List (List ℕ)) (l : Library) (table : List ModelPins) (n : Netlist)
    → AreRead source catal files l table n → MeetsCondition table n

-- Names, numbers and declared bits are within the limits of texts, the text has few enough bytes to be read, and there are fewer ports
-- and pins than 2^32.
pub record IsSmall (k : Netlist) (table : List ModelPins) : Type 0 where
  pub limits : IsWithinLimits k table
  pub short : length (text k table) ≤ MOST_NETLIST_BYTES
  pub few : length (terminals k) < 2 ^ 32

-- The text is the netlist, with the models that its instances have; what it is read as is the netlist, but maybe for such models; and it
-- is refused only where memory has run out.
pub record IsReadAgain (k : Netlist) (table : List ModelPins) : Type 0 where
  pub is : IsVst (text k table) table (with_used_models k)
  pub only : (m : Netlist) → IsVst (text k table) table m → AreAlike k m
  pub accepted : (e : ReadError) → IsVstRefusal (text k table) table e → e ≡ errors.Memory

-- so it is with what is made of a netlist that is read, whether or not it is right for a machine
abbrev pub MadeIsReadAgain : Type 0
MadeIsReadAgain =
    (source catal : List ℕ) (files : List (List ℕ)) (l : Library) (table : List ModelPins) (n k : Netlist) (fanout delay : ℕ)
    → AreRead source catal files l table n → IsNetlist k → IsMade n l fanout k delay → IsSmall k table → IsReadAgain k table

-- and the bytes of NAME.vst are this text
abbrev pub LoonIsReadAgain : Type 0
LoonIsReadAgain =
    (c : LoonCommand) (source catal : List ℕ) (cells : List (List ℕ)) (p : Product) (h : IsLimiting c source catal cells p)
    → IsSmall h.k h.table → (p.file ≡ Some (text h.k h.table)) × IsReadAgain h.k h.table
