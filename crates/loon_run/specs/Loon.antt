-- What `loon` reads and answers.
use Rattle.std.specs.Prelude.{◌≡◌, ℕ, false, List, [], ◌∷◌, ◌++◌, length, get_or, codes, None, Some, Result, Ok, Err}
use Rattle.vlsi_base.specs.declared.kind.Kind.TheVariants as kind
use Rattle.cell_model.specs.Library.{Library}
use Rattle.cell_lib.specs.declared.error.LibError.{LibError}
use Rattle.cell_lib.specs.Files.{with_library}
use Rattle.cell_lib.specs.Library.{IsLibraryOf, IsRefusedLibrary, status_of}
use Rattle.cell_pins.specs.Table.{IsTableOf}
use Rattle.net_core.specs.declared.pins.ModelPins.{ModelPins}
use Rattle.net_core.specs.Netlist.{Netlist, IsNetlist}
use Rattle.loon_fanout.specs.declared.error.BufferError.{BufferError}
use Rattle.loon_fanout.specs.declared.error.BufferError.TheVariants as error
use Rattle.loon_fanout.specs.Limited.{IsCrowded, HasFanout, IsOfCells, StaysRight}
use Rattle.loon_wiring.specs.Repeaters.{NoneRepeats}
use Rattle.loon_drive.specs.Driven.{most_sinks, IsDrivenFrom}
use Rattle.spell_theory.specs.Layout.{text_of}
use Rattle.vst_print.specs.Written.{layout}
use Rattle.vst_io.specs.Text.{IsVst, IsVstRefusal}
use Rattle.loon_run.specs.declared.words.LoonCommand.{LoonCommand}
use Rattle.tool_drive.specs.declared.status.Status.{Status}
use Rattle.tool_drive.specs.declared.status.Status.TheVariants as status
use Rattle.tool_drive.specs.declared.tool.Product.{Product}
use Rattle.tool_drive.specs.declared.tool.Refusal.{Refusal}
use Rattle.tool_drive.specs.Lines.{count_line}
use Rattle.tool_drive.specs.Plan.{Plan, Inputs, large}
use Rattle.tool_drive.specs.Refusals.{OfFile}

-- SOURCE, CATAL, and then the files of the cells that CATAL uses
abbrev pub loon_plan : LoonCommand → Plan
loon_plan c = with_library (large c.source ∷ []) c.library

-- how many instances a netlist has, and how many femtoseconds its longest path takes
abbrev pub report : Netlist → ℕ → List ℕ
report n delay = count_line (codes "cells") (length n.instances) ++ count_line (codes "delay") delay

-- the text of the netlist, by the table of the usable cells' pins, is that of NAME.vst, and the report is printed
pub record IsWrittenAs (out : List ℕ) (table : List ModelPins) (n : Netlist) (delay : ℕ) (p : Product) : Type 0 where
  pub name : p.name ≡ out ++ codes ".vst"
  pub file : p.file ≡ Some (text_of (layout n table))
  pub text : p.text ≡ report n delay

-- CATAL and the cells' files are this library, this is the table of the pins of its usable cells, and the source is this netlist of
-- them
pub record AreRead (source catal : List ℕ) (cells : List (List ℕ)) (l : Library) (table : List ModelPins) (n : Netlist) : Type 0 where
  pub library : IsLibraryOf false catal cells l
  pub pins : IsTableOf l false table
  pub netlist : IsVst source table n

-- A netlist without instances stays as it is, and takes no time. Another, of usable cells, gets buffers, and then
-- its cells are exchanged for drives of them: no net has more sinks than asked for, and no exchange of one instance's cell makes the
-- longest path, which takes so many femtoseconds and no more than before the exchanges, shorter.
pub data IsMade (n : Netlist) (l : Library) (fanout : ℕ) : Netlist → ℕ → Type 0 where
  bare : n.instances ≡ [] → IsMade n l fanout n 0
  driven : {k : Netlist} {delay : ℕ} → IsOfCells n l → IsDrivenFrom n l fanout k delay → HasFanout l (most_sinks fanout) k
      → IsMade n l fanout k delay

-- Library and netlist are read, and what is made of it is written; it is right for each machine that the read one is right for.
pub record IsLimiting (c : LoonCommand) (source catal : List ℕ) (cells : List (List ℕ)) (p : Product) : Type 0 where
  pub l : Library
  pub table : List ModelPins
  pub n : Netlist
  pub read : AreRead source catal cells l table n
  pub k : Netlist
  pub delay : ℕ
  pub sound : IsNetlist k
  pub made : IsMade n l c.fanout k delay
  pub right : StaysRight n l k
  pub written : IsWrittenAs c.out table k delay p

-- What is refused, in this order: the library, the netlist, and a net with too many sinks where the library has neither a buffer nor
-- an inverter.
pub data IsLoonRefusal (c : LoonCommand) (source catal : List ℕ) (cells : List (List ℕ)) (s : Status) : Type 0 where
  no_library : (e : LibError) → IsRefusedLibrary false catal cells e → s ≡ status_of e → IsLoonRefusal c source catal cells s
  bad_netlist : (l : Library) (table : List ModelPins) → IsLibraryOf false catal cells l → IsTableOf l false table
      → OfFile c.source (IsVstRefusal source table) s → IsLoonRefusal c source catal cells s
  no_buffer : (l : Library) (table : List ModelPins) (n : Netlist) → AreRead source catal cells l table n
      → IsCrowded l (most_sinks c.fanout) n → NoneRepeats l.cells → s ≡ status.NoCover kind.Inv → IsLoonRefusal c source catal cells s

-- the netlist is written and the report is printed, or one of these refusals
abbrev pub Limits : LoonCommand → List ℕ → List ℕ → List (List ℕ) → Result Product Refusal → Type 0
Limits c source catal cells (Ok p) = IsLimiting c source catal cells p
Limits c source catal cells (Err r) = (r.part ≡ None) × IsLoonRefusal c source catal cells r.status

abbrev pub loon_answers : LoonCommand → Inputs → Result Product Refusal → Type 0
loon_answers c i r = Limits c (get_or i.first 0 []) (get_or i.first 1 []) i.more r

-- how a refusal is told
abbrev pub IsToldOf : BufferError → Status → Type 0
IsToldOf error.Memory s = ⊥
IsToldOf error.NoBuffer s = s ≡ status.NoCover kind.Inv
