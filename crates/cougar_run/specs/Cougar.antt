-- What `cougar` reads and answers.
use Rattle.std.specs.Prelude.{◌≡◌, ℕ, ◌-◌, ◌<◌, ◌^◌, Bool, ◌&&◌, true, false, List, [], ◌∷◌, ◌++◌, filter, length, get_or, codes, is_none, None, Some, Result, Ok, Err}
use Rattle.vlsi_base.specs.declared.fault.FaultKind.TheVariants as kind
use Rattle.vlsi_base.specs.declared.fault.Limit.{Limit}
use Rattle.vlsi_base.specs.declared.name.Name.{Name}
use Rattle.vlsi_base.specs.declared.name.Port.{Port}
use Rattle.vlsi_base.specs.Name.{is_supply}
use Rattle.vlsi_base.specs.Names.{scalar}
use Rattle.ap_io.specs.declared.figure.Figure.{Figure}
use Rattle.ap_io.specs.ApText.{IsApText}
use Rattle.ap_io.specs.Refusal.{IsApRefusal}
use Rattle.cell_model.specs.Library.{Library}
use Rattle.cell_lib.specs.declared.error.LibError.{LibError}
use Rattle.cell_lib.specs.Files.{with_library}
use Rattle.cell_lib.specs.Library.{IsLibraryOf, IsRefusedLibrary, status_of}
use Rattle.cell_model.specs.Layout.{instances_of, shapes}
use Rattle.cell_pins.specs.Table.{IsTableOf}
use Rattle.net_core.specs.declared.pins.ModelPins.{ModelPins}
use Rattle.net_core.specs.Netlist.{Netlist}
use Rattle.net_core.specs.Checks.{Fits, IsPinTable}
use Rattle.net_right.specs.Writable.{CanBeNamed, IsBadMap, PinsCanBeWritten}
use Rattle.spell_theory.specs.Layout.{text_of}
use Rattle.vst_print.specs.declared.error.WriteError.{WriteError}
use Rattle.vst_print.specs.declared.error.WriteError.TheVariants as writing
use Rattle.vst_print.specs.Written.{layout}
use Rattle.cougar_extract.specs.declared.error.Step.{Step}
use Rattle.cougar_extract.specs.declared.error.ExtractError.{ExtractError}
use Rattle.cougar_extract.specs.declared.error.ExtractError.TheVariants as extracting
use Rattle.cougar_extract.specs.Extracted.{AreKnown, IsExtracted}
use Rattle.cougar_extract.specs.Refused.{IsFirstUnknown, IsTooLarge, HasTooManyTerminals, CanBeNumbered, NoShort, IsLeastShort, IsChainOf}
use Rattle.cougar_run.specs.declared.words.CougarCommand.{CougarCommand}
use Rattle.tool_drive.specs.declared.status.Status.{Status}
use Rattle.tool_drive.specs.declared.status.Status.TheVariants as status
use Rattle.tool_drive.specs.declared.status.Verdict.TheVariants.{Shorted}
use Rattle.tool_drive.specs.declared.tool.Product.{Product}
use Rattle.tool_drive.specs.declared.tool.Refusal.{Refusal}
use Rattle.tool_drive.specs.Lines.{count_line}
use Rattle.tool_drive.specs.Plan.{Plan, Inputs, large}
use Rattle.tool_drive.specs.Refusals.{OfFile, whole_fault}

-- SOURCE, then CATAL, and then the files of the cells that CATAL uses
abbrev pub cougar_plan : CougarCommand → Plan
cougar_plan c = with_library (large c.source ∷ []) c.library

abbrev pub netlist_name : List ℕ → List ℕ
netlist_name out = out ++ codes ".vst"

-- a port is vdd or vss
abbrev pub is_supply_port : Port → Bool
is_supply_port p = is_none p.name.bit && is_supply p.name.text

-- How many classes there are but for those of the ports vdd and vss: since no two ports are in one class, each of these takes one
-- away.
abbrev pub net_count : Netlist → ℕ
net_count n = n.count - length (filter is_supply_port n.ports)

-- how many instances a netlist has, and how many classes without those of the supplies
abbrev pub report : Netlist → List ℕ
report n = count_line (codes "cells") (length n.instances) ++ count_line (codes "nets") (net_count n)

-- the text of the netlist, by a table of the pins of all cells, is that of NAME.vst, and the report is printed
pub record IsWrittenAs (out : List ℕ) (l : Library) (n : Netlist) (p : Product) : Type 0 where
  pub table : List ModelPins
  pub pins : IsTableOf l true table
  pub sound : IsPinTable table
  pub name : p.name ≡ netlist_name out
  pub file : p.file ≡ Some (text_of (layout n table))
  pub text : p.text ≡ report n

-- Library and layout are read, the layout's shapes are fewer than 2^32, and so are its ports and pins, no two ports of it are joined,
-- and the netlist that it gives can be written and is.
pub record IsExtraction (c : CougarCommand) (source catal : List ℕ) (cells : List (List ℕ)) (p : Product) : Type 0 where
  pub l : Library
  pub library : IsLibraryOf false catal cells l
  pub f : Figure
  pub figure : IsApText source f
  pub n : Netlist
  pub extracted : IsExtracted f l n
  pub few : CanBeNumbered f.items l
  pub apart : NoShort f.items l
  pub named : CanBeNamed n
  pub written : IsWrittenAs c.out l n p

-- What is refused, in this order: the library, the layout, an instance of a cell that the library hasn't, 2^32 shapes or
-- more, then 2^32 ports and pins or more, joined ports, and names that can't be written.
pub data IsCougarRefusal (c : CougarCommand) (source catal : List ℕ) (cells : List (List ℕ)) (s : Status) : Type 0 where
  no_library : (e : LibError) → IsRefusedLibrary false catal cells e → s ≡ status_of e → IsCougarRefusal c source catal cells s
  bad_layout : (l : Library) → IsLibraryOf false catal cells l → OfFile c.source (IsApRefusal source) s → IsCougarRefusal c source catal cells s
  unknown_cell : (l : Library) (f : Figure) (model : List ℕ) → IsLibraryOf false catal cells l → IsApText source f
      → IsFirstUnknown (instances_of f.items) l model → s ≡ whole_fault c.source kind.UnknownCell (scalar model ∷ []) → IsCougarRefusal c source catal cells s
  too_large : (l : Library) (f : Figure) (limit : Limit) → IsLibraryOf false catal cells l → IsApText source f
      → AreKnown (instances_of f.items) l → IsTooLarge f.items l limit → s ≡ status.Limit limit → IsCougarRefusal c source catal cells s
  many_terminals : (l : Library) (f : Figure) (limit : Limit) → IsLibraryOf false catal cells l → IsApText source f
      → AreKnown (instances_of f.items) l → length (shapes f.items l) < 2 ^ 32 → HasTooManyTerminals f.items l limit
      → s ≡ status.Limit limit → IsCougarRefusal c source catal cells s
  shorted : (l : Library) (f : Figure) (a b : Name) (chain : List Step) → IsLibraryOf false catal cells l → IsApText source f
      → AreKnown (instances_of f.items) l → CanBeNumbered f.items l → IsLeastShort f.items l a b → IsChainOf (shapes f.items l) a b chain
      → s ≡ status.No (Shorted a b) → IsCougarRefusal c source catal cells s
  bad_map : (l : Library) (f : Figure) (n : Netlist) → IsLibraryOf false catal cells l → IsApText source f → IsExtracted f l n
      → CanBeNumbered f.items l → NoShort f.items l → IsBadMap n → s ≡ whole_fault c.source kind.BadMap [] → IsCougarRefusal c source catal cells s

-- the netlist is written and the report is printed, or one of these refusals
abbrev pub Extracts : CougarCommand → List ℕ → List ℕ → List (List ℕ) → Result Product Refusal → Type 0
Extracts c source catal cells (Ok p) = IsExtraction c source catal cells p
Extracts c source catal cells (Err r) = (r.part ≡ None) × IsCougarRefusal c source catal cells r.status

abbrev pub cougar_answers : CougarCommand → Inputs → Result Product Refusal → Type 0
cougar_answers c i r = Extracts c (get_or i.first 0 []) (get_or i.first 1 []) i.more r

-- nothing of its pins stands against the netlist's being written
abbrev pub IsWritable : Library → Netlist → Type 0
IsWritable l n = (table : List ModelPins) → IsTableOf l true table → IsPinTable table → Fits n table × PinsCanBeWritten table

-- how a refusal of extraction is told, and how one of writing is
abbrev pub IsToldOf : CougarCommand → ExtractError → Status → Type 0
IsToldOf c extracting.Memory s = ⊥
IsToldOf c (extracting.UnknownCell model) s = s ≡ whole_fault c.source kind.UnknownCell (scalar model ∷ [])
IsToldOf c (extracting.Limit limit) s = s ≡ status.Limit limit
IsToldOf c (extracting.Shorted a b chain) s = s ≡ status.No (Shorted a b)

abbrev pub IsWriteToldOf : CougarCommand → WriteError → Status → Type 0
IsWriteToldOf c writing.Memory s = ⊥
IsWriteToldOf c writing.BadMap s = s ≡ whole_fault c.source kind.BadMap []
