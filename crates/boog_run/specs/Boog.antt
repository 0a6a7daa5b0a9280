-- What `boog` reads and answers.
use Rattle.std.specs.Prelude.{◌≡◌, ℕ, ◌<◌, ◌≤◌, false, List, [], ◌∷◌, ◌++◌, length, get_or, codes, None, Some, Result, Ok, Err}
use Rattle.machine_core.specs.Machine.{Machine}
use Rattle.machine_core.specs.Size.{machine_size}
use Rattle.vbe_io.specs.Text.{IsVbe, IsVbeRefusal}
use Rattle.cell_model.specs.Library.{Library}
use Rattle.vlsi_base.specs.declared.kind.Kind.{Kind}
use Rattle.cell_model.specs.Covering.{needed, IsFirstMissing}
use Rattle.graph_theory.specs.Graph.{Graph}
use Rattle.subject_graph.specs.Subject.{IsSubjectGraph}
use Rattle.boog_map.specs.Netlist.{has_registers, Covers, StandsInOrder, HasOneCellAtMost, HasFewInputs, IsLeanFor, IsTightFor}
use Rattle.net_right.specs.Writable.{CanBeNamed, PinsCanBeWritten}
use Rattle.cell_lib.specs.declared.error.LibError.{LibError}
use Rattle.cell_lib.specs.Files.{with_library}
use Rattle.cell_lib.specs.Library.{IsLibraryOf, IsRefusedLibrary, status_of}
use Rattle.cell_pins.specs.Table.{IsTableOf}
use Rattle.net_core.specs.declared.pins.ModelPins.{ModelPins}
use Rattle.net_core.specs.Netlist.{Netlist, IsNetlist}
use Rattle.net_core.specs.Checks.{IsPinTable}
use Rattle.net_right.specs.Condition.{MeetsConditionIn}
use Rattle.net_right.specs.Right.{IsRightNetlist, HasPinsOfCells}
use Rattle.spell_theory.specs.Layout.{text_of}
use Rattle.vst_print.specs.Written.{layout}
use Rattle.boog_run.specs.declared.words.BoogCommand.{BoogCommand}
use Rattle.tool_drive.specs.declared.status.Status.{Status}
use Rattle.tool_drive.specs.declared.status.Status.TheVariants as status
use Rattle.tool_drive.specs.declared.tool.Product.{Product}
use Rattle.tool_drive.specs.declared.tool.Refusal.{Refusal}
use Rattle.tool_drive.specs.Lines.{count_line}
use Rattle.tool_drive.specs.Plan.{Plan, Inputs, limited}
use Rattle.tool_drive.specs.Refusals.{OfFile}
use Rattle.tool_drive.specs.Size.{size_limit}
use Rattle.tool_drive.specs.declared.size.TheConstants.{MOST_SIZE}

-- SOURCE, then CATAL, and then the files of the cells that CATAL uses
abbrev pub boog_plan : BoogCommand → Plan
boog_plan c = with_library (limited c.source ∷ []) c.library

abbrev pub netlist_name : List ℕ → List ℕ
netlist_name out = out ++ codes ".vst"

-- how many instances a netlist has
abbrev pub report : Netlist → List ℕ
report n = count_line (codes "cells") (length n.instances)

-- A netlist for a machine. The library has a usable cell of each kind that mapping needs. The netlist is right for the machine, each
-- instance has the pins of its cell, it meets the condition of the stages behind, stands in order, and is lean: it has at most one
-- cell for each register and for each node of the machine's subject graph that a root reaches, and its gates have few inputs. It is
-- tight: no usable cell of the library could stand for two of its gates.
pub record IsNetlistFor (l : Library) (m : Machine) (n : Netlist) : Type 0 where
  pub sound : IsNetlist n
  pub covered : Covers l m
  pub right : IsRightNetlist n l m
  pub pins : HasPinsOfCells n l
  pub condition : MeetsConditionIn l n
  pub order : StandsInOrder n l m
  pub lean : IsLeanFor n m
  pub graph : Graph
  pub subject : IsSubjectGraph m graph
  pub most : HasOneCellAtMost n m graph
  pub few : HasFewInputs n m graph
  pub tight : IsTightFor n l

-- the text of the netlist, by a table of the usable cells' pins, is that of NAME.vst, and its number of instances is printed
pub record IsWrittenAs (out : List ℕ) (l : Library) (n : Netlist) (p : Product) : Type 0 where
  pub table : List ModelPins
  pub pins : IsTableOf l false table
  pub sound : IsPinTable table
  pub name : p.name ≡ netlist_name out
  pub file : p.file ≡ Some (text_of (layout n table))
  pub text : p.text ≡ report n

-- Library and source are read, and a netlist for the source's machine is written.
pub record IsMapping (c : BoogCommand) (source catal : List ℕ) (cells : List (List ℕ)) (p : Product) : Type 0 where
  pub l : Library
  pub library : IsLibraryOf false catal cells l
  pub m : Machine
  pub machine : IsVbe source m
  pub small : machine_size m ≤ MOST_SIZE
  pub n : Netlist
  pub netlist : IsNetlistFor l m n
  pub written : IsWrittenAs c.out l n p

-- why a machine has no netlist: it is too large, or else a kind is the first that no usable cell has
pub data IsNoNetlist (l : Library) (m : Machine) (s : Status) : Type 0 where
  too_large : MOST_SIZE < machine_size m → s ≡ size_limit m → IsNoNetlist l m s
  no_cover : machine_size m ≤ MOST_SIZE → (k : Kind) → IsFirstMissing l.cells k (needed (has_registers m)) → s ≡ status.NoCover k → IsNoNetlist l m s

-- What is refused, in this order: the library, the source, its machine.
pub data IsBoogRefusal (c : BoogCommand) (source catal : List ℕ) (cells : List (List ℕ)) (s : Status) : Type 0 where
  no_library : (e : LibError) → IsRefusedLibrary false catal cells e → s ≡ status_of e → IsBoogRefusal c source catal cells s
  bad_source : (l : Library) → IsLibraryOf false catal cells l → OfFile c.source (IsVbeRefusal source) s → IsBoogRefusal c source catal cells s
  no_netlist : (l : Library) (m : Machine) → IsLibraryOf false catal cells l → IsVbe source m → IsNoNetlist l m s → IsBoogRefusal c source catal cells s

-- the netlist is written and its number of instances is printed, or one of these refusals
abbrev pub Maps : BoogCommand → List ℕ → List ℕ → List (List ℕ) → Result Product Refusal → Type 0
Maps c source catal cells (Ok p) = IsMapping c source catal cells p
Maps c source catal cells (Err r) = (r.part ≡ None) × IsBoogRefusal c source catal cells r.status

abbrev pub boog_answers : BoogCommand → Inputs → Result Product Refusal → Type 0
boog_answers c i r = Maps c (get_or i.first 0 []) (get_or i.first 1 []) i.more r

-- nothing of the netlist's names stands against its being written
pub record IsWritable (l : Library) (n : Netlist) : Type 0 where
  pub condition : MeetsConditionIn l n
  pub named : CanBeNamed n
  pub pins : (table : List ModelPins) → IsTableOf l false table → PinsCanBeWritten table
