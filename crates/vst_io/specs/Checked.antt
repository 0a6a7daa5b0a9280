-- Texts that pass the checks before a netlist is made, and netlists that are refused.
use Rattle.std.specs.Prelude.{◌≡◌, ◌<◌, ◌^◌, List, [], None, Some}
use Rattle.vlsi_base.specs.declared.fault.FaultKind.{FaultKind}
use Rattle.vlsi_base.specs.declared.fault.ReadError.{ReadError}
use Rattle.vlsi_base.specs.declared.fault.ReadError.TheVariants as errors
use Rattle.vlsi_base.specs.declared.name.Name.{Name}
use Rattle.source_checks.specs.Checks.{fault, first_repeated}
use Rattle.net_core.specs.declared.pins.ModelPins.{ModelPins}
use Rattle.net_core.specs.Netlist.{Netlist}
use Rattle.net_core.specs.Checks.{IsFault}
use Rattle.vst_text.specs.declared.file.StructuralFile.{StructuralFile}
use Rattle.vst_io.specs.Nets.{nets, components}
use Rattle.vst_io.specs.Faults.{all_widths, all_forms, first_unlisted, bad_maps, terminal_count, first_fault}

-- its declarations have no fault, and the table lists its components
pub record IsDeclared (table : List ModelPins) (f : StructuralFile) : Type 0 where
  pub widths : all_widths f ≡ []
  pub forms : all_forms f ≡ []
  pub listed : first_unlisted table (components f.declarations) ≡ None

-- nor have its maps, it has few terminals, and no net is declared twice
pub record IsChecked (table : List ModelPins) (f : StructuralFile) : Type 0 where
  pub declared : IsDeclared table f
  pub maps : bad_maps table f ≡ []
  pub few : terminal_count table f < 2 ^ 32
  pub once : first_repeated [] (nets f) ≡ None

-- the first fault of a text, or memory has run out
abbrev pub IsFaultOf : List ModelPins → StructuralFile → ReadError → Type 0
IsFaultOf table f errors.Memory = Unit {0}
IsFaultOf table f (errors.Input i) = first_fault table f ≡ Some (errors.Input i)
IsFaultOf table f (errors.Limit l) = first_fault table f ≡ Some (errors.Limit l)

-- a fault of a netlist at line 1
pub record IsNetFault (table : List ModelPins) (n : Netlist) (e : ReadError) : Type 0 where
  pub kind : FaultKind
  pub names : List Name
  pub fault_is : IsFault table n kind names
  pub is : e ≡ fault kind 1 names

-- that, or memory has run out
abbrev pub IsUnsound : List ModelPins → Netlist → ReadError → Type 0
IsUnsound table n errors.Memory = Unit {0}
IsUnsound table n (errors.Input i) = IsNetFault table n (errors.Input i)
IsUnsound table n (errors.Limit l) = ⊥
