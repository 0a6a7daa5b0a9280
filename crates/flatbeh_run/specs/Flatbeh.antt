-- What `flatbeh` reads and answers.
use Rattle.std.specs.Prelude.{◌≡◌, ℕ, ◌≤◌, ◌-◌, ◌^◌, min, length, true, false, List, [], ◌∷◌, ◌++◌, get_or, codes, None, Some, Result, Ok, Err}
use Rattle.vlsi_base.specs.declared.fault.FaultKind.TheVariants as kind
use Rattle.vlsi_base.specs.declared.name.Name.{Name}
use Rattle.vlsi_base.specs.Names.{scalar}
use Rattle.machine_core.specs.Machine.{Machine}
use Rattle.machine_core.specs.Size.{machine_size}
use Rattle.machine_core.specs.Checked.{IsChecked}
use Rattle.cell_model.specs.Library.{Library}
use Rattle.cell_lib.specs.declared.error.LibError.{LibError}
use Rattle.cell_lib.specs.Files.{with_library}
use Rattle.cell_lib.specs.Library.{IsLibraryOf, IsRefusedLibrary, status_of}
use Rattle.cell_pins.specs.Table.{IsTableOf}
use Rattle.net_core.specs.declared.pins.ModelPins.{ModelPins}
use Rattle.net_core.specs.Netlist.{Netlist}
use Rattle.net_machine.specs.Bits.{bits_of}
use Rattle.net_flat.specs.declared.error.FlatError.{FlatError}
use Rattle.net_flat.specs.declared.error.FlatError.TheVariants as flat
use Rattle.net_flat.specs.Flat.{IsPlain, IsFirstOther, AreApart, IsFirstTwice, IsFlat}
use Rattle.spell_theory.specs.Layout.{text_of}
use Rattle.vbe_print.specs.Written.{layout}
use Rattle.vbe_print.specs.Writable.{CanBeVbe}
use Rattle.vst_io.specs.Text.{IsVst, IsVstRefusal}
use Rattle.flatbeh_run.specs.declared.words.FlatbehCommand.{FlatbehCommand}
use Rattle.tool_drive.specs.declared.status.Status.{Status}
use Rattle.tool_drive.specs.declared.status.Status.TheVariants as status
use Rattle.tool_drive.specs.declared.status.Verdict.TheVariants.{NoBehaviour}
use Rattle.tool_drive.specs.declared.tool.Product.{Product}
use Rattle.tool_drive.specs.declared.tool.Refusal.{Refusal}
use Rattle.tool_drive.specs.Lines.{count_line}
use Rattle.tool_drive.specs.Plan.{Plan, Inputs, large}
use Rattle.tool_drive.specs.Refusals.{OfFile, whole_fault}

-- SOURCE, CATAL, and then the files of the cells that CATAL uses
abbrev pub flatbeh_plan : FlatbehCommand → Plan
flatbeh_plan c = with_library (large c.source ∷ []) c.library

-- how large a machine is, or the greatest number of 64 bits where that is less
abbrev pub report : Machine → List ℕ
report m = count_line (codes "size") (min (machine_size m) (2 ^ 64 - 1))

-- the text of the machine is that of NAME.vbe, and its size is printed
pub record IsWrittenAs (out : List ℕ) (m : Machine) (p : Product) : Type 0 where
  pub name : p.name ≡ out ++ codes ".vbe"
  pub file : p.file ≡ Some (text_of (layout m))
  pub text : p.text ≡ report m

-- CATAL and the cells' files are this library, this is the table of the pins of all its cells, and the source is this netlist of them
pub record AreRead (source catal : List ℕ) (cells : List (List ℕ)) (l : Library) (table : List ModelPins) (n : Netlist) : Type 0 where
  pub library : IsLibraryOf false catal cells l
  pub pins : IsTableOf l true table
  pub netlist : IsVst source table n

-- Library and netlist are read, each instance is a gate or a plain flip-flop, no flip-flop has the text of a port, and the netlist's
-- machine by the names of its flip-flops, which has no more names than the netlist has bits, is written.
pub record IsFlattening (c : FlatbehCommand) (source catal : List ℕ) (cells : List (List ℕ)) (p : Product) : Type 0 where
  pub l : Library
  pub table : List ModelPins
  pub n : Netlist
  pub m : Machine
  pub read : AreRead source catal cells l table n
  pub plain : IsPlain n l
  pub apart : AreApart n l
  pub flat : IsFlat n l table m
  pub numbered : length m.vars ≤ bits_of n l
  pub checked : IsChecked m
  pub names : CanBeVbe m
  pub written : IsWrittenAs c.out m p

-- the clock is a bit of a vector
pub record HasVectorClock (m : Machine) (name : Name) : Type 0 where
  pub clock : m.clock ≡ Some name
  pub bit : name.bit ≡ None → ⊥

-- What is refused, in this order: the library, the netlist, an instance that is neither a gate nor a plain flip-flop, a flip-flop with
-- the text of a port, and a clock that is a bit of a vector, which a data-flow text can't have.
pub data IsFlatbehRefusal (c : FlatbehCommand) (source catal : List ℕ) (cells : List (List ℕ)) (s : Status) : Type 0 where
  no_library : (e : LibError) → IsRefusedLibrary false catal cells e → s ≡ status_of e → IsFlatbehRefusal c source catal cells s
  bad_netlist : (l : Library) (table : List ModelPins) → IsLibraryOf false catal cells l → IsTableOf l true table
      → OfFile c.source (IsVstRefusal source table) s → IsFlatbehRefusal c source catal cells s
  no_behaviour : (l : Library) (table : List ModelPins) (n : Netlist) (model : List ℕ) → AreRead source catal cells l table n
      → IsFirstOther n l model → s ≡ status.No (NoBehaviour model) → IsFlatbehRefusal c source catal cells s
  twice : (l : Library) (table : List ModelPins) (n : Netlist) (text : List ℕ) → AreRead source catal cells l table n → IsPlain n l
      → IsFirstTwice n l text → s ≡ whole_fault c.source kind.Twice (scalar text ∷ []) → IsFlatbehRefusal c source catal cells s
  vector_clock : (l : Library) (table : List ModelPins) (n : Netlist) (m : Machine) (name : Name) → AreRead source catal cells l table n
      → IsPlain n l → AreApart n l → IsFlat n l table m → HasVectorClock m name
      → s ≡ whole_fault c.source kind.ClockUse (name ∷ []) → IsFlatbehRefusal c source catal cells s

-- the machine is written and its size is printed, or one of these refusals
abbrev pub Flattens : FlatbehCommand → List ℕ → List ℕ → List (List ℕ) → Result Product Refusal → Type 0
Flattens c source catal cells (Ok p) = IsFlattening c source catal cells p
Flattens c source catal cells (Err r) = (r.part ≡ None) × IsFlatbehRefusal c source catal cells r.status

abbrev pub flatbeh_answers : FlatbehCommand → Inputs → Result Product Refusal → Type 0
flatbeh_answers c i r = Flattens c (get_or i.first 0 []) (get_or i.first 1 []) i.more r

-- how a refusal of the netlist is told
abbrev pub IsToldOf : FlatbehCommand → FlatError → Status → Type 0
IsToldOf c flat.Memory s = ⊥
IsToldOf c (flat.NoBehaviour model) s = s ≡ status.No (NoBehaviour model)
IsToldOf c (flat.Twice text) s = s ≡ whole_fault c.source kind.Twice (scalar text ∷ [])
