-- Which texts of bytes are netlists, and why others aren't.
use Rattle.std.specs.Prelude.{◌≡◌, ◌↔◌, ◌≤◌, ◌<◌, ◌+◌, not, ℕ, List, map, filter, length, None, Some, IsPermutation}
use Rattle.std.specs.List.{All}
use Rattle.vlsi_base.specs.declared.limits.TheConstants.{MOST_NETLIST_BYTES}
use Rattle.vlsi_base.specs.declared.name.Name.{Name}
use Rattle.vlsi_base.specs.declared.name.Port.{Port}
use Rattle.vlsi_base.specs.declared.name.Terminal.{Terminal}
use Rattle.vlsi_base.specs.declared.fault.FaultKind.{FaultKind}
use Rattle.vlsi_base.specs.declared.fault.LimitKind.TheVariants as limit
use Rattle.vlsi_base.specs.declared.fault.ReadError.{ReadError}
use Rattle.vlsi_base.specs.declared.fault.ReadError.TheVariants as errors
use Rattle.vlsi_base.specs.Name.{is_supply}
use Rattle.vlsi_base.specs.Names.{vdd, vss}
use Rattle.vlsi_base.specs.Member.{In}
use Rattle.vhdl_lexer.specs.Listing.{tokens_in, refusal_in}
use Rattle.source_checks.specs.Checks.{most_ports, fault}
use Rattle.net_core.specs.declared.pins.ModelPins.{ModelPins}
use Rattle.net_core.specs.Places.{IsThere}
use Rattle.net_core.specs.Netlist.{Netlist, IsNetlist, HasClass}
use Rattle.net_core.specs.Checks.{Passes, IsFault}
use Rattle.vst_text.specs.declared.file.StructuralFile.{StructuralFile}
use Rattle.vst_text.specs.Vst.{IsStructure, RefusedAs}
use Rattle.vst_io.specs.Nets.{nets, port_bits, instance_of, links}
use Rattle.vst_io.specs.Faults.{first_fault}

-- what is written, where the bytes are few enough and are cut into tokens
pub record IsWritten (bytes : List ℕ) (file : StructuralFile) : Type 0 where
  pub few : length bytes ≤ MOST_NETLIST_BYTES
  pub cut : refusal_in bytes ≡ None
  pub structure : IsStructure (tokens_in bytes) file

-- two terminals have one class exactly where they stand for one bit of a net
abbrev pub ClassesAreNets : StructuralFile → Netlist → Type 0
ClassesAreNets f n =
    (a b : Terminal) (x y : Name) (j k : ℕ) → In (a, x) (links f) → In (b, y) (links f) → HasClass n a j → HasClass n b k → (j ≡ k) ↔ (x ≡ y)

-- The netlist of a text: its ports are the entity's in the order of names, with an instance for each statement, in file order.
pub record IsNetlistOf (table : List ModelPins) (f : StructuralFile) (n : Netlist) : Type 0 where
  pub sound : IsNetlist n
  pub name : n.name ≡ f.entity.name
  pub ports : IsPermutation n.ports (port_bits (nets f))
  pub instances : n.instances ≡ map (instance_of table) f.instances
  pub models : (model : List ℕ) → IsThere n.models model ↔ IsThere (map (λ i. i.component) f.instances) model
  pub classes : ClassesAreNets f n

-- the port bits without vdd and vss
abbrev pub signal_ports : Netlist → List Port
signal_ports n = filter (λ p. not (is_supply p.name.text)) n.ports

-- The bytes are a structural text without a fault, and this is its netlist, which passes the checks with this table.
pub record IsVst (bytes : List ℕ) (table : List ModelPins) (n : Netlist) : Type 0 where
  pub file : StructuralFile
  pub written : IsWritten bytes file
  pub no_fault : first_fault table file ≡ None
  pub netlist : IsNetlistOf table file n
  pub passes : Passes table n
  pub few_ports : length (signal_ports n) ≤ most_ports

-- the text has no fault, and this is its netlist
abbrev pub Says : List ℕ → List ModelPins → StructuralFile → Netlist → Type 0
Says bytes table file n = IsWritten bytes file × (first_fault table file ≡ None) × IsNetlistOf table file n

-- Why bytes are no netlist, in this order: there are too many, they aren't cut into tokens, the tokens are no text, it has a fault, its
-- netlist has one, or there are too many ports. Out of memory is no reason.
pub data Refused (bytes : List ℕ) (table : List ModelPins) (e : ReadError) : Type 0 where
  long : MOST_NETLIST_BYTES < length bytes → e ≡ errors.Limit (record { which = limit.File; reached = MOST_NETLIST_BYTES + 1 }) → Refused bytes table e
  uncut : length bytes ≤ MOST_NETLIST_BYTES → refusal_in bytes ≡ Some e → Refused bytes table e
  unwritten : length bytes ≤ MOST_NETLIST_BYTES → refusal_in bytes ≡ None → RefusedAs (tokens_in bytes) e → Refused bytes table e
  faulty : (file : StructuralFile) → IsWritten bytes file → first_fault table file ≡ Some e → Refused bytes table e
  unsound : (file : StructuralFile) (n : Netlist) (k : FaultKind) (names : List Name)
      → Says bytes table file n → IsFault table n k names → e ≡ fault k 1 names → Refused bytes table e
  wide : (file : StructuralFile) (n : Netlist) → Says bytes table file n → Passes table n → most_ports < length (signal_ports n)
      → e ≡ errors.Limit (record { which = limit.Ports; reached = length (signal_ports n) }) → Refused bytes table e

-- the refusal, or memory has run out
abbrev pub IsVstRefusal : List ℕ → List ModelPins → ReadError → Type 0
IsVstRefusal bytes table errors.Memory = Unit {0}
IsVstRefusal bytes table (errors.Input f) = Refused bytes table (errors.Input f)
IsVstRefusal bytes table (errors.Limit l) = Refused bytes table (errors.Limit l)

-- each model of the table has the pins vdd and vss
abbrev pub ListsSupplies : List ModelPins → Type 0
ListsSupplies table = All (λ m. IsThere (map (λ p. p.name) m.pins) vdd × IsThere (map (λ p. p.name) m.pins) vss) table
