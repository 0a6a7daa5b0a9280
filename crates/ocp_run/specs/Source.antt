-- A netlist that is to be placed, as it is read.
use Rattle.std.specs.Prelude.{◌≡◌, ℕ, Bool, ◌&&◌, false, List, [], ◌∷◌, map, bytes_eq, is_none}
use Rattle.std.specs.List.{list_any}
use Rattle.vlsi_base.specs.declared.fault.FaultKind.TheVariants as kind
use Rattle.vlsi_base.specs.declared.name.Name.{Name}
use Rattle.vlsi_base.specs.declared.name.Port.{Port}
use Rattle.vlsi_base.specs.Names.{vdd, vss}
use Rattle.cell_model.specs.Library.{Library}
use Rattle.cell_lib.specs.Library.{IsLibraryOf}
use Rattle.cell_pins.specs.Table.{IsTableOf}
use Rattle.net_core.specs.declared.pins.ModelPins.{ModelPins}
use Rattle.net_core.specs.Places.{IsThere}
use Rattle.net_core.specs.Netlist.{Netlist}
use Rattle.vst_io.specs.Text.{IsVst, IsVstRefusal}
use Rattle.tool_drive.specs.declared.status.Status.{Status}
use Rattle.tool_drive.specs.Refusals.{OfFile, whole_fault}

-- a port of this name
abbrev pub HasPort : Netlist → Name → Type 0
HasPort n name = IsThere (map (λ p. p.name) n.ports) name

-- a port is the scalar of this text; and one of some is
abbrev pub is_named : List ℕ → Port → Bool
is_named text p = bytes_eq p.name.text text && is_none p.name.bit

abbrev pub is_among : List ℕ → List Port → Bool
is_among text ports = list_any (is_named text) ports

-- The bytes are this netlist of the cells in a table, with the ports vdd and vss.
pub record IsSource (source : List ℕ) (table : List ModelPins) (n : Netlist) : Type 0 where
  pub netlist : IsVst source table n
  pub has_vdd : HasPort n vdd
  pub has_vss : HasPort n vss

-- CATAL and the cells' files are this library, this is the table of the pins of its usable cells, and the source is this netlist of
-- them
pub record AreRead (source catal : List ℕ) (cells : List (List ℕ)) (l : Library) (table : List ModelPins) (n : Netlist) : Type 0 where
  pub library : IsLibraryOf false catal cells l
  pub pins : IsTableOf l false table
  pub netlist : IsSource source table n

-- Why a file is no such netlist, in this order: its text is refused; its netlist has no port vdd; it has no port vss.
pub data IsNoSource (file source : List ℕ) (table : List ModelPins) (s : Status) : Type 0 where
  bad_text : OfFile file (IsVstRefusal source table) s → IsNoSource file source table s
  no_vdd : (n : Netlist) → IsVst source table n → (HasPort n vdd → ⊥) → s ≡ whole_fault file kind.Unknown (vdd ∷ []) → IsNoSource file source table s
  no_vss : (n : Netlist) → IsVst source table n → HasPort n vdd → (HasPort n vss → ⊥) → s ≡ whole_fault file kind.Unknown (vss ∷ [])
      → IsNoSource file source table s
