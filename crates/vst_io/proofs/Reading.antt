-- Why a text is refused, stage by stage.
use Rattle.std.proofs.Common.{◌≡◌, ℕ, ◌<◌, ◌≤◌, List, length, None}
use Rattle.vlsi_base.specs.declared.limits.TheConstants.{MOST_NETLIST_BYTES}
use Rattle.vlsi_base.specs.declared.fault.ReadError.{ReadError}
use Rattle.vlsi_base.specs.declared.fault.ReadError.TheVariants as errors
use Rattle.vhdl_lexer.specs.Listing.{tokens_in, refusal_in}
use Rattle.net_core.specs.declared.pins.ModelPins.{ModelPins}
use Rattle.net_core.specs.Places.{IsThere}
use Rattle.net_core.specs.Netlist.{Netlist}
use Rattle.net_core.specs.Checks.{IsPinTable, Fits, Passes}
use Rattle.net_right.specs.Condition.{MeetsCondition}
use Rattle.vst_text.specs.declared.file.InstanceStatement.{InstanceStatement}
use Rattle.vst_text.specs.declared.file.StructuralFile.{StructuralFile}
use Rattle.vst_text.specs.Vst.{IsRefusedStructure}
use Rattle.vst_text.proofs.Mapped.{maps_some}
use Rattle.vst_io.specs.Checked.{IsChecked, IsFaultOf, IsUnsound}
use Rattle.vst_io.specs.Text.{IsWritten, IsNetlistOf, IsVstRefusal, Says, ListsSupplies, unwritten, faulty, unsound}
use Rattle.vst_io.proofs.Places.{stands_in}
use Rattle.vst_io.proofs.Drafted.{all_mapped}
use Rattle.vst_io.proofs.Condition.{meets, fits_table}

pub structure_refused : (bytes : List ℕ) (table : List ModelPins) (e : ReadError) → length bytes ≤ MOST_NETLIST_BYTES → refusal_in bytes ≡ None → IsRefusedStructure (tokens_in bytes) e → IsVstRefusal bytes table e
structure_refused bytes table errors.Memory few cut why = tt
structure_refused bytes table (errors.Input f) few cut why = unwritten few cut why
structure_refused bytes table (errors.Limit l) few cut why = unwritten few cut why

pub fault_refused : (bytes : List ℕ) (table : List ModelPins) (file : StructuralFile) (e : ReadError) → IsWritten bytes file → IsFaultOf table file e → IsVstRefusal bytes table e
fault_refused bytes table file errors.Memory written why = tt
fault_refused bytes table file (errors.Input f) written why = faulty file written why
fault_refused bytes table file (errors.Limit l) written why = faulty file written why

pub netlist_refused : (bytes : List ℕ) (table : List ModelPins) (file : StructuralFile) (n : Netlist) (e : ReadError) → Says bytes table file n → IsUnsound table n e → IsVstRefusal bytes table e
netlist_refused bytes table file n errors.Memory says why = tt
netlist_refused bytes table file n (errors.Input f) says why = unsound file n why.kind why.names says why.fault_is why.is
netlist_refused bytes table file n (errors.Limit l) says why = absurd why

-- each instance of a text maps a pin
pub each_maps : (bytes : List ℕ) (file : StructuralFile) → IsWritten bytes file → (i : InstanceStatement) → IsThere file.instances i → 0 < length i.associations
each_maps bytes file written i h = maps_some (tokens_in bytes) file written.structure i (stands_in file.instances h.0 i h.1)

pub netlist_fits : (table : List ModelPins) (file : StructuralFile) (n : Netlist) → IsPinTable table → IsChecked table file → IsNetlistOf table file n → Fits n table
netlist_fits table file n is_table checked of = fits_table table file n is_table checked.declared (all_mapped table file checked.maps) of

pub netlist_meets : (table : List ModelPins) (file : StructuralFile) (n : Netlist) → IsPinTable table → IsChecked table file → IsNetlistOf table file n → Passes table n → ListsSupplies table → MeetsCondition table n
netlist_meets table file n is_table checked of passes lists =
    meets table file n is_table checked.declared (all_mapped table file checked.maps) of (netlist_fits table file n is_table checked of) passes lists
