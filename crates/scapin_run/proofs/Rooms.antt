-- A netlist that is read has room for a scan path.
use Rattle.std.proofs.Common.{false, List, subst}
use Rattle.vlsi_base.specs.declared.name.Name.{Name}
use Rattle.vlsi_base.specs.Member.{In}
use Rattle.cell_model.specs.Library.{Library}
use Rattle.cell_checks.specs.Checked.{IsChecked as HasPassed}
use Rattle.cell_pins.specs.Table.{IsTableOf}
use Rattle.cell_lib.specs.Laws.{LibraryPasses}
use Rattle.net_core.specs.declared.pins.ModelPins.{ModelPins}
use Rattle.net_core.specs.Netlist.{Netlist}
use Rattle.net_core.specs.Checks.{Fits}
use Rattle.scan_theory.proofs.Cells.{celled}
use Rattle.vst_room.specs.Room.{HasScalarPins, HasFewInstances, HasFewPins}
use Rattle.vst_room.proofs.Cells.{cell_is_scalar}
use Rattle.scapin_run.specs.Laws.{NetlistHasRoom}

-- usable cells have no vectors
scalar_pins : (l : Library) (table : List ModelPins) → HasPassed false l → IsTableOf l false table → (n : Netlist) → Fits n table → HasScalarPins n
scalar_pins l table passed of n fits i pin at h =
    let k = celled l table passed of n fits i at in
    cell_is_scalar k.cell k.usable.scalars pin (subst (λ (ns : List Name). In pin ns) k.pins h)

pub netlist_has_room : LibraryPasses → HasFewInstances → HasFewPins → NetlistHasRoom
netlist_has_room passes few_instances few_pins catal source files l table n library of is met = record {
  instances = few_instances source table n is;
  terminals = few_pins source table n is met (scalar_pins l table (passes false catal files l library) of n met.fits);
}
