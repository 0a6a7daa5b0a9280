-- The cells of the gates, as they are used.
use Rattle.std.specs.Prelude.{◌≡◌}
use Rattle.machine_core.specs.Machine.{names_of}
use Rattle.cell_model.specs.Cell.{Cell, cell_inputs}
use Rattle.cell_pins.specs.Pins.{all_ports}
use Rattle.scan_theory.specs.Scan.{Cells}
use Rattle.scan_checks.specs.declared.cells.Part.{Part}
use Rattle.scan_checks.specs.declared.cells.Parts.{Parts}

pub record IsPartOf (c : Cell) (p : Part) : Type 0 where
  pub model : p.model ≡ c.name
  pub pins : p.pins ≡ names_of (all_ports c)
  pub inputs : p.inputs ≡ cell_inputs c

pub record ArePartsOf (cells : Cells) (p : Parts) : Type 0 where
  pub inverter : IsPartOf cells.inverter p.inverter
  pub nand : IsPartOf cells.nand p.nand
