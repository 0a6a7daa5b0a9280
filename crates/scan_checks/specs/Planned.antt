-- What a scan path is made of.
use Rattle.std.specs.Prelude.{ℕ, List}
use Rattle.vlsi_base.specs.declared.kind.Kind.TheVariants as kind
use Rattle.cell_model.specs.Library.{Library}
use Rattle.net_core.specs.Netlist.{Netlist}
use Rattle.scan_theory.specs.Scan.{Cells, IsCellOf}
use Rattle.scan_checks.specs.declared.cells.Parts.{Parts}
use Rattle.scan_checks.specs.declared.plan.Plan.{Plan}
use Rattle.scan_checks.specs.Cells.{ArePartsOf}
use Rattle.scan_checks.specs.Registers.{AreRegisters}

-- usable cells of a library, an inverter and a nand, as they are used
pub record HasCells (l : Library) (p : Parts) : Type 0 where
  pub cells : Cells
  pub inverter : IsCellOf l kind.Inv cells.inverter
  pub nand : IsCellOf l kind.Nand2 cells.nand
  pub parts : ArePartsOf cells p

-- the registers of the path in its order, and cells of the library
pub record IsPlanOf (l : Library) (n : Netlist) (path : List (List ℕ)) (p : Plan) : Type 0 where
  pub registers : AreRegisters n l path p.registers.items
  pub cells : HasCells l p.parts
