-- Cells that compute a gate from what it reads.
use Rattle.std.specs.Prelude.{◌≡◌, ℕ, ◌<◌, Bool, not, ◌&&◌, List, [], ◌∷◌, length}
use Rattle.cell_match.specs.declared.gate.CellWord.{CellWord}
use Rattle.cell_match.specs.Cells.{inputs_of, cell_value}

-- an inverter, and a gate of two inputs that is 0 where both are 1
pub record HasGates (cells : List CellWord) : Type 0 where
  pub inverter : ℕ
  pub inverter_there : inverter < length cells
  pub inverter_reads : inputs_of cells inverter ≡ 1
  pub inverts : (x : Bool) → cell_value cells inverter (x ∷ []) ≡ not x
  pub nand : ℕ
  pub nand_there : nand < length cells
  pub nand_reads : inputs_of cells nand ≡ 2
  pub joins : (x y : Bool) → cell_value cells nand (x ∷ y ∷ []) ≡ not (x && y)
