-- What placing, routing and drawing with tracks ask of a netlist.
use Rattle.std.specs.Prelude.{◌≡◌, Bool, List, map, Some}
use Rattle.vlsi_base.specs.Names.{vdd, vss}
use Rattle.cell_model.specs.Cell.{Cell}
use Rattle.cell_model.specs.Library.{Library, cell_of, IsUsable}
use Rattle.cell_pins.specs.Table.{IsTableOf}
use Rattle.net_core.specs.declared.pins.ModelPins.{ModelPins}
use Rattle.net_core.specs.Places.{IsThere}
use Rattle.net_core.specs.Netlist.{Instance, Netlist as InMemory, IsNetlist}
use Rattle.net_right.specs.Condition.{MeetsCondition}

-- It meets the condition of the stages with the pins of the library's cells, all listed or the usable ones alone; each of its models
-- is a usable cell; and it has the ports vdd and vss, as the condition gives them to each netlist that has an instance.
pub record IsDrawableIn (l : Library) (n : InMemory) : Type 0 where
  pub sound : IsNetlist n
  pub all : Bool
  pub table : List ModelPins
  pub listed : IsTableOf l all table
  pub meets : MeetsCondition table n
  pub usable : (i : Instance) → IsThere n.instances i → (c : Cell) × (cell_of l i.model ≡ Some c) × IsUsable c
  pub has_vdd : IsThere (map (λ p. p.name) n.ports) vdd
  pub has_vss : IsThere (map (λ p. p.name) n.ports) vss
