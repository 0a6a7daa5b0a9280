-- What is looked up while a structural text is read.
use Rattle.std.specs.Prelude.{◌≡◌, ℕ, List, map}
use Rattle.std.specs.FinMap.{get}
use Rattle.vlsi_base.specs.declared.name.Name.{Name}
use Rattle.vlsi_base.specs.Names.{scalar}
use Rattle.vlsi_base.specs.NamePlaces.{NamePlaces, last_place}
use Rattle.source_checks.specs.declared.symbol_table.Symbol.{Symbol}
use Rattle.net_core.specs.declared.pins.ModelPins.{ModelPins}
use Rattle.vst_text.specs.declared.file.StructuralFile.{StructuralFile}
use Rattle.vst_io.specs.Nets.{components, nets, pins}

-- a text, and the models that it may use
pub record Source : Type 0 where
  pub table : List ModelPins
  pub file : StructuralFile

-- what is known of a source: its nets, the places and the pins of its components, and the names of the models
pub record IsKnown (table : List ModelPins) (file : StructuralFile) (known_nets : List Symbol) (index : NamePlaces) (tables : List (List Symbol))
    (listed : List (List ℕ)) : Type 0 where
  pub nets_are : known_nets ≡ nets file
  pub places : (n : Name) → get index n ≡ last_place (map (λ c. scalar c.name) (components file.declarations)) n
  pub pins_are : tables ≡ map pins (components file.declarations)
  pub models : listed ≡ map (λ m. m.model) table
