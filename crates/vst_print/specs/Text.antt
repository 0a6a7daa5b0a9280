-- Bytes that are the structural text of a netlist.
use Rattle.std.specs.Prelude.{◌≡◌, ℕ, List, None}
use Rattle.vhdl_lexer.specs.Listing.{tokens_in, refusal_in}
use Rattle.net_core.specs.declared.pins.ModelPins.{ModelPins}
use Rattle.net_core.specs.Netlist.{Netlist}
use Rattle.vst_text.specs.declared.file.StructuralFile.{StructuralFile}
use Rattle.vst_text.specs.Vst.{IsStructure}
use Rattle.vst_print.specs.Says.{Says}

-- The bytes are cut into tokens without a refusal, these are a sentence of the grammar of structural texts, and it says the netlist.
pub record IsTextOf (n : Netlist) (table : List ModelPins) (bytes : List ℕ) : Type 0 where
  pub cut : refusal_in bytes ≡ None
  pub file : StructuralFile
  pub structure : IsStructure (tokens_in bytes) file
  pub says : Says n table file
