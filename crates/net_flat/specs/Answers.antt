-- Why a netlist isn't made a machine of its registers' names.
use Rattle.cell_model.specs.Library.{Library}
use Rattle.net_core.specs.Netlist.{Netlist as InMemory}
use Rattle.net_flat.specs.declared.error.FlatError.{FlatError}
use Rattle.net_flat.specs.declared.error.FlatError.TheVariants as error
use Rattle.net_flat.specs.Flat.{IsPlain, IsFirstOther, IsFirstTwice}

-- the first instance's cell that is neither a gate nor a plain flip-flop; where each is, the first register with the text of a port;
-- or memory has run out
abbrev pub IsFlatRefusal : InMemory → Library → FlatError → Type 0
IsFlatRefusal n l error.Memory = Unit {0}
IsFlatRefusal n l (error.NoBehaviour model) = IsFirstOther n l model
IsFlatRefusal n l (error.Twice text) = IsPlain n l × IsFirstTwice n l text
