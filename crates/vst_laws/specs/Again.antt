-- What is written of a netlist is read again.
use Rattle.std.specs.Prelude.{◌≡◌, ℕ, ◌<◌, ◌≤◌, ◌^◌, List, map, length}
use Rattle.std.specs.List.{All}
use Rattle.vlsi_base.specs.declared.limits.TheConstants.{MOST_NETLIST_BYTES}
use Rattle.vlsi_base.specs.declared.fault.ReadError.{ReadError}
use Rattle.vlsi_base.specs.declared.fault.ReadError.TheVariants as errors
use Rattle.spell_theory.specs.Layout.{text_of}
use Rattle.source_checks.specs.Checks.{most_ports}
use Rattle.net_core.specs.declared.pins.ModelPins.{ModelPins}
use Rattle.net_core.specs.Places.{IsThere}
use Rattle.net_core.specs.Netlist.{Netlist, IsNetlist, terminals}
use Rattle.net_core.specs.Checks.{Fits}
use Rattle.net_right.specs.Condition.{MeetsCondition}
use Rattle.net_right.specs.Same.{AreSameByName}
use Rattle.net_right.specs.Writable.{CanBeNamed, PinsCanBeWritten}
use Rattle.vst_print.specs.Written.{used_models, layout}
use Rattle.vst_print.specs.Says.{IsWithinLimits, PortsAreApart}
use Rattle.vst_io.specs.Text.{IsVst, IsVstRefusal, signal_ports}
use Rattle.vst_io.specs.Laws.{AreAlike}

-- the text that is written of a netlist
abbrev pub text : Netlist → List ModelPins → List ℕ
text n table = text_of (layout n table)

-- The netlist can be written by the table, within the limits of texts, and no two of its ports have one class: so its text says it.
pub record CanBeSaid (n : Netlist) (table : List ModelPins) : Type 0 where
  pub sound : IsNetlist n
  pub fits : Fits n table
  pub pins : PinsCanBeWritten table
  pub named : CanBeNamed n
  pub limits : IsWithinLimits n table
  pub apart : PortsAreApart n

-- It meets moreover what the stages ask, and its text is short enough, with few enough ports and terminals, to be read.
pub record CanBeRead (n : Netlist) (table : List ModelPins) : Type 0 where
  pub said : CanBeSaid n table
  pub condition : MeetsCondition table n
  pub short : length (text n table) ≤ MOST_NETLIST_BYTES
  pub few_ports : length (signal_ports n) ≤ most_ports
  pub few : length (terminals n) < 2 ^ 32

-- the same netlist, where the models that instances can be given are those that they have: a text says no others
abbrev pub with_used_models : Netlist → Netlist
with_used_models n = record n { models = used_models n.instances }

-- each model that instances can be given is one that an instance has
abbrev pub HasUsedModels : Netlist → Type 0
HasUsedModels n = All (IsThere (map (λ i. i.model) n.instances)) n.models

-- the text of a netlist is that netlist with the models that its instances have, and where it lists no others the netlist itself
abbrev pub WrittenIsReadAgain : Type 0
WrittenIsReadAgain =
    (n : Netlist) (table : List ModelPins) → CanBeRead n table
    → IsVst (text n table) table (with_used_models n) × (HasUsedModels n → IsVst (text n table) table n)

-- What the text of a netlist is read as is the netlist, but maybe for the models that instances can be given; so it is the same by
-- the names in it. And a text that can be read is refused only where memory has run out.
pub record ReadAgain : Type 0 where
  pub is : (n k : Netlist) (table : List ModelPins) → CanBeSaid n table → IsVst (text n table) table k → AreAlike n k × AreSameByName n k
  pub accepted : (n : Netlist) (table : List ModelPins) (e : ReadError) → CanBeRead n table → IsVstRefusal (text n table) table e → e ≡ errors.Memory
