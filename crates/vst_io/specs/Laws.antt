-- A text is at most one netlist, and never that and a refusal.
use Rattle.std.specs.Prelude.{◌≡◌, ◌⊎◌, ℕ, List}
use Rattle.vlsi_base.specs.declared.name.Name.{Name}
use Rattle.vlsi_base.specs.declared.fault.FaultKind.TheVariants as kind
use Rattle.vlsi_base.specs.declared.fault.ReadError.{ReadError}
use Rattle.source_checks.specs.Checks.{fault}
use Rattle.net_core.specs.declared.pins.ModelPins.{ModelPins}
use Rattle.net_core.specs.Netlist.{Netlist}
use Rattle.vst_io.specs.Text.{IsVst, Refused}

-- netlists that differ in nothing, but maybe in the order of the models that instances can be given
abbrev pub AreAlike : Netlist → Netlist → Type 0
AreAlike n k = k ≡ record n { models = k.models }

-- A text is at most one netlist.
abbrev pub OneNetlist : Type 0
OneNetlist = (bytes : List ℕ) (table : List ModelPins) (n k : Netlist) → IsVst bytes table n → IsVst bytes table k → AreAlike n k

-- A text that is a netlist has no refusal.
abbrev pub NeverBoth : Type 0
NeverBoth = (bytes : List ℕ) (table : List ModelPins) (n : Netlist) (e : ReadError) → IsVst bytes table n → Refused bytes table e → ⊥

-- a refusal that names a ring of instances
abbrev pub IsRingFault : ReadError → Type 0
IsRingFault e = (names : List Name) × (e ≡ fault kind.Cycle 1 names)

-- A text has at most one refusal; only of several rings any may be named.
abbrev pub OneRefusal : Type 0
OneRefusal =
    (bytes : List ℕ) (table : List ModelPins) (d e : ReadError) → Refused bytes table d → Refused bytes table e
    → (d ≡ e) ⊎ (IsRingFault d × IsRingFault e)
