-- On which inputs an output depends at once, in the cycle in which they change.
use Rattle.std.specs.Prelude.{◌≡◌, ◌≢◌, ℕ, slice_get, Some}
use Rattle.vlsi_base.specs.declared.name.Name.{Name}
use Rattle.vlsi_base.specs.declared.name.Port.{Port}
use Rattle.vlsi_base.specs.declared.name.Dir.TheVariants as dir
use Rattle.vlsi_base.specs.Member.{In}
use Rattle.vlsi_base.specs.Names.{vdd, vss}
use Rattle.bool_expr.specs.Expression.{Expression, variables}
use Rattle.machine_core.specs.Machine.{Machine, Equation, inputs}
use Rattle.cell_model.specs.Cell.{Function, gate, flip_flop, other, opaque}

-- an expression of the machine reads a name
abbrev pub Reads : Machine → Expression → Name → Type 0
Reads m e name = (k : ℕ) × In k (variables e) × (slice_get m.vars k ≡ Some name)

-- A name of the machine depends at once on an input: it is that input, or its equation reads a name that does. Nothing leads
-- through a register.
pub data Follows (m : Machine) (input : Name) : Name → Type 0 where
  itself : In input (inputs m) → Follows m input input
  reads : (e : Equation) (name : Name) → In e m.equations → Reads m e.expr name → Follows m input name → Follows m input e.name

-- An output pin depends at once on an input pin: that of a gate on each that is no supply, that of a machine on those that
-- its equations lead to, and those of a flip-flop or of an unknown function on none.
abbrev pub DependsAtOnce : Function → Name → Name → Type 0
DependsAtOnce (gate e) output input = (input ≢ vdd) × (input ≢ vss)
DependsAtOnce (flip_flop data_pin clock_pin) output input = ⊥
DependsAtOnce (other machine) output input = Follows machine input output
DependsAtOnce opaque output input = ⊥

-- of two pins the first is an output that depends at once on the second, an input
abbrev pub DependsOn : Function → Port → Port → Type 0
DependsOn f output input = (output.dir ≡ dir.Out) × (input.dir ≡ dir.In) × DependsAtOnce f output.name input.name
