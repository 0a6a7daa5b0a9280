-- Machines whose outputs are left free in part: each is two machines, with every free bit 0 in the one and 1 in the other.
use Rattle.std.specs.Prelude.{◌≡◌, ◌⊎◌, ℕ, false, true, List, slice_get, Some}
use Rattle.std.specs.List.{AllZip}
use Rattle.vlsi_base.specs.declared.name.Name.{Name}
use Rattle.vlsi_base.specs.Member.{In}
use Rattle.bool_expr.specs.Expression.{Expression, constant, variable, inverse, pair, choice, variables}
use Rattle.machine_core.specs.Machine.{Machine, Equation, outputs}

-- The first expression has each free bit as 0, the second as 1. A free bit is all that is assigned, or an alternative of a choice; so
-- these are one expression but for such places.
abbrev pub AreFreed : Expression → Expression → Type 0
AreFreed (constant b) high = (high ≡ constant b) ⊎ ((b ≡ false) × (high ≡ constant true))
AreFreed (variable k) high = high ≡ variable k
AreFreed (inverse e) high = high ≡ inverse e
AreFreed (pair g a b) high = high ≡ pair g a b
AreFreed (choice c a b) high = (x y : Expression) × (high ≡ choice c x y) × (AreFreed a x × AreFreed b y)

-- the expression reads the name, where variable k is number k of the names
abbrev pub Reads : List Name → Expression → Name → Type 0
Reads vars e name = (k : ℕ) × In k (variables e) × (slice_get vars k ≡ Some name)

-- an output that is left free in part, which no equation reads
pub record IsFreeOutput (m : Machine) (e f : Equation) : Type 0 where
  pub output : In e.name (outputs m)
  pub freed : AreFreed e.expr f.expr
  pub unread : (g : Equation) → In g m.equations → Reads m.vars g.expr e.name → ⊥

-- two equations of one name: they say the same, or the name is an output that is left free
abbrev pub MayDiffer : Machine → Equation → Equation → Type 0
MayDiffer m e f = (f.name ≡ e.name) × ((f.expr ≡ e.expr) ⊎ IsFreeOutput m e f)

-- the two machines agree in all but what is said of outputs that are left free
pub record AreFree (low high : Machine) : Type 0 where
  pub name : high.name ≡ low.name
  pub ports : high.ports ≡ low.ports
  pub clock : high.clock ≡ low.clock
  pub vars : high.vars ≡ low.vars
  pub registers : high.registers ≡ low.registers
  pub equations : AllZip (MayDiffer low) low.equations high.equations
