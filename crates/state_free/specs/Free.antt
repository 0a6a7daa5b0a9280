-- State machines whose outputs are left free in part: each is two state machines, with every free bit 0 in the one and 1 in the other.
use Rattle.std.specs.Prelude.{◌≡◌, ◌⊎◌, false, true}
use Rattle.bool_expr.specs.Expression.{constant}
use Rattle.fsm_machine.specs.Statements.{Assignment, output, next, Statements, finish, assign, choose, select, Parts, only, either, further, Branches, closed, others, listed}
use Rattle.fsm_machine.specs.Fsm.{Fsm}

-- they are one assignment, or one that leaves an output bit free: the first gives it 0, and the second 1
abbrev pub IsFreeAssignment : Assignment → Assignment → Type 0
IsFreeAssignment (output name e) other = (other ≡ output name e) ⊎ ((e ≡ constant false) × (other ≡ output name (constant true)))
IsFreeAssignment (next s) other = other ≡ next s

-- the statements are the same ones but for such assignments
abbrev mutual
  pub AreFreeStatements : Statements → Statements → Type 0
  AreFreeStatements finish other = other ≡ finish
  AreFreeStatements (assign a rest) other =
      (b : Assignment) × (more : Statements) × (other ≡ assign b more) × (IsFreeAssignment a b × AreFreeStatements rest more)
  AreFreeStatements (choose parts rest) other =
      (ps : Parts) × (more : Statements) × (other ≡ choose ps more) × (AreFreeParts parts ps × AreFreeStatements rest more)
  AreFreeStatements (select branches rest) other =
      (bs : Branches) × (more : Statements) × (other ≡ select bs more) × (AreFreeBranches branches bs × AreFreeStatements rest more)

  pub AreFreeParts : Parts → Parts → Type 0
  AreFreeParts (only c a) other = (x : Statements) × (other ≡ only c x) × AreFreeStatements a x
  AreFreeParts (either c a b) other =
      (x y : Statements) × (other ≡ either c x y) × (AreFreeStatements a x × AreFreeStatements b y)
  AreFreeParts (further c a more) other =
      (x : Statements) × (ps : Parts) × (other ≡ further c x ps) × (AreFreeStatements a x × AreFreeParts more ps)

  pub AreFreeBranches : Branches → Branches → Type 0
  AreFreeBranches closed other = other ≡ closed
  AreFreeBranches (others a) other = (x : Statements) × (other ≡ others x) × AreFreeStatements a x
  AreFreeBranches (listed states a more) other =
      (x : Statements) × (bs : Branches) × (other ≡ listed states x bs) × (AreFreeStatements a x × AreFreeBranches more bs)

-- the two state machines agree in all but the outputs that are left free
pub record AreFreeFsm (low high : Fsm) : Type 0 where
  pub name : high.name ≡ low.name
  pub ports : high.ports ≡ low.ports
  pub clock : high.clock ≡ low.clock
  pub states : high.states ≡ low.states
  pub body : AreFreeStatements low.body high.body
