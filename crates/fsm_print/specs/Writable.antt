-- State machines that a text can declare, and whose expressions it can have.
use Rattle.std.specs.Prelude.{◌≡◌, None}
use Rattle.std.specs.List.{All}
use Rattle.vlsi_base.specs.declared.name.Name.{Name}
use Rattle.vlsi_base.specs.declared.name.Port.{Port}
use Rattle.vlsi_base.specs.Member.{In}
use Rattle.bool_expr.specs.Expression.{Expression, constant, variable, inverse, pair, choice}
use Rattle.fsm_machine.specs.Statements.{Assignment, output, next, Statements, finish, assign, choose, select, Parts, only, either, further, Branches, closed, others, listed}
use Rattle.fsm_machine.specs.Fsm.{Fsm}
use Rattle.text_names.specs.Words.{IsIdentifier, CanBePorts}

-- the expression has no choice, for which texts of state machines have no form
abbrev pub IsPlain : Expression → Type 0
IsPlain (constant b) = Unit {0}
IsPlain (variable k) = Unit {0}
IsPlain (inverse e) = IsPlain e
IsPlain (pair g a b) = IsPlain a × IsPlain b
IsPlain (choice c a b) = ⊥

abbrev pub IsPlainAssignment : Assignment → Type 0
IsPlainAssignment (output name e) = IsPlain e
IsPlainAssignment (next s) = Unit {0}

-- so it is with all expressions of the statements
abbrev mutual
  pub IsPlainBody : Statements → Type 0
  IsPlainBody finish = Unit {0}
  IsPlainBody (assign a rest) = IsPlainAssignment a × IsPlainBody rest
  IsPlainBody (choose parts rest) = ArePlainParts parts × IsPlainBody rest
  IsPlainBody (select branches rest) = ArePlainBranches branches × IsPlainBody rest

  pub ArePlainParts : Parts → Type 0
  ArePlainParts (only c a) = IsPlain c × IsPlainBody a
  ArePlainParts (either c a b) = IsPlain c × (IsPlainBody a × IsPlainBody b)
  ArePlainParts (further c a more) = IsPlain c × (IsPlainBody a × ArePlainParts more)

  pub ArePlainBranches : Branches → Type 0
  ArePlainBranches closed = Unit {0}
  ArePlainBranches (others a) = IsPlainBody a
  ArePlainBranches (listed states a more) = IsPlainBody a × ArePlainBranches more

-- The names of the state machine, of its ports and of its states are identifiers; the bits of a port's text are all numbers from the
-- least to the greatest, with one direction, and no text is both a scalar and a vector; a state is no bit of a vector and has no
-- port's text; and no expression has a choice.
pub record CanBeFsm (f : Fsm) : Type 0 where
  pub name : IsIdentifier f.name
  pub ports : CanBePorts f.ports
  pub states : All (λ s. IsIdentifier s.text × (s.bit ≡ None)) f.states
  pub apart : (p : Port) (s : Name) → In p f.ports → In s f.states → p.name.text ≡ s.text → ⊥
  pub plain : IsPlainBody f.body
