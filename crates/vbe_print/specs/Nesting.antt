-- How many parentheses are open together in an expression as it is written.
use Rattle.std.specs.Prelude.{ℕ, zero, suc, Bool, true, false, List, Option, None, Some}
use Rattle.vlsi_base.specs.declared.name.Name.{Name}
use Rattle.bool_expr.specs.declared.expr.Gate.{Gate}
use Rattle.bool_expr.specs.declared.expr.Gate.TheVariants as gate
use Rattle.bool_expr.specs.Expression.{Expression, constant, variable, inverse, pair, choice}
use Rattle.vbe_print.specs.Expressions.{Shape, atom, turned, joined, chains, laid, name_of}

abbrev pub shape_of : List Name → Expression → Shape
shape_of names e = (laid names e).shape

-- what may be open in parentheses, where so many more may be open
abbrev pub closed : (ℕ → Type 0) → ℕ → Type 0
closed P zero = ⊥
closed P (suc n) = P n

abbrev pub primary_within : Shape → (ℕ → Type 0) → ℕ → Type 0
primary_within atom P n = P n
primary_within turned P n = closed P n
primary_within (joined g) P n = closed P n

abbrev pub operand_within : Shape → (ℕ → Type 0) → ℕ → Type 0
operand_within atom P n = P n
operand_within turned P n = P n
operand_within (joined g) P n = closed P n

abbrev pub unless_within : Bool → (ℕ → Type 0) → ℕ → Type 0
unless_within true P n = P n
unless_within false P n = closed P n

abbrev pub leading_within : Gate → Shape → (ℕ → Type 0) → ℕ → Type 0
leading_within g atom P n = P n
leading_within g turned P n = P n
leading_within g (joined h) P n = unless_within (chains g h) P n

-- the bit of a vector stands in parentheses
abbrev pub bit_within : Option ℕ → ℕ → Type 0
bit_within None n = Unit {0}
bit_within (Some k) zero = ⊥
bit_within (Some k) (suc n) = Unit {0}

-- no more than n parentheses are open together in the expression as it is written
abbrev pub IsWithin : List Name → Expression → ℕ → Type 0
IsWithin names (constant b) n = Unit {0}
IsWithin names (variable k) n = bit_within (name_of names k).bit n
IsWithin names (inverse e) n = primary_within (shape_of names e) (IsWithin names e) n
IsWithin names (pair g a b) n =
    leading_within g (shape_of names a) (IsWithin names a) n × operand_within (shape_of names b) (IsWithin names b) n
IsWithin names (choice c a b) n =
    closed (λ m. leading_within gate.And (shape_of names c) (IsWithin names c) m × operand_within (shape_of names a) (IsWithin names a) m) n
    × closed (λ m. primary_within (shape_of names c) (IsWithin names c) m × operand_within (shape_of names b) (IsWithin names b) m) n

-- in each alternative of a whole value
abbrev pub IsValueWithin : List Name → Expression → ℕ → Type 0
IsValueWithin names (choice c a b) n = IsWithin names a n × (IsWithin names c n × IsValueWithin names b n)
IsValueWithin names e n = IsWithin names e n
