-- What an operand of a guard is.
use Rattle.std.specs.Prelude.{ℕ, Bool, true, false, ◌&&◌, bytes_eq, List, [], ◌∷◌, ◌++◌, Option, None, Some, if◌then◌else◌}
use Rattle.vlsi_base.specs.declared.expression.Operator.{Operator}
use Rattle.vlsi_base.specs.declared.expression.Operator.TheVariants as operator
use Rattle.vlsi_base.specs.Tree.{Tree, bit, literal, name, index, slice, stable, inverse, binary}
use Rattle.source_checks.specs.Clock.{conjuncts}

abbrev pub is_and : Operator → Bool
is_and operator.And = true
is_and operator.Or = false
is_and operator.Xor = false
is_and operator.Xnor = false
is_and operator.Nand = false
is_and operator.Nor = false
is_and operator.Equal = false
is_and operator.Unequal = false
is_and operator.Join = false

abbrev pub is_equal : Operator → Bool
is_equal operator.And = false
is_equal operator.Or = false
is_equal operator.Xor = false
is_equal operator.Xnor = false
is_equal operator.Nand = false
is_equal operator.Nor = false
is_equal operator.Equal = true
is_equal operator.Unequal = false
is_equal operator.Join = false

-- '1'
abbrev pub is_one : Tree → Bool
is_one (bit b line) = b
is_one (literal radix digits line) = false
is_one (name text line) = false
is_one (index text line k) = false
is_one (slice text line range) = false
is_one (stable text line) = false
is_one (inverse line e) = false
is_one (binary op line left right) = false

-- the name of this text, alone
abbrev pub is_plain : List ℕ → Tree → Bool
is_plain wanted (bit b line) = false
is_plain wanted (literal radix digits line) = false
is_plain wanted (name text line) = bytes_eq text wanted
is_plain wanted (index text line k) = false
is_plain wanted (slice text line range) = false
is_plain wanted (stable text line) = false
is_plain wanted (inverse line e) = false
is_plain wanted (binary op line left right) = false

-- the name whose `stable` it is
abbrev pub stable_name : Tree → Option (List ℕ)
stable_name (bit b line) = None
stable_name (literal radix digits line) = None
stable_name (name text line) = None
stable_name (index text line k) = None
stable_name (slice text line range) = None
stable_name (stable text line) = Some text
stable_name (inverse line e) = None
stable_name (binary op line left right) = None

-- a clock's relation with '1', on whichever side the '1' stands
abbrev pub is_beside_one : List ℕ → Tree → Tree → Bool
is_beside_one wanted left right = if is_one left then is_plain wanted right else is_one right && is_plain wanted left

-- what operands join by `and`, one behind another
abbrev pub conjuncts_of : List (ℕ × Tree) → List Tree
conjuncts_of [] = []
conjuncts_of (e ∷ others) = conjuncts e.1 ++ conjuncts_of others
