-- Boolean expressions over numbered variables: their values, by VHDL's operators, and their sizes.
use Rattle.std.specs.Prelude.{ℕ, ◌+◌, ◌<◌, Bool, false, not, ◌&&◌, ◌||◌, List, [], ◌∷◌, ◌++◌, if◌then◌else◌}
use Rattle.std.specs.List.{slice_index_or}
use Rattle.bool_expr.specs.declared.expr.Gate.{Gate}
use Rattle.bool_expr.specs.declared.expr.Gate.TheVariants.{And, Or, Nand, Nor, Xor, Xnor}

pub data Expression : Type 0 where
  constant : Bool → Expression
  variable : ℕ → Expression
  inverse : Expression → Expression
  pair : Gate → Expression → Expression → Expression
  -- the second part where the first is 1, and the third elsewhere
  choice : Expression → Expression → Expression → Expression

-- bit k of a list; past its end there is no bit, and it reads as 0
abbrev pub bit : List Bool → ℕ → Bool
bit w k = slice_index_or w k false

abbrev pub gate_value : Gate → Bool → Bool → Bool
gate_value And a b = a && b
gate_value Or a b = a || b
gate_value Nand a b = not (a && b)
gate_value Nor a b = not (a || b)
gate_value Xor a b = if a then not b else b
gate_value Xnor a b = if a then b else not b

-- the value of an expression, where variable k has bit k of w
abbrev pub val : Expression → List Bool → Bool
val (constant b) w = b
val (variable k) w = bit w k
val (inverse e) w = not (val e w)
val (pair g a b) w = gate_value g (val a w) (val b w)
val (choice c a b) w = if val c w then val a w else val b w

abbrev pub gate_size : Gate → ℕ
gate_size And = 2
gate_size Or = 3
gate_size Nand = 1
gate_size Nor = 4
gate_size Xor = 4
gate_size Xnor = 5

-- what the operators weigh together; variables and constants weigh nothing
abbrev pub size_of : Expression → ℕ
size_of (constant b) = 0
size_of (variable k) = 0
size_of (inverse e) = 1 + size_of e
size_of (pair g a b) = gate_size g + (size_of a + size_of b)
size_of (choice c a b) = 4 + (size_of c + (size_of a + size_of b))

-- the variables where they stand, from left to right
abbrev pub variables : Expression → List ℕ
variables (constant b) = []
variables (variable k) = k ∷ []
variables (inverse e) = variables e
variables (pair g a b) = variables a ++ variables b
variables (choice c a b) = variables c ++ (variables a ++ variables b)

-- each variable is below n
abbrev pub IsOver : Expression → ℕ → Type 0
IsOver (constant b) n = Unit {0}
IsOver (variable k) n = k < n
IsOver (inverse e) n = IsOver e n
IsOver (pair g a b) n = IsOver a n × IsOver b n
IsOver (choice c a b) n = IsOver c n × (IsOver a n × IsOver b n)
