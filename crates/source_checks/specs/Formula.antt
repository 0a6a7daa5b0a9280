-- Expressions over names, one for each bit of what is written.
use Rattle.std.specs.Prelude.{ℕ, zero, suc, ◌+◌, ◌-◌, ◌/◌, ◌*◌, Bool, true, false, nat_eq, nat_le, List, [], ◌∷◌, ◌++◌, map, length, take, drop, Option, None, Some, bytes_eq, codes, if◌then◌else◌}
use Rattle.vlsi_base.specs.declared.name.Name.{Name}
use Rattle.vlsi_base.specs.declared.expression.Operator.{Operator}
use Rattle.vlsi_base.specs.declared.expression.Operator.TheVariants as operator
use Rattle.vlsi_base.specs.declared.radix.Radix.{Radix}
use Rattle.vlsi_base.specs.Radix.{digit_width}
use Rattle.vlsi_base.specs.Tree.{Tree, bit, literal, name, index, slice, stable, inverse, binary, view}
use Rattle.bool_expr.specs.declared.expr.Gate.{Gate}
use Rattle.bool_expr.specs.declared.expr.Gate.TheVariants as gate
use Rattle.bool_expr.specs.Expression.{Expression, constant, variable, inverse as not_of, pair, choice}
use Rattle.machine_core.specs.Named.{is_same_name}
use Rattle.source_checks.specs.declared.statement.Guarded.{Guarded}
use Rattle.source_checks.specs.declared.statement.Choice.{Choice}
use Rattle.source_checks.specs.Symbols.{find, symbol_names, names_in, bit_name}
use Rattle.source_checks.specs.declared.symbol_table.Symbol.{Symbol}

pub data Formula : Type 0 where
  fixed : Bool → Formula
  named : Name → Formula
  opposite : Formula → Formula
  joined : Gate → Formula → Formula → Formula
  chosen : Formula → Formula → Formula → Formula

-- the value of a digit's byte
abbrev pub digit_value : ℕ → ℕ
digit_value c = if nat_le c 57 then c - 48 else if nat_le c 70 then c - 55 else c - 87

abbrev pub is_odd : ℕ → Bool
is_odd n = nat_eq (n - 2 * (n / 2)) 1

-- the lowest n bits of a number, the highest of them first
abbrev pub low_bits : ℕ → ℕ → List Bool
low_bits zero value = []
low_bits (suc n) value = low_bits n (value / 2) ++ is_odd value ∷ []

abbrev pub literal_bits : Radix → List ℕ → List Bool
literal_bits r [] = []
literal_bits r (c ∷ digits) = low_bits (digit_width r) (digit_value c) ++ literal_bits r digits

-- a supply is a constant, every other bit its name
abbrev pub leaf : Name → Formula
leaf n = if bytes_eq n.text (codes "vdd") then fixed true else if bytes_eq n.text (codes "vss") then fixed false else named n

abbrev pub each_pair : (Formula → Formula → Formula) → List Formula → List Formula → List Formula
each_pair f [] ys = []
each_pair f (x ∷ xs) [] = []
each_pair f (x ∷ xs) (y ∷ ys) = f x y ∷ each_pair f xs ys

-- `=` of bits: on one bit Xnor, on more the And of `=` on the leftmost half, rounded up, and `=` on the rest. The number
-- bounds the halvings; that of the bits is always enough.
abbrev pub equal_within : ℕ → List Formula → Formula
equal_within bound [] = fixed true
equal_within bound (x ∷ []) = x
equal_within zero (x ∷ y ∷ rest) = x
equal_within (suc bound) (x ∷ y ∷ rest) =
    let all = x ∷ y ∷ rest in let half = (length all + 1) / 2 in
    joined gate.And (equal_within bound (take half all)) (equal_within bound (drop half all))

abbrev pub equal_bits : List Formula → List Formula → Formula
equal_bits xs ys = equal_within (length xs) (each_pair (joined gate.Xnor) xs ys)

-- `/=`: on one bit Xor, on more the opposite of `=`
abbrev pub unequal_bits : List Formula → List Formula → Formula
unequal_bits (x ∷ []) (y ∷ []) = joined gate.Xor x y
unequal_bits xs ys = opposite (equal_bits xs ys)

abbrev pub operator_bits : Operator → List Formula → List Formula → List Formula
operator_bits operator.And xs ys = each_pair (joined gate.And) xs ys
operator_bits operator.Or xs ys = each_pair (joined gate.Or) xs ys
operator_bits operator.Xor xs ys = each_pair (joined gate.Xor) xs ys
operator_bits operator.Xnor xs ys = each_pair (joined gate.Xnor) xs ys
operator_bits operator.Nand xs ys = each_pair (joined gate.Nand) xs ys
operator_bits operator.Nor xs ys = each_pair (joined gate.Nor) xs ys
operator_bits operator.Join xs ys = xs ++ ys
operator_bits operator.Equal xs ys = equal_bits xs ys ∷ []
operator_bits operator.Unequal xs ys = unequal_bits xs ys ∷ []

abbrev pub names_of_found : Option Symbol → List Name
names_of_found None = []
names_of_found (Some s) = symbol_names s

-- the bits of an expression, from the left
abbrev pub formulas : List Symbol → Tree → List Formula
formulas known (bit b line) = fixed b ∷ []
formulas known (literal r digits line) = map fixed (literal_bits r digits)
formulas known (name text line) = map leaf (names_of_found (find known text))
formulas known (index text line k) = leaf (bit_name text k) ∷ []
formulas known (slice text line range) = map leaf (names_in text (Some range))
formulas known (stable text line) = fixed false ∷ []
formulas known (inverse line e) = map opposite (formulas known e)
formulas known (binary op line left right) = operator_bits op (formulas known left) (formulas known right)

-- the first bit of an expression that has one
abbrev pub first_bit : List Formula → Formula
first_bit [] = fixed false
first_bit (x ∷ _) = x

-- bits by a condition: those of the value where it is 1, and what follows elsewhere
abbrev pub choose_bits : Formula → List Formula → List Formula → List Formula
choose_bits c xs ys = each_pair (chosen c) xs ys

abbrev pub alternative_bits : List Symbol → List Guarded → List Formula → List Formula
alternative_bits known [] otherwise = otherwise
alternative_bits known (g ∷ rest) otherwise =
    choose_bits (first_bit (formulas known (view g.condition))) (formulas known (view g.value)) (alternative_bits known rest otherwise)

-- the bits of a choice, from the left
abbrev pub choice_bits : List Symbol → Choice → List Formula
choice_bits known c = alternative_bits known c.alternatives (formulas known (view c.otherwise))

-- the names that a formula reads, from the left
abbrev pub formula_names : Formula → List Name
formula_names (fixed b) = []
formula_names (named n) = n ∷ []
formula_names (opposite e) = formula_names e
formula_names (joined g a b) = formula_names a ++ formula_names b
formula_names (chosen c a b) = formula_names c ++ (formula_names a ++ formula_names b)

-- the number of a name among names; as many as there are where it isn't one of them
abbrev pub place : List Name → Name → ℕ
place [] n = 0
place (m ∷ names) n = if is_same_name m n then 0 else place names n + 1

-- a formula over the numbers of names
abbrev pub numbered : List Name → Formula → Expression
numbered vars (fixed b) = constant b
numbered vars (named n) = variable (place vars n)
numbered vars (opposite e) = not_of (numbered vars e)
numbered vars (joined g a b) = pair g (numbered vars a) (numbered vars b)
numbered vars (chosen c a b) = choice (numbered vars c) (numbered vars a) (numbered vars b)
