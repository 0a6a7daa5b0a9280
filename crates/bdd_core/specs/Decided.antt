-- What an operator gives where some of its functions are constant.
use Rattle.std.specs.Prelude.{◌≡◌, Bool, Option, IfSome}
use Rattle.bdd_core.specs.declared.operators.Operator.{Operator}
use Rattle.bdd_core.specs.declared.operators.Decided.{Decided}
use Rattle.bdd_core.specs.declared.operators.Decided.TheVariants.{Constant, First, Second, Third}
use Rattle.bdd_core.specs.Truths.{Truths, constant, halves}
use Rattle.bdd_core.specs.Nodes.{height}
use Rattle.bdd_core.specs.Combined.{operator_value}

-- the bit that is decided, by the three bits
abbrev pub decided_value : Decided → Bool → Bool → Bool → Bool
decided_value (Constant k) a b c = k
decided_value First a b c = a
decided_value Second a b c = b
decided_value Third a b c = c

-- the bit is the one that is known, if one is
abbrev pub IsBit : Option Bool → Bool → Type 0
IsBit known b = IfSome known (λ bit. b ≡ bit)

-- the operator gives what is decided for all bits that are as known
abbrev pub IsDecided : Operator → Option Bool → Option Bool → Option Bool → Decided → Type 0
IsDecided o x y z d = (a b c : Bool) → IsBit x a → IsBit y b → IsBit z c → operator_value o a b c ≡ decided_value d a b c

-- the halves have equally many variables, and so have theirs
abbrev pub IsBalanced : Truths → Type 0
IsBalanced (constant b) = Unit {0}
IsBalanced (halves a b) = (height a ≡ height b) × IsBalanced a × IsBalanced b
