-- What holds of every name that formulas read, and how many formulas there are.
use Rattle.std.proofs.Common.{◌≡◌, ℕ, zero, suc, ◌+◌, ◌*◌, ◌/◌, Bool, true, false, cond, List, [], ◌∷◌, ◌++◌, map, length, take, drop, refl, ◌∙◌, bytes_eq, arith, length-append}
use Rattle.std.specs.Prelude.{◌||◌, not, nat_eq, codes}
use Rattle.std.proofs.lemmas.Bool.Decides.{nat_tests}
use Rattle.vlsi_base.specs.declared.name.Name.{Name}
use Rattle.vlsi_base.specs.declared.expression.Operator.{Operator}
use Rattle.vlsi_base.specs.declared.expression.Operator.TheVariants as operator
use Rattle.vlsi_base.specs.declared.radix.Radix.{Radix}
use Rattle.bool_expr.specs.declared.expr.Gate.TheVariants as gate
use Rattle.machine_core.specs.Order.{In, here, there}
use Rattle.vlsi_base.specs.Name.{is_supply}
use Rattle.vlsi_base.specs.Radix.{digit_width}
use Rattle.source_checks.specs.Formula.{Formula, fixed, named, opposite, joined, chosen, leaf, each_pair, equal_within, equal_bits, unequal_bits, operator_bits, first_bit, low_bits, literal_bits, digit_value, choose_bits}
use Rattle.source_checks.specs.Widths.{needs_equal, operator_width}

-- P holds of each name that a formula reads
abbrev pub Holds : (Name → Type 0) → Formula → Type 0
Holds P (fixed b) = Unit {0}
Holds P (named n) = P n
Holds P (opposite e) = Holds P e
Holds P (joined g a b) = Holds P a × Holds P b
Holds P (chosen c a b) = Holds P c × Holds P a × Holds P b

abbrev pub Each : (Name → Type 0) → List Formula → Type 0
Each P [] = Unit {0}
Each P (f ∷ fs) = Holds P f × Each P fs

pub Each-append : (P : Name → Type 0) (xs ys : List Formula) → Each P xs → Each P ys → Each P (xs ++ ys)
Each-append P [] ys h g = g
Each-append P (x ∷ xs) ys h g = (h.0, Each-append P xs ys h.1 g)

pub Each-take : (P : Name → Type 0) (n : ℕ) (xs : List Formula) → Each P xs → Each P (take n xs)
Each-take P zero xs h = tt
Each-take P (suc n) [] h = tt
Each-take P (suc n) (x ∷ xs) h = (h.0, Each-take P n xs h.1)

pub Each-drop : (P : Name → Type 0) (n : ℕ) (xs : List Formula) → Each P xs → Each P (drop n xs)
Each-drop P zero xs h = h
Each-drop P (suc n) [] h = tt
Each-drop P (suc n) (x ∷ xs) h = Each-drop P n xs h.1

pub Each-pairs : (P : Name → Type 0) (f : Formula → Formula → Formula) → ((x y : Formula) → Holds P x → Holds P y → Holds P (f x y)) → (xs ys : List Formula) → Each P xs → Each P ys → Each P (each_pair f xs ys)
Each-pairs P f keeps [] ys h g = tt
Each-pairs P f keeps (x ∷ xs) [] h g = tt
Each-pairs P f keeps (x ∷ xs) (y ∷ ys) h g = (keeps x y h.0 g.0, Each-pairs P f keeps xs ys h.1 g.1)

Holds-equal : (P : Name → Type 0) (bound : ℕ) (xs : List Formula) → Each P xs → Holds P (equal_within bound xs)
Holds-equal P bound [] h = tt
Holds-equal P bound (x ∷ []) h = h.0
Holds-equal P zero (x ∷ y ∷ rest) h = h.0
Holds-equal P (suc bound) (x ∷ y ∷ rest) h =
    let all = x ∷ y ∷ rest in let half = (length all + 1) / 2 in
    (Holds-equal P bound (take half all) (Each-take P half all h), Holds-equal P bound (drop half all) (Each-drop P half all h))

Holds-equal_bits : (P : Name → Type 0) (xs ys : List Formula) → Each P xs → Each P ys → Holds P (equal_bits xs ys)
Holds-equal_bits P xs ys h g = Holds-equal P (length xs) (each_pair (joined gate.Xnor) xs ys) (Each-pairs P (joined gate.Xnor) (λ x y i j. (i, j)) xs ys h g)

Holds-unequal_bits : (P : Name → Type 0) (xs ys : List Formula) → Each P xs → Each P ys → Holds P (unequal_bits xs ys)
Holds-unequal_bits P [] ys h g = Holds-equal_bits P [] ys h g
Holds-unequal_bits P (x ∷ []) [] h g = Holds-equal_bits P (x ∷ []) [] h g
Holds-unequal_bits P (x ∷ []) (y ∷ []) h g = (h.0, g.0)
Holds-unequal_bits P (x ∷ []) (y ∷ z ∷ ys) h g = Holds-equal_bits P (x ∷ []) (y ∷ z ∷ ys) h g
Holds-unequal_bits P (x ∷ w ∷ xs) ys h g = Holds-equal_bits P (x ∷ w ∷ xs) ys h g

pub Each-operator : (P : Name → Type 0) (op : Operator) (xs ys : List Formula) → Each P xs → Each P ys → Each P (operator_bits op xs ys)
Each-operator P operator.And xs ys h g = Each-pairs P (joined gate.And) (λ x y i j. (i, j)) xs ys h g
Each-operator P operator.Or xs ys h g = Each-pairs P (joined gate.Or) (λ x y i j. (i, j)) xs ys h g
Each-operator P operator.Xor xs ys h g = Each-pairs P (joined gate.Xor) (λ x y i j. (i, j)) xs ys h g
Each-operator P operator.Xnor xs ys h g = Each-pairs P (joined gate.Xnor) (λ x y i j. (i, j)) xs ys h g
Each-operator P operator.Nand xs ys h g = Each-pairs P (joined gate.Nand) (λ x y i j. (i, j)) xs ys h g
Each-operator P operator.Nor xs ys h g = Each-pairs P (joined gate.Nor) (λ x y i j. (i, j)) xs ys h g
Each-operator P operator.Join xs ys h g = Each-append P xs ys h g
Each-operator P operator.Equal xs ys h g = (Holds-equal_bits P xs ys h g, tt)
Each-operator P operator.Unequal xs ys h g = (Holds-unequal_bits P xs ys h g, tt)

pub Each-fixed : (P : Name → Type 0) (bs : List Bool) → Each P (map fixed bs)
Each-fixed P [] = tt
Each-fixed P (b ∷ bs) = (tt, Each-fixed P bs)

pub Each-opposite : (P : Name → Type 0) (xs : List Formula) → Each P xs → Each P (map opposite xs)
Each-opposite P [] h = tt
Each-opposite P (x ∷ xs) h = (h.0, Each-opposite P xs h.1)

pub Holds-leaf : (P : Name → Type 0) (n : Name) → (is_supply n.text ≡ false → P n) → Holds P (leaf n)
Holds-leaf P n h = by (bytes_eq n.text (codes "vdd")) (bytes_eq n.text (codes "vss")) h where
  by : (a b : Bool) → ((a || b) ≡ false → P n) → Holds P (cond a (fixed true) (cond b (fixed false) (named n)))
  by true b h = tt
  by false true h = tt
  by false false h = h refl

pub Each-leaf : (P : Name → Type 0) (ns : List Name) → ((n : Name) → In n ns → is_supply n.text ≡ false → P n) → Each P (map leaf ns)
Each-leaf P [] h = tt
Each-leaf P (n ∷ ns) h = (Holds-leaf P n (h n here), Each-leaf P ns (λ m i. h m (there i)))

pub Holds-first : (P : Name → Type 0) (xs : List Formula) → Each P xs → Holds P (first_bit xs)
Holds-first P [] h = tt
Holds-first P (x ∷ xs) h = h.0

pub Each-choose : (P : Name → Type 0) (c : Formula) (xs ys : List Formula) → Holds P c → Each P xs → Each P ys → Each P (choose_bits c xs ys)
Each-choose P c xs ys k h g = Each-pairs P (chosen c) (λ x y i j. (k, i, j)) xs ys h g

-- what follows from P of all names
pub Holds-weaker : (P Q : Name → Type 0) → ((n : Name) → P n → Q n) → (f : Formula) → Holds P f → Holds Q f
Holds-weaker P Q w (fixed b) h = tt
Holds-weaker P Q w (named n) h = w n h
Holds-weaker P Q w (opposite e) h = Holds-weaker P Q w e h
Holds-weaker P Q w (joined g a b) h = (Holds-weaker P Q w a h.0, Holds-weaker P Q w b h.1)
Holds-weaker P Q w (chosen c a b) h = (Holds-weaker P Q w c h.0, Holds-weaker P Q w a h.1, Holds-weaker P Q w b h.2)

pub Each-In : (P : Name → Type 0) (fs : List Formula) (f : Formula) → Each P fs → In f fs → Holds P f
Each-In P (g ∷ fs) f h here = h.0
Each-In P (g ∷ fs) f h (there i) = Each-In P fs f h.1 i
Each-In P [] f h i = elim i [ ]

-- how many there are

pub length-pairs : (f : Formula → Formula → Formula) (xs ys : List Formula) → length xs ≡ length ys → length (each_pair f xs ys) ≡ length xs
length-pairs f [] ys h = refl
length-pairs f (x ∷ xs) [] h = absurd (omega arith)
length-pairs f (x ∷ xs) (y ∷ ys) h = let rest : length (each_pair f xs ys) ≡ length xs = length-pairs f xs ys (omega arith) in omega arith

same_length : (a b : ℕ) → (false || nat_eq a b) ≡ true → a ≡ b
same_length a b e = grind (arith, nat_tests)

pub length-operator : (op : Operator) (xs ys : List Formula) → (not (needs_equal op) || nat_eq (length xs) (length ys)) ≡ true → length (operator_bits op xs ys) ≡ operator_width op (length xs) (length ys)
length-operator operator.And xs ys h = length-pairs (joined gate.And) xs ys (same_length (length xs) (length ys) h)
length-operator operator.Or xs ys h = length-pairs (joined gate.Or) xs ys (same_length (length xs) (length ys) h)
length-operator operator.Xor xs ys h = length-pairs (joined gate.Xor) xs ys (same_length (length xs) (length ys) h)
length-operator operator.Xnor xs ys h = length-pairs (joined gate.Xnor) xs ys (same_length (length xs) (length ys) h)
length-operator operator.Nand xs ys h = length-pairs (joined gate.Nand) xs ys (same_length (length xs) (length ys) h)
length-operator operator.Nor xs ys h = length-pairs (joined gate.Nor) xs ys (same_length (length xs) (length ys) h)
length-operator operator.Join xs ys h = length-append xs ys
length-operator operator.Equal xs ys h = refl
length-operator operator.Unequal xs ys h = refl

length-low : (n value : ℕ) → length (low_bits n value) ≡ n
length-low zero value = refl
length-low (suc n) value = length-append (low_bits n (value / 2)) _ ∙ (let rest : length (low_bits n (value / 2)) ≡ n = length-low n (value / 2) in omega arith)

pub length-literal : (r : Radix) (digits : List ℕ) → length (literal_bits r digits) ≡ digit_width r * length digits
length-literal r [] = omega arith
length-literal r (c ∷ digits) =
    length-append (low_bits (digit_width r) (digit_value c)) (literal_bits r digits)
    ∙ (let a : length (low_bits (digit_width r) (digit_value c)) ≡ digit_width r = length-low (digit_width r) (digit_value c) in
    let b : length (literal_bits r digits) ≡ digit_width r * length digits = length-literal r digits in
    let c : digit_width r * (length digits + 1) ≡ digit_width r * length digits + digit_width r = omega arith in omega arith)
