-- Which nodes operators, expressions and equations become: the table by which subject graphs are built.
use Rattle.std.specs.Prelude.{◌≡◌, ◌≢◌, ◌⊎◌, ℕ, ◌+◌, ◌<◌, Bool, true, false, not, List, [], ◌∷◌, ◌++◌}
use Rattle.bool_expr.specs.declared.expr.Gate.{Gate}
use Rattle.bool_expr.specs.declared.expr.Gate.TheVariants.{And, Or, Nand, Nor, Xor, Xnor}
use Rattle.bool_expr.specs.Expression.{Expression, constant, variable, inverse, pair, choice}
use Rattle.machine_core.specs.Machine.{Equation, Register}
use Rattle.net_theory.specs.Sources.{IsNumber}
use Rattle.graph_theory.specs.Graph.{Node, fixed, inv, nand}

-- A rule says, of the nodes behind n inputs and registers, what is made, and it lists the numbers of the nodes that are made for
-- it. A node that stands there already isn't made again: its number is taken.
abbrev pub Rule : Type 0 → Type 1
Rule A = ℕ → List Node → A → List ℕ → Type 0

-- number r is a node of this kind
pub record Stands (n : ℕ) (nodes : List Node) (r : ℕ) (kind : Node) : Type 0 where
  pub place : ℕ
  pub is_place : r ≡ n + place
  pub is_node : IsNumber nodes place kind

-- nothing is made: what is known is taken
abbrev pub Gives : {A : Type 0} → A → Rule A
Gives x n nodes r made = (r ≡ x) × (made ≡ [])

-- nothing is made: what stands at this place is taken
abbrev pub Takes : List ℕ → ℕ → Rule ℕ
Takes numbers k n nodes r made = IsNumber numbers k r × (made ≡ [])

-- one node of this kind is made
abbrev pub OneNode : Node → Rule ℕ
OneNode kind n nodes r made = Stands n nodes r kind × (made ≡ r ∷ [])

-- first the one thing is made, and then another, which may use it
pub record Then {A C : Type 0} (first : Rule A) (next : A → Rule C) (n : ℕ) (nodes : List Node) (r : C) (made : List ℕ) : Type 0 where
  pub mid : A
  pub before : List ℕ
  pub after : List ℕ
  pub is_first : first n nodes mid before
  pub is_next : next mid n nodes r after
  pub all : made ≡ before ++ after

infixr 10 ◌>>=◌
abbrev pub ◌>>=◌ : {A C : Type 0} → Rule A → (A → Rule C) → Rule C
P >>= Q = Then P Q

-- an input, a register or a gate of two inputs; and one of these or an inverter
abbrev pub IsSignal : ℕ → List Node → ℕ → Type 0
IsSignal n nodes a = (a < n) ⊎ ((b : ℕ) × ((c : ℕ) × Stands n nodes a (nand b c)))

abbrev pub IsNoConstant : ℕ → List Node → ℕ → Type 0
IsNoConstant n nodes a = IsSignal n nodes a ⊎ ((b : ℕ) × Stands n nodes a (inv b))

-- The inverse of a node: of an inverter what that one reads, of a constant the other constant, and of a signal its inverter.
pub data IsInverse (a n : ℕ) (nodes : List Node) : ℕ → List ℕ → Type 0 where
  of_inverter : {r : ℕ} → Stands n nodes a (inv r) → IsInverse a n nodes r []
  of_constant : {r : ℕ} (b : Bool) → Stands n nodes a (fixed b) → Stands n nodes r (fixed (not b)) → IsInverse a n nodes r (r ∷ [])
  of_signal : {r : ℕ} → IsSignal n nodes a → Stands n nodes r (inv a) → IsInverse a n nodes r (r ∷ [])

-- The nand of two nodes: of one with itself its inverse, with 1 the inverse of the other, with 0 it is 1, and else a gate,
-- whose two sons have no order.
pub data IsNand (a b n : ℕ) (nodes : List Node) : ℕ → List ℕ → Type 0 where
  of_one_node : {r : ℕ} {made : List ℕ} → a ≡ b → IsInverse a n nodes r made → IsNand a b n nodes r made
  after_one : {r : ℕ} {made : List ℕ} → Stands n nodes a (fixed true) → IsInverse b n nodes r made → IsNand a b n nodes r made
  before_one : {r : ℕ} {made : List ℕ} → Stands n nodes b (fixed true) → IsInverse a n nodes r made → IsNand a b n nodes r made
  after_zero : {r : ℕ} → Stands n nodes a (fixed false) → Stands n nodes r (fixed true) → IsNand a b n nodes r (r ∷ [])
  before_zero : {r : ℕ} → Stands n nodes b (fixed false) → Stands n nodes r (fixed true) → IsNand a b n nodes r (r ∷ [])
  of_two : {r : ℕ} → a ≢ b → IsNoConstant n nodes a → IsNoConstant n nodes b
      → Stands n nodes r (nand a b) ⊎ Stands n nodes r (nand b a) → IsNand a b n nodes r (r ∷ [])

-- operators over nodes
abbrev pub IsAnd : ℕ → ℕ → Rule ℕ
IsAnd a b = IsNand a b >>= λ x. IsInverse x

abbrev pub IsOr : ℕ → ℕ → Rule ℕ
IsOr a b = IsInverse a >>= λ x. IsInverse b >>= λ y. IsNand x y

abbrev pub IsXor : ℕ → ℕ → Rule ℕ
IsXor a b = IsNand a b >>= λ x. IsNand a x >>= λ y. IsNand b x >>= λ z. IsNand y z

-- a where c is 1, and b elsewhere
abbrev pub IsChoice : ℕ → ℕ → ℕ → Rule ℕ
IsChoice c a b = IsNand c a >>= λ x. IsInverse c >>= λ y. IsNand y b >>= λ z. IsNand x z

abbrev pub IsPair : Gate → ℕ → ℕ → Rule ℕ
IsPair And a b = IsAnd a b
IsPair Or a b = IsOr a b
IsPair Nand a b = IsNand a b
IsPair Nor a b = IsOr a b >>= λ x. IsInverse x
IsPair Xor a b = IsXor a b
IsPair Xnor a b = IsXor a b >>= λ x. IsInverse x

-- an expression, whose variable k has the number that stands at k
abbrev pub Becomes : Expression → List ℕ → Rule ℕ
Becomes (constant b) numbers = OneNode (fixed b)
Becomes (variable k) numbers = Takes numbers k
Becomes (inverse e) numbers = Becomes e numbers >>= λ x. IsInverse x
Becomes (pair g a b) numbers = Becomes a numbers >>= λ x. Becomes b numbers >>= λ y. IsPair g x y
Becomes (choice c a b) numbers = Becomes c numbers >>= λ x. Becomes a numbers >>= λ y. Becomes b numbers >>= λ z. IsChoice x y z

-- equations in turn, each over the numbers before it: the numbers of all names, where those of the first names are known
abbrev pub Solve : List Equation → List ℕ → Rule (List ℕ)
Solve [] known = Gives known
Solve (e ∷ rest) known = Becomes e.expr known >>= λ x. Solve rest (known ++ x ∷ [])

-- what a register of this number loads: its next bit where it always loads, else that or its own bit, by its enable
abbrev pub IsLoad : Register → List ℕ → ℕ → Rule ℕ
IsLoad r numbers own n nodes a made =
    ((r.enable ≡ constant true) × Becomes r.next numbers n nodes a made)
    ⊎ ((r.enable ≢ constant true) × (Becomes r.enable numbers >>= λ x. Becomes r.next numbers >>= λ y. IsChoice x y own) n nodes a made)

-- what registers load in turn, behind those that are known, where the first register has this number
abbrev pub Load : List Register → List ℕ → ℕ → List ℕ → Rule (List ℕ)
Load [] numbers own known = Gives known
Load (r ∷ rest) numbers own known = IsLoad r numbers own >>= λ x. Load rest numbers (own + 1) (known ++ x ∷ [])
