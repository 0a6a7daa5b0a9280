-- The choices of which a machine is made anew.
use Rattle.std.specs.Prelude.{◌≡◌, ◌⊎◌, ℕ, ◌+◌, ◌^◌, ◌<◌, ◌≤◌, Bool, true, false, List, [], ◌∷◌, ◌++◌, length, sum_by, if◌then◌else◌}
use Rattle.std.specs.List.{Contains}
use Rattle.bool_expr.specs.declared.expr.Gate.TheVariants.{And, Or, Nand}
use Rattle.bool_expr.specs.Expression.{Expression, constant, variable, inverse, pair, choice, bit, val}
use Rattle.boom_literal.specs.declared.literal.Literal.{Literal}
use Rattle.boom_literal.specs.declared.literal.Literal.TheVariants.{Constant, Name}
use Rattle.boom_literal.specs.Literals.{literal_expression}
use Rattle.boom_muxes.specs.declared.mux.Mux.{Mux}
use Rattle.boom_muxes.specs.declared.muxes.Muxes.{Muxes}

-- the value of a literal under the values of all names
abbrev pub literal_value : Literal → List Bool → Bool
literal_value l w = val (literal_expression l) w

-- what a choice is
abbrev pub mux_value : Mux → List Bool → Bool
mux_value x w = if bit w x.select then literal_value x.high w else literal_value x.low w

-- the smallest expression with that value: one over the input or register `s`, by the literals where it is 0 and 1
abbrev pub chosen : ℕ → Literal → Literal → Expression
chosen s (Constant false) (Constant true) = variable s
chosen s (Constant true) (Constant false) = inverse (variable s)
chosen s (Constant false) (Constant false) = pair And (variable s) (constant false)
chosen s (Constant false) (Name h) = pair And (variable s) (variable h)
chosen s (Constant true) (Constant true) = pair Nand (variable s) (inverse (constant true))
chosen s (Constant true) (Name h) = pair Nand (variable s) (inverse (variable h))
chosen s (Name l) (Constant true) = pair Or (variable s) (variable l)
chosen s (Name l) (Constant false) = pair And (inverse (variable s)) (variable l)
chosen s (Name l) (Name h) = choice (variable s) (variable h) (variable l)

abbrev pub mux_expression : Mux → Expression
mux_expression x = chosen x.select x.low x.high

abbrev pub weight_of : Literal → Literal → ℕ
weight_of (Constant false) (Constant true) = 0
weight_of (Constant true) (Constant false) = 1
weight_of (Constant b) l = 2
weight_of (Name j) (Constant b) = 3
weight_of (Name j) (Name k) = 4

abbrev pub mux_weight : Mux → ℕ
mux_weight x = weight_of x.low x.high

-- the literal is a constant or a name before number n
abbrev pub IsLiteralBelow : ℕ → Literal → Type 0
IsLiteralBelow n (Constant b) = Unit {0}
IsLiteralBelow n (Name k) = k < n

-- each choice reads inputs and registers, of which there are so many, and choices before it, the first of which has number n
abbrev pub EachIsBelow : ℕ → ℕ → List Mux → Type 0
EachIsBelow held n [] = Unit {0}
EachIsBelow held n (x ∷ rest) =
    (x.select < held) × (IsLiteralBelow n x.low × (IsLiteralBelow n x.high × EachIsBelow held (n + 1) rest))

-- the values of inputs and registers, and behind them those of the choices, each in turn
abbrev pub mux_values : List Bool → List Mux → List Bool
mux_values w [] = w
mux_values w (x ∷ rest) = mux_values (w ++ mux_value x w ∷ []) rest

-- what the choices weigh together
abbrev pub muxes_weight : List Mux → ℕ
muxes_weight xs = sum_by mux_weight xs

-- What is known of the table of choices: each weighs something, and together they weigh less than what was given. So there are no more
-- of them than that, and 32 bits can number them.
pub record IsTable (t : Muxes) : Type 0 where
  pub below : EachIsBelow t.held t.held t.nodes.keys
  pub weight : t.weight ≡ muxes_weight t.nodes.keys
  pub each : length t.nodes.keys ≤ t.weight
  pub less : (t.weight < t.given) ⊎ (t.nodes.keys ≡ [])
  pub few : t.held + t.given < 2 ^ 32

-- at most n choices were put behind those that were there
pub record HasGrownBy (n : ℕ) (old new : Muxes) : Type 0 where
  pub held : new.held ≡ old.held
  pub given : new.given ≡ old.given
  pub more : List Mux
  pub nodes : new.nodes.keys ≡ old.nodes.keys ++ more
  pub few : length more ≤ n

-- a choice that isn't there, reads what is, weighs something, and leaves the table lighter than what was given
pub record IsFurther (t : Muxes) (x : Mux) (weight : ℕ) : Type 0 where
  pub absent : Contains t.nodes.keys x → ⊥
  pub select : x.select < t.held
  pub low : IsLiteralBelow (t.held + length t.nodes.keys) x.low
  pub high : IsLiteralBelow (t.held + length t.nodes.keys) x.high
  pub own : 0 < mux_weight x
  pub weighs : weight ≡ t.weight + mux_weight x
  pub less : weight < t.given

-- the literal has the choice's value, whatever the inputs and registers are
pub record SaysMux (old new : Muxes) (x : Mux) (l : Literal) : Type 0 where
  pub below : IsLiteralBelow (new.held + length new.nodes.keys) l
  pub value : (w : List Bool) → length w ≡ old.held
      → literal_value l (mux_values w new.nodes.keys) ≡ mux_value x (mux_values w old.nodes.keys)
