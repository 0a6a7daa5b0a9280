-- What multiplexers give, and what they read.
use Rattle.std.proofs.Common.{◌≡◌, ◌≢◌, ℕ, ◌<◌, ◌≤◌, Bool, true, false, not, List, [], ◌∷◌, ◌++◌, refl, ◌∙◌, ap, arith, set, if◌then◌else◌, get_or-set_other}
use Rattle.bool_expr.specs.Expression.{bit, gate_value}
use Rattle.bool_expr.specs.declared.expr.Gate.TheVariants.{And, Or, Nand, Nor, Xor, Xnor}
use Rattle.asimut_sim.specs.declared.operator.Operator.{Operator}
use Rattle.asimut_sim.specs.declared.operator.Step.{Step}
use Rattle.asimut_sim.specs.declared.operator.Step.TheVariants.{Not, Pair, Choice}
use Rattle.asimut_sim.specs.Operator.{inverted, chosen, ReadsBelow, step_value, steps_value, StepBelow}

pub and_is : (x y z : Bool) → z ≡ false → (if x then inverted false y else inverted false z) ≡ gate_value And x y
and_is true y z e = refl
and_is false y z e = e

pub or_is : (x y z : Bool) → z ≡ true → (if x then inverted false z else inverted false y) ≡ gate_value Or x y
or_is true y z e = e
or_is false y z e = refl

pub nand_is : (x y z : Bool) → z ≡ true → (if x then inverted true y else inverted false z) ≡ gate_value Nand x y
nand_is true y z e = refl
nand_is false y z e = e

pub nor_is : (x y z : Bool) → z ≡ false → (if x then inverted false z else inverted true y) ≡ gate_value Nor x y
nor_is true y z e = e
nor_is false y z e = refl

pub xor_is : (x y : Bool) → (if x then inverted true y else inverted false y) ≡ gate_value Xor x y
xor_is true y = refl
xor_is false y = refl

pub xnor_is : (x y : Bool) → (if x then inverted false y else inverted true y) ≡ gate_value Xnor x y
xnor_is true y = refl
xnor_is false y = refl

pub not_is : (x y z : Bool) → y ≡ false → z ≡ true → (if x then inverted false y else inverted false z) ≡ not x
not_is true y z e f = e
not_is false y z e f = f

pub choice_is : (x y z : Bool) → (if x then inverted false y else inverted false z) ≡ (if x then y else z)
choice_is true y z = refl
choice_is false y z = refl

-- an operator goes by its three bits
pub chosen_same : (a b : List Bool) (o : Operator) → bit a o.condition ≡ bit b o.condition → bit a o.first ≡ bit b o.first → bit a o.second ≡ bit b o.second
    → chosen a o ≡ chosen b o
chosen_same a b o c f s =
    ap (λ (x : Bool). if x then inverted o.inverts_first (bit a o.first) else inverted o.inverts_second (bit a o.second)) c
    ∙ ap (λ (x : Bool). if bit b o.condition then inverted o.inverts_first x else inverted o.inverts_second (bit a o.second)) f
    ∙ ap (λ (x : Bool). if bit b o.condition then inverted o.inverts_first (bit b o.first) else inverted o.inverts_second x) s

pub below_apart : (x i : ℕ) → x < i → x ≢ i
below_apart x i h e = absurd (omega arith)

pub bit-set_other : (a : List Bool) (i j : ℕ) (v : Bool) → j < i → bit (set a i v) j ≡ bit a j
bit-set_other a i j v h = get_or-set_other a i j v false (below_apart j i h)

-- what is written at a later place changes nothing
pub chosen_set : (a : List Bool) (i : ℕ) (v : Bool) (o : Operator) → ReadsBelow i o → chosen (set a i v) o ≡ chosen a o
chosen_set a i v o h =
    chosen_same (set a i v) a o (bit-set_other a i o.condition v h.condition) (bit-set_other a i o.first v h.first) (bit-set_other a i o.second v h.second)

pub reads_weaker : (n m : ℕ) (o : Operator) → n ≤ m → ReadsBelow n o → ReadsBelow m o
reads_weaker n m o h r = record {
  condition = let c = r.condition in omega (arith, c, h);
  first = let c = r.first in omega (arith, c, h);
  second = let c = r.second in omega (arith, c, h);
}

pub step_weaker : (n m : ℕ) (s : Step) → n ≤ m → StepBelow n s → StepBelow m s
step_weaker n m Not h b = tt
step_weaker n m (Pair g k) h b = omega (arith, b, h)
step_weaker n m (Choice c k) h b = let x = b.0 in let y = b.1 in (omega (arith, x, h), omega (arith, y, h))

-- the last step stands inside the others
pub steps_value_push : (a : List Bool) (ss : List Step) (s : Step) (b : Bool) → steps_value a (ss ++ s ∷ []) b ≡ steps_value a ss (step_value a s b)
steps_value_push a [] s b = refl
steps_value_push a (x ∷ ss) s b = ap (step_value a x) (steps_value_push a ss s b)
