-- The numbers of names, and what reads names by their numbers.
use Rattle.std.proofs.Common.{◌≡◌, ℕ, zero, suc, ◌+◌, ◌<◌, ◌≤◌, length, map, refl, ap, ◌∙◌, arith, length-append, if◌then◌else◌}
use Rattle.std.specs.Prelude.{nat_lt, slice_index}
use Rattle.std.proofs.lemmas.List.{length-map}
use Rattle.vlsi_base.specs.Range.{rising}
use Rattle.bool_expr.specs.Expression.{Expression, constant, variable, inverse, pair, choice, IsOver}
use Rattle.machine_core.specs.Machine.{Machine, Equation}
use Rattle.machine_core.specs.Order.{held_names, equation_names}
use Rattle.machine_core.specs.Checked.{IsChecked}
use Rattle.machine_walk.specs.Expansion.{held_count}
use Rattle.boom_muxes.specs.Building.{numbers_behind}

-- the number at a place of those that rise from n on
pub index-rising : (f : ℕ → ℕ) (n many k : ℕ) → k < many → slice_index (map f (rising n many)) k ≡ f (n + k)
index-rising f n zero k h = absurd (omega arith)
index-rising f n (suc many) zero h = ap f (omega arith)
index-rising f n (suc many) (suc k) h = index-rising f (n + 1) many k (omega arith) ∙ ap f (omega arith)

pub length-rising : (k n : ℕ) → length (rising k n) ≡ n
length-rising k zero = refl
length-rising k (suc n) = let a = length-rising (k + 1) n in omega (arith, a)

pub length-numbers : (held count total : ℕ) → length (numbers_behind held count total) ≡ total
length-numbers held count total = length-map (rising 0 total) (λ (k : ℕ). if nat_lt k held then k else k + count) ∙ length-rising 0 total

-- an expression over some names is one over more of them
pub over_more : (e : Expression) (n k : ℕ) → n ≤ k → IsOver e n → IsOver e k
over_more (constant b) n k less h = tt
over_more (variable x) n k less h = omega (arith, less, h)
over_more (inverse e) n k less h = over_more e n k less h
over_more (pair g a b) n k less h = (over_more a n k less h.0, over_more b n k less h.1)
over_more (choice c a b) n k less h = (over_more c n k less h.0, (over_more a n k less h.1.0, over_more b n k less h.1.1))

-- the names are those of inputs and registers, and of equations
pub all_names : (m : Machine) → IsChecked m → length m.vars ≡ held_count m + length m.equations
all_names m checked = ap length checked.ordered.vars ∙ length-append (held_names m) (equation_names m) ∙ ap (λ (n : ℕ). held_count m + n) (length-map m.equations (λ (e : Equation). e.name))
