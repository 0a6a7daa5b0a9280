-- Both bounds, by sums.
use Rattle.std.proofs.Common.{◌≡◌, ℕ, ◌+◌, ◌*◌, ◌≤◌, List, [], ◌∷◌, length, refl, arith}
use Rattle.std.specs.List.{AllZip, sum_by}
use Rattle.machine_core.specs.Machine.{Machine, outputs}
use Rattle.machine_core.specs.Size.{machine_size}
use Rattle.boom_check.specs.Kept.{inner_size}
use Rattle.boom_check.proofs.Sums.{sum_by-cons, inner_less}
use Rattle.boom_opt.specs.Rebuilt.{expressions_size}

-- where each is at most the other, so are the sums
pub sum_by-less : {A B : Type 0} (f : A → ℕ) (g : B → ℕ) (xs : List A) (ys : List B) → AllZip (λ (x : A) (y : B). g y ≤ f x) xs ys → sum_by g ys ≤ sum_by f xs
sum_by-less f g [] [] h = omega arith
sum_by-less f g [] (y ∷ ys) h = elim h [ ]
sum_by-less f g (x ∷ xs) [] h = elim h [ ]
sum_by-less f g (x ∷ xs) (y ∷ ys) h =
    let a = sum_by-cons f x xs in
    let b = sum_by-cons g y ys in
    let first = h.0 in
    let rest = sum_by-less f g xs ys h.1 in
    omega (arith, a, b, first, rest)

-- those of which each is 0 weigh nothing
pub sum_by-none : {A : Type 0} (f : A → ℕ) (xs : List A) → AllZip (λ (x y : A). f x ≡ 0) xs xs → sum_by f xs ≡ 0
sum_by-none f [] h = refl
sum_by-none f (x ∷ xs) h =
    let a = sum_by-cons f x xs in
    let first = h.0 in
    let rest = sum_by-none f xs h.1 in
    omega (arith, a, first, rest)

-- inner signals weigh no more than all expressions
pub inner_within : (m : Machine) → inner_size m ≤ expressions_size m
inner_within m = let a = inner_less m m.equations in omega (arith, a)

-- a machine is its expressions, its outputs and its registers
pub size_parts : (m : Machine) → machine_size m ≡ expressions_size m + 2 * length (outputs m) + 5 * length m.registers
size_parts m = omega arith

-- The bound on inner signals where the given machine is kept: it was given up, or nothing weighs anything.
pub inner_when_kept : (m : Machine) (most : ℕ) → expressions_size m ≤ most → inner_size m ≤ most
inner_when_kept m most less = let a = inner_within m in omega (arith, a, less)
