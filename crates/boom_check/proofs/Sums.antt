-- Sums over lists.
use Rattle.std.proofs.Common.{◌≡◌, ℕ, ◌+◌, ◌≤◌, Bool, true, false, List, [], ◌∷◌, ◌++◌, ◌∙◌, arith, if◌then◌else◌}
use Rattle.std.specs.List.{sum_by, fold}
use Rattle.bool_expr.specs.Expression.{size_of}
use Rattle.machine_core.specs.Machine.{Machine, Equation}
use Rattle.boom_check.specs.Kept.{is_output}

fold-from : {A : Type 0} (f : A → ℕ) (n : ℕ) (xs : List A) → fold (λ (a : ℕ) (x : A). a + f x) n xs ≡ n + fold (λ (a : ℕ) (x : A). a + f x) 0 xs
fold-from f n [] = omega arith
fold-from f n (x ∷ xs) =
    let a = fold-from f (n + f x) xs in
    let b = fold-from f (0 + f x) xs in
    omega (arith, a, b)

pub sum_by-cons : {A : Type 0} (f : A → ℕ) (x : A) (xs : List A) → sum_by f (x ∷ xs) ≡ f x + sum_by f xs
sum_by-cons f x xs =
    let zero_first : 0 + f x + sum_by f xs ≡ f x + sum_by f xs = omega arith in
    fold-from f (0 + f x) xs ∙ zero_first

pub sum_by-append : {A : Type 0} (f : A → ℕ) (xs ys : List A) → sum_by f (xs ++ ys) ≡ sum_by f xs + sum_by f ys
sum_by-append f [] ys = omega arith
sum_by-append f (x ∷ xs) ys =
    let a = sum_by-cons f x (xs ++ ys) in
    let b = sum_by-cons f x xs in
    let c = sum_by-append f xs ys in
    omega (arith, a, b, c)

-- inner signals weigh no more than all equations
pub inner_less : (m : Machine) (es : List Equation) → sum_by (λ (e : Equation). if is_output m e.name then 0 else size_of e.expr) es ≤ sum_by (λ (e : Equation). size_of e.expr) es
inner_less m [] = omega arith
inner_less m (e ∷ es) =
    let a = sum_by-cons (λ (e : Equation). if is_output m e.name then 0 else size_of e.expr) e es in
    let b = sum_by-cons (λ (e : Equation). size_of e.expr) e es in
    let one : (if is_output m e.name then 0 else size_of e.expr) ≤ size_of e.expr = by (is_output m e.name) (size_of e.expr) in
    let rest = inner_less m es in
    omega (arith, a, b, one, rest)
  where
    by : (t : Bool) (n : ℕ) → (if t then 0 else n) ≤ n
    by true n = omega arith
    by false n = omega arith
