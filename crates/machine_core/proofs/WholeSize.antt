-- The size of a machine from its parts.
use Rattle.std.proofs.Common.{◌≡◌, ℕ, ◌+◌, ◌*◌, List, [], ◌∷◌, length, map, refl, sym, ap, ◌∙◌, arith}
use Rattle.std.specs.Prelude.{filter, not}
use Rattle.std.specs.List.{sum_by, fold}
use Rattle.vlsi_base.specs.declared.name.Port.{Port}
use Rattle.bool_expr.specs.Expression.{size_of}
use Rattle.bool_expr.specs.View.{view}
use Rattle.machine_core.specs.Machine.{Machine, Equation, Register, is_input}
use Rattle.machine_core.specs.Size.{machine_size}
use Rattle.machine_core.specs.declared.equation.Equation.{Equation as EquationParts}
use Rattle.machine_core.specs.declared.equation.Register.{Register as RegisterParts}
use Rattle.machine_core.specs.View.{equation_view, register_view}

fold-map : {A B : Type 0} (f : B → ℕ) (g : A → B) (n : ℕ) (xs : List A) → fold (λ a (x : B). a + f x) n (map g xs) ≡ fold (λ a (x : A). a + f (g x)) n xs
fold-map f g n [] = refl
fold-map f g n (x ∷ xs) = fold-map f g (n + f (g x)) xs

sum_by-map : {A B : Type 0} (f : B → ℕ) (g : A → B) (xs : List A) → sum_by f (map g xs) ≡ sum_by (λ x. f (g x)) xs
sum_by-map f g xs = fold-map f g 0 xs

length_of_map : {A B : Type 0} (g : A → B) (xs : List A) → length (map g xs) ≡ length xs
length_of_map g [] = refl
length_of_map g (x ∷ xs) = omega (arith, length_of_map g xs)

pub machine_size_is : (m : Machine) (es : List EquationParts) (rs : List RegisterParts) (ps : List Port) → map equation_view es ≡ m.equations → map register_view rs ≡ m.registers → ps ≡ m.ports
    → machine_size m ≡ sum_by (λ (e : EquationParts). size_of (view e.expr)) es + sum_by (λ (r : RegisterParts). size_of (view r.next) + size_of (view r.enable)) rs + 2 * length (filter (λ (p : Port). not (is_input p.dir)) ps) + 5 * length rs
machine_size_is m es rs ps is_es is_rs is_ps =
    let e = ap (sum_by (λ (e : Equation). size_of e.expr)) (sym is_es) ∙ sum_by-map (λ (e : Equation). size_of e.expr) equation_view es in
    let r = ap (sum_by (λ (r : Register). size_of r.next + size_of r.enable)) (sym is_rs) ∙ sum_by-map (λ (r : Register). size_of r.next + size_of r.enable) register_view rs in
    let n = ap length (sym is_rs) ∙ length_of_map register_view rs in
    let outs = length_of_map (λ (p : Port). p.name) (filter (λ (p : Port). not (is_input p.dir)) m.ports) in
    let o = ap (λ (qs : List Port). length (filter (λ (p : Port). not (is_input p.dir)) qs)) is_ps in
    omega (arith, e, r, n, outs, o)
