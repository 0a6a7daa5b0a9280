-- Expressions that are read as they are: no choice stands within another expression, and registers always load.
use Rattle.std.proofs.Common.{◌≡◌, ◌∙◌, ℕ, true, List, [], ◌∷◌, map, length, refl, sym, ap}
use Rattle.std.specs.List.{All}
use Rattle.std.proofs.lemmas.List.Elements.{All-head, All-tail}
use Rattle.vlsi_base.specs.declared.name.Name.{Name}
use Rattle.vlsi_base.specs.Names.{scalar}
use Rattle.vlsi_base.specs.Member.{AllDifferent}
use Rattle.bool_expr.specs.Expression.{Expression, constant, variable, inverse as not_of, pair, choice, IsOver}
use Rattle.machine_core.specs.Machine.{Machine, Equation, Register}
use Rattle.source_checks.specs.Formula.{numbered}
use Rattle.vlsi_model.proofs.Numbering.{place_of_at}
use Rattle.vbe_laws.proofs.Formulas.{formula_of, value_formula}
use Rattle.vbe_laws.proofs.Rings.{definitions_of}
use Rattle.vbe_laws.proofs.Copies.{equation_over, register_over, stored_as}

-- no choice stands in it
abbrev pub HasNoChoice : Expression → Type 0
HasNoChoice (constant b) = Unit {0}
HasNoChoice (variable k) = Unit {0}
HasNoChoice (not_of e) = HasNoChoice e
HasNoChoice (pair g a b) = HasNoChoice a × HasNoChoice b
HasNoChoice (choice c a b) = ⊥

-- a register that always loads
pub record IsPlainRegister (r : Register) : Type 0 where
  pub next : HasNoChoice r.next
  pub enable : r.enable ≡ constant true

-- the machine's equations, and what its registers load, have no choice
pub record IsReadAsItself (m : Machine) : Type 0 where
  pub equations : All (λ e. HasNoChoice e.expr) m.equations
  pub registers : All IsPlainRegister m.registers

formula_itself : (names : List Name) → AllDifferent names → (e : Expression) → IsOver e (length names) → HasNoChoice e → numbered names (formula_of names e) ≡ e
formula_itself names d (constant b) over h = refl
formula_itself names d (variable k) over h = ap (λ (i : ℕ). variable i) (place_of_at names k (scalar []) d over)
formula_itself names d (not_of e) over h = ap (λ (x : Expression). not_of x) (formula_itself names d e over h)
formula_itself names d (pair g a b) over h =
    ap (λ (x : Expression). pair g x (numbered names (formula_of names b))) (formula_itself names d a over.0 h.0)
    ∙ ap (λ (x : Expression). pair g a x) (formula_itself names d b over.1 h.1)
formula_itself names d (choice c a b) over h = absurd h

-- a whole value
value_itself : (names : List Name) → AllDifferent names → (e : Expression) → IsOver e (length names) → HasNoChoice e → numbered names (value_formula names e) ≡ e
value_itself names d (constant b) over h = refl
value_itself names d (variable k) over h = formula_itself names d (variable k) over h
value_itself names d (not_of e) over h = formula_itself names d (not_of e) over h
value_itself names d (pair g a b) over h = formula_itself names d (pair g a b) over h
value_itself names d (choice c a b) over h = absurd h

abbrev make_equation : Name → Expression → Equation
make_equation n e = record { name = n; expr = e }

pub equations_themselves : (names : List Name) → AllDifferent names → (es : List Equation) → All (λ e. IsOver e.expr (length names)) es → All (λ e. HasNoChoice e.expr) es
    → map (equation_over names) (definitions_of names (map (λ (e : Equation). e.name) es) es) ≡ es
equations_themselves names d [] over h = refl
equations_themselves names d (e ∷ es) over h =
    let O : Equation → Type 0 = λ e. IsOver e.expr (length names) in
    let H : Equation → Type 0 = λ e. HasNoChoice e.expr in
    let rest = map (equation_over names) (definitions_of names (map (λ (x : Equation). x.name) es) es) in
    ap (λ (x : Expression). make_equation e.name x ∷ rest) (value_itself names d e.expr (All-head O e es over) (All-head H e es h))
    ∙ ap (λ (xs : List Equation). e ∷ xs) (equations_themselves names d es (All-tail O e es over) (All-tail H e es h))

abbrev make_register : Name → Expression → Expression → Register
make_register n x e = record { name = n; next = x; enable = e }

register_itself : (names : List Name) → AllDifferent names → (n : Name) (x e : Expression) → IsOver x (length names) → HasNoChoice x → e ≡ constant true
    → register_over names (stored_as names (make_register n x e)) ≡ make_register n x e
register_itself names d n x e over h always =
    ap (λ (z : Expression). register_over names (stored_as names (make_register n x z))) always
    ∙ ap (λ (y : Expression). make_register n y (constant true)) (value_itself names d x over h)
    ∙ ap (λ (z : Expression). make_register n x z) (sym always)

pub registers_themselves : (names : List Name) → AllDifferent names → (rs : List Register) → All (λ r. IsOver r.next (length names) × IsOver r.enable (length names)) rs → All IsPlainRegister rs
    → map (register_over names) (map (stored_as names) rs) ≡ rs
registers_themselves names d [] over h = refl
registers_themselves names d (r ∷ rs) over h =
    let O : Register → Type 0 = λ r. IsOver r.next (length names) × IsOver r.enable (length names) in
    let own = All-head IsPlainRegister r rs h in
    ap (λ (x : Register). x ∷ map (register_over names) (map (stored_as names) rs))
    (register_itself names d r.name r.next r.enable (All-head O r rs over).0 own.next own.enable)
    ∙ ap (λ (xs : List Register). r ∷ xs) (registers_themselves names d rs (All-tail O r rs over) (All-tail IsPlainRegister r rs h))
