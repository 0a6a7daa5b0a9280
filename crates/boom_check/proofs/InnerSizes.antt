-- Outputs found among ports, and what is left of the equations.
use Rattle.std.proofs.Common.{◌≡◌, ℕ, zero, suc, ◌+◌, ◌-◌, ◌^◌, ◌<◌, ◌≤◌, Bool, true, false, not, ◌||◌, List, [], ◌∷◌, length, map, take, get_or, filter, min, refl, sym, ap, subst, ◌∙◌, arith, if◌then◌else◌}
use Rattle.std.specs.List.{list_any}
use Rattle.vlsi_base.specs.declared.name.Name.{Name}
use Rattle.vlsi_base.specs.declared.name.Port.{Port}
use Rattle.vlsi_base.specs.declared.name.Dir.{Dir}
use Rattle.vlsi_base.specs.declared.name.Dir.TheVariants.{Out}
use Rattle.bool_expr.specs.Expression.{size_of}
use Rattle.machine_core.specs.declared.equation.Equation.{Equation as EquationParts}
use Rattle.machine_core.specs.Named.{is_same_name}
use Rattle.machine_core.specs.Machine.{Equation, is_input, names_of}
use Rattle.machine_core.specs.View.{equation_view}
use Rattle.machine_core.proofs.Names.{same_name-itself}
use Rattle.boom_check.specs.Kept.{is_shown, hidden_size}
use Rattle.boom_check.proofs.Sums.{sum_by-cons, sum_by-append}
use Rattle.boom_check.proofs.Lists.{map_push, take_next}

or_true : (a : Bool) → (a || true) ≡ true
or_true true = refl
or_true false = refl

pub shown_at : (ports : List Port) (i : ℕ) (p : Port) (name : Name) → i < length ports → p ≡ get_or ports i p → p.dir ≡ Out → p.name ≡ name → is_shown ports name ≡ true
shown_at [] i p name inside is out named = absurd (omega arith)
shown_at (q ∷ ports) zero p name inside is out named =
    let dir : q.dir ≡ Out = ap (λ (x : Port). x.dir) (sym is) ∙ out in
    let same : q.name ≡ name = ap (λ (x : Port). x.name) (sym is) ∙ named in
    ap (λ (d : Dir). list_any (λ n. is_same_name n name) (names_of (if not (is_input d) then q ∷ filter (λ (x : Port). not (is_input x.dir)) ports else filter (λ (x : Port). not (is_input x.dir)) ports))) dir
    ∙ ap (λ (b : Bool). b || list_any (λ n. is_same_name n name) (names_of (filter (λ (x : Port). not (is_input x.dir)) ports)))
    (subst (λ (n : Name). is_same_name n name ≡ true) (sym same) (same_name-itself name))
shown_at (q ∷ ports) (suc i) p name inside is out named = by (not (is_input q.dir)) (shown_at ports i p name (omega arith) is out named) where
  by : (b : Bool) → is_shown ports name ≡ true
      → list_any (λ n. is_same_name n name) (names_of (if b then q ∷ filter (λ (x : Port). not (is_input x.dir)) ports else filter (λ (x : Port). not (is_input x.dir)) ports)) ≡ true
  by true rest = ap (λ (b : Bool). is_same_name q.name name || b) rest ∙ or_true (is_same_name q.name name)
  by false rest = rest

-- one equation more
pub hidden_more : (ports : List Port) (es : List EquationParts) (i : ℕ) (e : EquationParts) → i < length es → e ≡ get_or es i e
    → hidden_size ports (map equation_view (take (i + 1) es))
    ≡ hidden_size ports (map equation_view (take i es)) + (if is_shown ports e.name then 0 else size_of (equation_view e).expr)
hidden_more ports es i e inside is =
    let f : Equation → ℕ = λ x. if is_shown ports x.name then 0 else size_of x.expr in
    let a = ap (λ (l : List Equation). hidden_size ports l) (ap (map equation_view) (take_next es i e inside is) ∙ map_push equation_view (take i es) e) in
    let b = sum_by-append (λ (x : Equation). if is_shown ports x.name then 0 else size_of x.expr) (map equation_view (take i es)) (equation_view e ∷ []) in
    let c = sum_by-cons (λ (x : Equation). if is_shown ports x.name then 0 else size_of x.expr) (equation_view e) [] in
    omega (arith, a, b, c)

some_or_none : (b : Bool) (n : ℕ) → (if b then 0 else n) ≤ n
some_or_none true n = omega arith
some_or_none false n = omega arith

-- an output's equation adds nothing, and each other one at most its size
pub hidden_output : (ports : List Port) (es : List EquationParts) (i : ℕ) (e : EquationParts) (sum : ℕ) → i < length es → e ≡ get_or es i e → is_shown ports e.name ≡ true
    → min (hidden_size ports (map equation_view (take i es))) (2 ^ 64 - 1) ≤ sum → min (hidden_size ports (map equation_view (take (i + 1) es))) (2 ^ 64 - 1) ≤ sum
hidden_output ports es i e sum inside is shown less =
    let more = hidden_more ports es i e inside is in
    let none = ap (λ (b : Bool). if b then 0 else size_of (equation_view e).expr) shown in
    omega (arith, more, none, less)

pub hidden_inner : (ports : List Port) (es : List EquationParts) (i : ℕ) (e : EquationParts) (sum size after : ℕ) → i < length es → e ≡ get_or es i e
    → size ≡ min (size_of (equation_view e).expr) (2 ^ 64 - 1) → after ≡ min (sum + size) (2 ^ 64 - 1)
    → min (hidden_size ports (map equation_view (take i es))) (2 ^ 64 - 1) ≤ sum → min (hidden_size ports (map equation_view (take (i + 1) es))) (2 ^ 64 - 1) ≤ after
hidden_inner ports es i e sum size after inside is sized added less =
    let more = hidden_more ports es i e inside is in
    let most = some_or_none (is_shown ports e.name) (size_of (equation_view e).expr) in
    by (hidden_size ports (map equation_view (take i es))) (hidden_size ports (map equation_view (take (i + 1) es))) (if is_shown ports e.name then 0 else size_of (equation_view e).expr) (size_of (equation_view e).expr)
    more most sized less
  where
    by : (before now part whole : ℕ) → now ≡ before + part → part ≤ whole → size ≡ min whole (2 ^ 64 - 1) → min before (2 ^ 64 - 1) ≤ sum → min now (2 ^ 64 - 1) ≤ after
    by before now part whole e p s l = omega (arith, e, p, s, l, added)
