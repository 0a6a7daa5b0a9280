-- Equations each of which reads only earlier names make no ring.
use Rattle.std.proofs.Common.{◌≡◌, inl, inr, ℕ, ◌+◌, ◌<◌, List, [], ◌∷◌, ◌++◌, length, get_or, refl, sym, ap, subst, ◌∙◌, arith, length-append, append_assoc}
use Rattle.vlsi_base.specs.declared.name.Name.{Name}
use Rattle.vlsi_base.specs.Names.{scalar}
use Rattle.vlsi_base.specs.Member.{In, AllDifferent}
use Rattle.bool_expr.specs.Expression.{Expression, constant, variable, inverse as not_of, pair, choice, IsOver}
use Rattle.machine_core.specs.Machine.{Equation}
use Rattle.machine_core.specs.Order.{EachReadsBelow}
use Rattle.machine_core.proofs.Values.{In-split}
use Rattle.source_checks.specs.Formula.{formula_names, place}
use Rattle.source_checks.specs.Elaboration.{Definition}
use Rattle.source_checks.specs.Cycles.{Reads, ReadsAlong, IsRing}
use Rattle.vlsi_model.proofs.Members.{In-cases}
use Rattle.vlsi_model.proofs.Numbering.{place_of_at}
use Rattle.vbe_print.specs.Expressions.{name_of}
use Rattle.vbe_laws.proofs.Formulas.{formula_of, value_formula}

-- ---- in general

ring_falls : (all : List Definition) (rank : Name → ℕ) → ((a b : Name) → Reads all a b → rank b < rank a) → (first a : Name) (rest : List Name) → ReadsAlong all first a rest → rank first < rank a
ring_falls all rank lower first a [] r = lower a first r
ring_falls all rank lower first a (b ∷ rest) r =
    let one = lower a b r.0 in
    let more = ring_falls all rank lower first b rest r.1 in
    omega (arith, one, more)

pub no_ring : (all : List Definition) (rank : Name → ℕ) → ((a b : Name) → Reads all a b → rank b < rank a) → (ring : List Name) → IsRing all ring → ⊥
no_ring all rank lower [] r = r
no_ring all rank lower (a ∷ rest) r = let f = ring_falls all rank lower a a rest r.1 in absurd (omega (arith, f))

-- ---- of a machine

-- equations under these names
abbrev pub definitions_of : List Name → List Name → List Equation → List Definition
definitions_of vars [] es = []
definitions_of vars (n ∷ names) [] = []
definitions_of vars (n ∷ names) (e ∷ es) = record { name = n; formula = value_formula vars e.expr } ∷ definitions_of vars names es

-- a name that an expression reads
pub record IsVariable (vars : List Name) (k : ℕ) (b : Name) : Type 0 where
  pub number : ℕ
  pub below : number < k
  pub is : name_of vars number ≡ b

read_in : (vars : List Name) (k : ℕ) (b : Name) (e : Expression) → IsOver e k → In b (formula_names (formula_of vars e)) → IsVariable vars k b
read_in vars k b (constant c) over h = elim h [ ]
read_in vars k b (variable i) over h = elim (In-cases b (name_of vars i) [] h) [
  | inl same ↦ record { number = i; below = over; is = same }
  | inr g ↦ absurd (elim g [ ])
]
read_in vars k b (not_of e) over h = read_in vars k b e over h
read_in vars k b (pair g x y) over h = elim (In-split b (formula_names (formula_of vars x)) (formula_names (formula_of vars y)) h) [
  | inl i ↦ read_in vars k b x over.0 i
  | inr j ↦ read_in vars k b y over.1 j
]
read_in vars k b (choice c x y) over h =
    let C = formula_names (formula_of vars c) in
    let X = formula_names (formula_of vars x) in
    let Y = formula_names (formula_of vars y) in
    elim (In-split b (C ++ X) (C ++ Y) h) [
      | inl i ↦ elim (In-split b C X i) [
        | inl p ↦ read_in vars k b c over.0 p
        | inr q ↦ read_in vars k b x over.1.0 q
      ]
      | inr j ↦ elim (In-split b C Y j) [
        | inl p ↦ read_in vars k b c over.0 p
        | inr q ↦ read_in vars k b y over.1.1 q
      ]
    ]

pub read_in_value : (vars : List Name) (k : ℕ) (b : Name) (e : Expression) → IsOver e k → In b (formula_names (value_formula vars e)) → IsVariable vars k b
read_in_value vars k b (constant c) over h = read_in vars k b (constant c) over h
read_in_value vars k b (variable i) over h = read_in vars k b (variable i) over h
read_in_value vars k b (not_of e) over h = read_in vars k b (not_of e) over h
read_in_value vars k b (pair g x y) over h = read_in vars k b (pair g x y) over h
read_in_value vars k b (choice c x y) over h =
    let C = formula_names (formula_of vars c) in
    let X = formula_names (formula_of vars x) in
    let Y = formula_names (value_formula vars y) in
    elim (In-split b C (X ++ Y) h) [
      | inl p ↦ read_in vars k b c over.0 p
      | inr j ↦ elim (In-split b X Y j) [
        | inl q ↦ read_in vars k b x over.1.0 q
        | inr q ↦ read_in_value vars k b y over.1.1 q
      ]
    ]

-- what stands behind the front
pub seam : (front : List Name) (n : Name) (back : List Name) → get_or (front ++ n ∷ back) (length front) n ≡ n
seam [] n back = refl
seam (x ∷ xs) n back = seam xs n back

place_here : (vars front : List Name) (n : Name) (back : List Name) → AllDifferent vars → vars ≡ front ++ n ∷ back → place vars n ≡ length front
place_here vars front n back different is =
    let more : length (front ++ n ∷ back) ≡ length front + length (n ∷ back) = length-append front (n ∷ back) in
    let size : length vars ≡ length (front ++ n ∷ back) = ap (λ (ns : List Name). length ns) is in
    let at : get_or vars (length front) n ≡ n = ap (λ (ns : List Name). get_or ns (length front) n) is ∙ seam front n back in
    ap (place vars) (sym at) ∙ place_of_at vars (length front) n different (omega (arith, more, size))

read_lower : (vars front : List Name) (e : Equation) (n : Name) (names : List Name) → AllDifferent vars → vars ≡ front ++ n ∷ names → IsOver e.expr (length front) → (a b : Name) → n ≡ a → In b (formula_names (value_formula vars e.expr)) → place vars b < place vars a
read_lower vars front e n names different is over a b same h =
    let v = read_in_value vars (length front) b e.expr over h in
    let below = v.below in
    let more : length (front ++ n ∷ names) ≡ length front + length (n ∷ names) = length-append front (n ∷ names) in
    let size : length vars ≡ length (front ++ n ∷ names) = ap (λ (ns : List Name). length ns) is in
    let one : place vars b ≡ v.number = ap (place vars) (sym v.is) ∙ place_of_at vars v.number (scalar []) different (omega (arith, more, size, below)) in
    let two : place vars a ≡ length front = ap (place vars) (sym same) ∙ place_here vars front n names different is in
    omega (arith, one, two, below)

pub each_lower : (vars front names : List Name) (es : List Equation) → AllDifferent vars → vars ≡ front ++ names → EachReadsBelow (length front) es → (a b : Name) → Reads (definitions_of vars names es) a b → place vars b < place vars a
each_lower vars front [] es different is below a b r = absurd (elim r.1 [ ])
each_lower vars front (n ∷ names) [] different is below a b r = absurd (elim r.1 [ ])
each_lower vars front (n ∷ names) (e ∷ es) different is below a b r =
    elim (In-cases r.0 (record { name = n; formula = value_formula vars e.expr }) (definitions_of vars names es) r.1) [
      | inl same ↦
          read_lower vars front e n names different is below.0 a b (ap (λ (d : Definition). d.name) same ∙ r.2) (subst (λ (d : Definition). In b (formula_names d.formula)) (sym same) r.3)
      | inr later ↦
          let size : length (front ++ n ∷ []) ≡ length front + 1 = length-append front (n ∷ []) in
          each_lower vars (front ++ n ∷ []) names es different (is ∙ sym (append_assoc front (n ∷ []) names)) (subst (λ k. EachReadsBelow k es) (sym size) below.1) a b (r.0, later, r.2, r.3)
    ]
