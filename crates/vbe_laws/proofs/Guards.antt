-- Guards as they are written: they name the clock, and add the register's enable.
use Rattle.std.proofs.Common.{◌≡◌, ℕ, Bool, true, false, cond, not, ◌&&◌, ◌||◌, List, [], ◌∷◌, ◌++◌, length, Option, None, Some, bytes_eq, refl, sym, ap, subst, ◌∙◌}
use Rattle.std.specs.Prelude.{is_none}
use Rattle.std.proofs.lemmas.Slice.Eq.{bytes_eq-Decides}
use Rattle.vlsi_base.specs.declared.name.Name.{Name}
use Rattle.vlsi_base.specs.declared.expression.Operator.TheVariants as operator
use Rattle.vlsi_base.specs.Tree.{Tree, bit, name, stable, inverse, binary}
use Rattle.bool_expr.specs.declared.expr.Gate.TheVariants as gate
use Rattle.bool_expr.specs.Expression.{Expression, constant, variable, inverse as not_of, pair, choice, IsOver}
use Rattle.source_checks.specs.declared.symbol_table.Symbol.{Symbol}
use Rattle.source_checks.specs.Symbols.{find}
use Rattle.source_checks.specs.Places.{reads}
use Rattle.source_checks.specs.Formula.{Formula, formulas, first_bit}
use Rattle.source_checks.specs.Widths.{if_not, differ, found_width, joined_width, width, width_faults}
use Rattle.source_checks.specs.Unsupported.{literal_faults}
use Rattle.source_checks.specs.Clock.{conjuncts, may_clock, steady_name, steady_names, is_name, conditions_among, clocks_among, is_single, clock_lines, none_reads, clock_of_parts, clock_of, all_of, condition_bits, enable_of}
use Rattle.vbe_print.specs.Expressions.{name_of}
use Rattle.vbe_print.specs.Placed.{placed_bit, tree, rises, placed_guard}
use Rattle.vbe_laws.proofs.Plain.{AreUsed, used_both, IsPlain, nothing}
use Rattle.vbe_laws.proofs.Formulas.{formula_of, AreReadable, plain_tree}

-- ---- conditions

-- a part of a guard that is neither the clock nor turns its `stable` round, and reads neither
pub record IsPart (known : List Symbol) (text : List ℕ) (t : Tree) (f : Formula) : Type 0 where
  pub steady : steady_name t ≡ None
  pub other : is_name text t ≡ false
  pub lines : clock_lines (Some text) t ≡ []
  pub bits : first_bit (formulas known t) ≡ f

abbrev pub AreParts : List Symbol → List ℕ → List Tree → List Formula → Type 0
AreParts known text [] [] = Unit {0}
AreParts known text [] (f ∷ fs) = ⊥
AreParts known text (t ∷ ts) [] = ⊥
AreParts known text (t ∷ ts) (f ∷ fs) = IsPart known text t f × AreParts known text ts fs

parts_both : (known : List Symbol) (text : List ℕ) (ts us : List Tree) (fs gs : List Formula) → AreParts known text ts fs → AreParts known text us gs → AreParts known text (ts ++ us) (fs ++ gs)
parts_both known text [] us [] gs a b = b
parts_both known text [] us (f ∷ fs) gs a b = absurd a
parts_both known text (t ∷ ts) us [] gs a b = absurd a
parts_both known text (t ∷ ts) us (f ∷ fs) gs a b = (a.0, parts_both known text ts us fs gs a.1 b)

no_steady : (ts : List Tree) (known : List Symbol) (text : List ℕ) (fs : List Formula) → AreParts known text ts fs → steady_names ts ≡ []
no_steady [] known text fs a = refl
no_steady (t ∷ ts) known text [] a = absurd a
no_steady (t ∷ ts) known text (f ∷ fs) a = rw (a.0.steady) (no_steady ts known text fs a.1)

no_clock : (ts : List Tree) (known : List Symbol) (text : List ℕ) (fs : List Formula) → AreParts known text ts fs → clocks_among text ts ≡ []
no_clock [] known text fs a = refl
no_clock (t ∷ ts) known text [] a = absurd a
no_clock (t ∷ ts) known text (f ∷ fs) a = ap (λ b. cond b (t ∷ clocks_among text ts) (clocks_among text ts)) a.0.other ∙ no_clock ts known text fs a.1

all_conditions : (ts : List Tree) (known : List Symbol) (text : List ℕ) (fs : List Formula) → AreParts known text ts fs → conditions_among text ts ≡ ts
all_conditions [] known text fs a = refl
all_conditions (t ∷ ts) known text [] a = absurd a
all_conditions (t ∷ ts) known text (f ∷ fs) a =
    ap (λ b. cond (b || not (is_none (steady_name t))) (conditions_among text ts) (t ∷ conditions_among text ts)) a.0.other
    ∙ ap (λ (o : Option (List ℕ)). cond (not (is_none o)) (conditions_among text ts) (t ∷ conditions_among text ts)) a.0.steady
    ∙ ap (λ (us : List Tree). t ∷ us) (all_conditions ts known text fs a.1)

none_read : (ts : List Tree) (known : List Symbol) (text : List ℕ) (fs : List Formula) → AreParts known text ts fs → none_reads (Some text) ts ≡ true
none_read [] known text fs a = refl
none_read (t ∷ ts) known text [] a = absurd a
none_read (t ∷ ts) known text (f ∷ fs) a = rw (a.0.lines) (none_read ts known text fs a.1)

all_bits : (ts : List Tree) (known : List Symbol) (text : List ℕ) (fs : List Formula) → AreParts known text ts fs → condition_bits known ts ≡ fs
all_bits [] known text [] a = refl
all_bits [] known text (f ∷ fs) a = absurd a
all_bits (t ∷ ts) known text [] a = absurd a
all_bits (t ∷ ts) known text (f ∷ fs) a = ap (λ (x : Formula). x ∷ condition_bits known ts) a.0.bits ∙ ap (λ (xs : List Formula). f ∷ xs) (all_bits ts known text fs a.1)

-- ---- of an expression

not_steady : (vars : List Name) (outer line : ℕ) (e : Expression) → steady_name (inverse outer (tree vars line e)) ≡ None
not_steady vars outer line (constant b) = refl
not_steady vars outer line (variable k) = by (name_of vars k).bit where
  by : (b : Option ℕ) → steady_name (inverse outer (placed_bit (name_of vars k).text line b)) ≡ None
  by None = refl
  by (Some j) = refl
not_steady vars outer line (not_of e) = refl
not_steady vars outer line (pair g a b) = refl
not_steady vars outer line (choice c a b) = refl

steady_tree : (vars : List Name) (line : ℕ) (e : Expression) → steady_name (tree vars line e) ≡ None
steady_tree vars line (constant b) = refl
steady_tree vars line (variable k) = by (name_of vars k).bit where
  by : (b : Option ℕ) → steady_name (placed_bit (name_of vars k).text line b) ≡ None
  by None = refl
  by (Some j) = refl
steady_tree vars line (not_of e) = not_steady vars line line e
steady_tree vars line (pair g a b) = refl
steady_tree vars line (choice c a b) = refl

other_text : (t text : List ℕ) (line : ℕ) → clock_lines (Some text) (name t line) ≡ [] → bytes_eq t text ≡ false
other_text t text line none = by (bytes_eq t text) refl where
  by : (b : Bool) → bytes_eq t text ≡ b → bytes_eq t text ≡ false
  by false e = e
  by true e =
      let same : text ≡ t = sym ((bytes_eq-Decides t text).0 e) in
      let yes : bytes_eq text t ≡ true = (bytes_eq-Decides text t).1 same in
      let one : line ∷ [] ≡ [] = sym (ap (λ b. if_not (not b) line) yes) ∙ none in absurd cc

other_tree : (known : List Symbol) (text : List ℕ) (vars : List Name) → AreReadable known (Some text) vars → (line : ℕ) (e : Expression) → IsOver e (length vars) → is_name text (tree vars line e) ≡ false
other_tree known text vars all line (constant b) over = refl
other_tree known text vars all line (variable k) over = by (name_of vars k).bit where
  by : (b : Option ℕ) → is_name text (placed_bit (name_of vars k).text line b) ≡ false
  by None = other_text (name_of vars k).text text line ((all k over).other line)
  by (Some j) = refl
other_tree known text vars all line (not_of e) over = refl
other_tree known text vars all line (pair gate.And a b) over = refl
other_tree known text vars all line (pair gate.Or a b) over = refl
other_tree known text vars all line (pair gate.Nand a b) over = refl
other_tree known text vars all line (pair gate.Nor a b) over = refl
other_tree known text vars all line (pair gate.Xor a b) over = refl
other_tree known text vars all line (pair gate.Xnor a b) over = refl
other_tree known text vars all line (choice c a b) over = refl

one_part : (known : List Symbol) (text : List ℕ) (vars : List Name) → AreReadable known (Some text) vars → (line : ℕ) (e : Expression) → IsOver e (length vars) → IsPart known text (tree vars line e) (formula_of vars e)
one_part known text vars all line e over =
    let p = plain_tree known (Some text) vars all e over line in
    record { steady = steady_tree vars line e; other = other_tree known text vars all line e over; lines = p.clocks; bits = ap first_bit p.bits }

-- what is joined by `and` in the expression
abbrev pub conditions_of : List Name → Expression → List Formula
conditions_of vars (pair gate.And a b) = conditions_of vars a ++ conditions_of vars b
conditions_of vars e = formula_of vars e ∷ []

conjuncts_name : (text : List ℕ) (line : ℕ) (b : Option ℕ) → conjuncts (placed_bit text line b) ≡ placed_bit text line b ∷ []
conjuncts_name text line None = refl
conjuncts_name text line (Some k) = refl

parts_tree : (known : List Symbol) (text : List ℕ) (vars : List Name) → AreReadable known (Some text) vars → (line : ℕ) (e : Expression) → IsOver e (length vars) → AreParts known text (conjuncts (tree vars line e)) (conditions_of vars e)
parts_tree known text vars all line (constant b) over = (one_part known text vars all line (constant b) over, tt)
parts_tree known text vars all line (variable k) over =
    subst (λ (ts : List Tree). AreParts known text ts (formula_of vars (variable k) ∷ [])) (sym (conjuncts_name (name_of vars k).text line (name_of vars k).bit)) (one_part known text vars all line (variable k) over, tt)
parts_tree known text vars all line (not_of e) over = (one_part known text vars all line (not_of e) over, tt)
parts_tree known text vars all line (pair gate.And a b) over =
    parts_both known text (conjuncts (tree vars line a)) (conjuncts (tree vars line b)) (conditions_of vars a) (conditions_of vars b) (parts_tree known text vars all line a over.0) (parts_tree known text vars all line b over.1)
parts_tree known text vars all line (pair gate.Or a b) over = (one_part known text vars all line (pair gate.Or a b) over, tt)
parts_tree known text vars all line (pair gate.Nand a b) over = (one_part known text vars all line (pair gate.Nand a b) over, tt)
parts_tree known text vars all line (pair gate.Nor a b) over = (one_part known text vars all line (pair gate.Nor a b) over, tt)
parts_tree known text vars all line (pair gate.Xor a b) over = (one_part known text vars all line (pair gate.Xor a b) over, tt)
parts_tree known text vars all line (pair gate.Xnor a b) over = (one_part known text vars all line (pair gate.Xnor a b) over, tt)
parts_tree known text vars all line (choice c a b) over = (one_part known text vars all line (choice c a b) over, tt)

-- ---- the guard

-- the clock is an input of one bit, and no supply
pub record IsClock (known : List Symbol) (text : List ℕ) : Type 0 where
  pub symbol : Symbol
  pub found : find known text ≡ Some symbol
  pub scalar : symbol.range ≡ None
  pub clocks : may_clock (find known text) ≡ true

-- the formulas of a guard's conditions: none where the enable is always 1
abbrev pub enables_of : List Name → Expression → List Formula
enables_of vars (constant true) = []
enables_of vars e = conditions_of vars e

-- the guard without a fault, which names the clock and adds this formula
pub record IsGuard (known : List Symbol) (text : List ℕ) (g : Tree) (f : Formula) : Type 0 where
  pub faults : width_faults known g ≡ []
  pub forms : literal_faults g ≡ []
  pub uses : AreUsed known (reads g)
  pub clock : clock_of known g ≡ Some text
  pub enable : enable_of known text g ≡ f

itself : (x : List ℕ) → bytes_eq x x ≡ true
itself x = (bytes_eq-Decides x x).1 refl

-- of the parts of the rise and these conditions
found_clock : (known : List Symbol) (text : List ℕ) (line : ℕ) (ts : List Tree) (fs : List Formula) → IsClock known text → AreParts known text ts fs
    → clock_of_parts known (name text line ∷ inverse line (stable text line) ∷ ts) (steady_names (name text line ∷ inverse line (stable text line) ∷ ts)) ≡ Some text
found_clock known text line ts fs c a =
    let parts : List Tree = name text line ∷ inverse line (stable text line) ∷ ts in
    let steady : steady_names parts ≡ text ∷ [] = ap (λ (xs : List (List ℕ)). text ∷ xs) (no_steady ts known text fs a) in
    let clocks : clocks_among text parts ≡ name text line ∷ [] =
    ap (λ b. cond b (name text line ∷ clocks_among text ts) (clocks_among text ts)) (itself text) ∙ ap (λ (us : List Tree). name text line ∷ us) (no_clock ts known text fs a) in
    let rest : conditions_among text parts ≡ ts =
    ap (λ b. cond (b || not (is_none (steady_name (name text line)))) (conditions_among text ts) (name text line ∷ conditions_among text ts)) (itself text) ∙ all_conditions ts known text fs a in
    ap (clock_of_parts known parts) steady
    ∙ ap (λ b. cond (b && (is_single (clocks_among text parts) && none_reads (Some text) (conditions_among text parts))) (Some text) None) c.clocks
    ∙ ap (λ (us : List Tree). cond (is_single us && none_reads (Some text) (conditions_among text parts)) (Some text) None) clocks
    ∙ ap (λ (us : List Tree). cond (none_reads (Some text) us) (Some text) None) rest
    ∙ ap (λ b. cond b (Some text) None) (none_read ts known text fs a)

added : (known : List Symbol) (text : List ℕ) (line : ℕ) (ts : List Tree) (fs : List Formula) → AreParts known text ts fs
    → all_of (condition_bits known (conditions_among text (name text line ∷ inverse line (stable text line) ∷ ts))) ≡ all_of fs
added known text line ts fs a =
    ap (λ b. all_of (condition_bits known (cond (b || not (is_none (steady_name (name text line)))) (conditions_among text ts) (name text line ∷ conditions_among text ts)))) (itself text)
    ∙ ap (λ (us : List Tree). all_of (condition_bits known us)) (all_conditions ts known text fs a)
    ∙ ap all_of (all_bits ts known text fs a)

clock_width : (known : List Symbol) (text : List ℕ) (line : ℕ) → IsClock known text → width known (name text line) ≡ Some 1
clock_width known text line c =
    ap (λ (o : Option Symbol). Some (found_width o)) c.found ∙ by c.symbol c.scalar where
      by : (s : Symbol) → s.range ≡ None → Some (found_width (Some s)) ≡ Some 1
      by s e = rw e refl

-- two widths of one bit
one_each : {A : Type 0} (of : Option ℕ → Option ℕ → A) (a b : Option ℕ) → a ≡ Some 1 → b ≡ Some 1 → of a b ≡ of (Some 1) (Some 1)
one_each of a b e f = ap (λ (o : Option ℕ). of o b) e ∙ ap (λ (o : Option ℕ). of (Some 1) o) f

-- a part joined by `and` behind another, where both are one bit wide and have no faults
and_width : (known : List Symbol) (line : ℕ) (a b : Tree) → width known a ≡ Some 1 → width known b ≡ Some 1 → width known (binary operator.And line a b) ≡ Some 1
and_width known line a b e f = one_each (joined_width operator.And) (width known a) (width known b) e f

and_faults : (known : List Symbol) (line : ℕ) (a b : Tree) → width known a ≡ Some 1 → width known b ≡ Some 1 → width_faults known a ≡ [] → width_faults known b ≡ [] → width_faults known (binary operator.And line a b) ≡ []
and_faults known line a b e f p q =
    nothing (width_faults known a) (if_not (not (differ (width known a) (width known b))) line ++ width_faults known b) p
    (nothing (if_not (not (differ (width known a) (width known b))) line) (width_faults known b) (one_each (λ x y. if_not (not (differ x y)) line) (width known a) (width known b) e f) q)

-- what stands beside the relation with '1'
pub record IsRise (known : List Symbol) (text : List ℕ) (t : Tree) : Type 0 where
  pub width : width known t ≡ Some 1
  pub faults : width_faults known t ≡ []
  pub forms : literal_faults t ≡ []
  pub uses : AreUsed known (reads t)

rise_is : (known : List Symbol) (clock : Name) (line : ℕ) → IsClock known clock.text → IsRise known clock.text (rises line clock)
rise_is known clock line c =
    let w = clock_width known clock.text line c in
    let u : is_none (find known clock.text) ≡ false = ap is_none c.found in
    record {
      width = and_width known line (name clock.text line) (inverse line (stable clock.text line)) w refl;
      faults = and_faults known line (name clock.text line) (inverse line (stable clock.text line)) w refl refl refl;
      forms = refl;
      uses = (u, (u, tt));
    }

rise_and : (known : List Symbol) (clock : Name) (line : ℕ) (t : Tree) (f : Formula) → IsClock known clock.text → IsPlain known (Some clock.text) t f → IsRise known clock.text (binary operator.And line (rises line clock) t)
rise_and known clock line t f c p =
    let r = rise_is known clock line c in
    record {
      width = and_width known line (rises line clock) t r.width p.width;
      faults = and_faults known line (rises line clock) t r.width p.width r.faults p.faults;
      forms = nothing (literal_faults (rises line clock)) (literal_faults t) r.forms p.forms;
      uses = used_both known (reads (rises line clock)) (reads t) r.uses p.uses;
    }

-- `= '1'` behind it
closed : (known : List Symbol) (text : List ℕ) (line : ℕ) (t : Tree) (ts : List Tree) (fs : List Formula) → IsClock known text → IsRise known text t → conjuncts t ≡ name text line ∷ inverse line (stable text line) ∷ ts → AreParts known text ts fs
    → IsGuard known text (binary operator.Equal line t (bit true line)) (all_of fs)
closed known text line t ts fs c r parts a = record {
  faults =
      nothing (width_faults known t) (if_not (not (differ (width known t) (Some 1))) line ++ []) r.faults
      (nothing (if_not (not (differ (width known t) (Some 1))) line) [] (ap (λ (o : Option ℕ). if_not (not (differ o (Some 1))) line) r.width) refl);
  forms = nothing (literal_faults t) [] r.forms refl;
  uses = used_both known (reads t) [] r.uses tt;
  clock = ap (λ (us : List Tree). clock_of_parts known us (steady_names us)) parts ∙ found_clock known text line ts fs c a;
  enable = ap (λ (us : List Tree). all_of (condition_bits known (conditions_among text us))) parts ∙ added known text line ts fs a;
}

-- with a condition beside the rise
beside : (known : List Symbol) (clock : Name) (vars : List Name) → IsClock known clock.text → AreReadable known (Some clock.text) vars → (e : Expression) → IsOver e (length vars) → (line : ℕ)
    → IsGuard known clock.text (binary operator.Equal line (binary operator.And line (rises line clock) (tree vars line e)) (bit true line)) (all_of (conditions_of vars e))
beside known clock vars c all e over line =
    closed known clock.text line (binary operator.And line (rises line clock) (tree vars line e)) (conjuncts (tree vars line e)) (conditions_of vars e) c
    (rise_and known clock line (tree vars line e) (formula_of vars e) c (plain_tree known (Some clock.text) vars all e over line)) refl (parts_tree known clock.text vars all line e over)

pub is_guard : (known : List Symbol) (clock : Name) (vars : List Name) → IsClock known clock.text → AreReadable known (Some clock.text) vars → (e : Expression) → IsOver e (length vars) → (line : ℕ)
    → IsGuard known clock.text (placed_guard vars line clock e) (all_of (enables_of vars e))
is_guard known clock vars c all (constant true) over line = closed known clock.text line (rises line clock) [] [] c (rise_is known clock line c) refl tt
is_guard known clock vars c all (constant false) over line = beside known clock vars c all (constant false) over line
is_guard known clock vars c all (variable k) over line = beside known clock vars c all (variable k) over line
is_guard known clock vars c all (not_of e) over line = beside known clock vars c all (not_of e) over line
is_guard known clock vars c all (pair g a b) over line = beside known clock vars c all (pair g a b) over line
is_guard known clock vars c all (choice i a b) over line = beside known clock vars c all (choice i a b) over line
