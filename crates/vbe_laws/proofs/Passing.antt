-- The text of a machine passes all checks, and what it defines and stores is the machine's equations and registers.
use Rattle.std.proofs.Common.{◌≡◌, ℕ, ◌+◌, true, false, List, [], ◌∷◌, ◌++◌, map, length, Option, None, Some, refl, sym, subst, arith}
use Rattle.std.specs.Prelude.{option_map}
use Rattle.std.specs.List.{All}
use Rattle.std.proofs.lemmas.List.Elements.{All-head, All-tail}
use Rattle.vlsi_base.specs.declared.name.Name.{Name}
use Rattle.vlsi_base.specs.Member.{In, here, there}
use Rattle.bool_expr.specs.Expression.{constant, IsOver}
use Rattle.machine_core.specs.Machine.{Machine, Equation, Register, register_names}
use Rattle.source_checks.specs.declared.symbol_table.Symbol.{Symbol}
use Rattle.source_checks.specs.Clock.{first_text, all_of}
use Rattle.source_checks.specs.Elaboration.{Storage}
use Rattle.vbe_text.specs.Source.{StatementTree}
use Rattle.vbe_print.specs.Written.{equation_layout, block_layout, loading_layout, written_names, written_vars}
use Rattle.vbe_print.proofs.Naming.{as_many_written, as_many_vars}
use Rattle.spell_theory.specs.Layout.{line_behind, line_of}
use Rattle.vbe_print.specs.Placed.{placed_assignment, placed_guard, placed_equations, placed_blocks, placed_clocked, placed_storage}
use Rattle.vbe_print.proofs.Machines.{equations_over}
use Rattle.vbe_laws.proofs.Formulas.{value_formula, AreReadable, IsDriven, is_assigned}
use Rattle.vbe_laws.proofs.Guards.{IsClock, enables_of, is_guard}
use Rattle.vbe_laws.proofs.Rings.{definitions_of}
use Rattle.vbe_laws.proofs.Copies.{stored_as}
use Rattle.vbe_laws.proofs.Stated.{AreStated, stated_none, stated_equation, stated_empty, stated_register}
use Rattle.vbe_laws.proofs.Named.{IsGiven, clock_of_text, known, readable, written_driven, register_driven, clock_declared}

-- ---- equations

abbrev IsOverAll : ℕ → Equation → Type 0
IsOverAll n e = IsOver e.expr n

stated_equations : (known : List Symbol) (ck : Option (List ℕ)) (vars : List Name) → AreReadable known ck vars → (names : List Name) (es : List Equation) (line : ℕ) (ss : List StatementTree) (rs : List Storage) (ns : List Name) (cs : List (List ℕ))
    → length names ≡ length es → ((n : Name) → In n names → IsDriven known false n) → All (λ e. IsOver e.expr (length vars)) es → AreStated known ck ss [] rs ns cs
    → AreStated known ck (placed_equations vars line names es ++ ss) (definitions_of vars names es) rs (names ++ ns) cs
stated_equations known ck vars all [] es line ss rs ns cs each driven over back = back
stated_equations known ck vars all (n ∷ names) [] line ss rs ns cs each driven over back = absurd (omega (arith, each))
stated_equations known ck vars all (n ∷ names) (e ∷ es) line ss rs ns cs each driven over back =
    let l = line_of line (equation_layout vars n e.expr) in
    stated_equation known ck (placed_assignment vars line n e.expr) n (value_formula vars e.expr) (placed_equations vars l names es ++ ss) (definitions_of vars names es) rs (names ++ ns) cs
    (is_assigned known ck false vars all n e.expr (driven n here) (All-head (IsOverAll (length vars)) e es over) line)
    (stated_equations known ck vars all names es l ss rs ns cs (omega (arith, each)) (λ x h. driven x (there h)) (All-tail (IsOverAll (length vars)) e es over) back)

-- ---- blocks

abbrev LoadsOver : ℕ → Register → Type 0
LoadsOver n r = IsOver r.next n × IsOver r.enable n

-- the clock's name once for each block
abbrev pub clock_each : List ℕ → List Register → List (List ℕ)
clock_each text rs = map (λ r. text) rs

stated_blocks : (known : List Symbol) (clock : Name) (vars : List Name) → IsClock known clock.text → AreReadable known (Some clock.text) vars → (k line : ℕ) (rs : List Register)
    → ((n : Name) → In n (map (λ r. r.name) rs) → IsDriven known true n) → All (λ r. IsOver r.next (length vars) × IsOver r.enable (length vars)) rs
    → AreStated known (Some clock.text) (placed_blocks vars line clock k rs) [] (map (stored_as vars) rs) (map (λ r. r.name) rs) (clock_each clock.text rs)
stated_blocks known clock vars c all k line [] driven over = stated_none known (Some clock.text)
stated_blocks known clock vars c all k line (r ∷ rs) driven over =
    let o = All-head (LoadsOver (length vars)) r rs over in
    let inside = line_behind (line_behind line) in
    let l = line_of line (block_layout vars clock k r.enable (loading_layout vars r)) in
    stated_register known clock.text (placed_guard vars line clock r.enable) (all_of (enables_of vars r.enable)) line (placed_assignment vars inside r.name r.next) r.name (value_formula vars r.next)
    (placed_blocks vars l clock (k + 1) rs) [] (map (stored_as vars) rs) (map (λ r. r.name) rs) (clock_each clock.text rs)
    (is_guard known clock vars c all r.enable o.1 line) (is_assigned known (Some clock.text) true vars all r.name r.next (driven r.name here) o.0 inside)
    (stated_blocks known clock vars c all (k + 1) l rs (λ n h. driven n (there h)) (All-tail (LoadsOver (length vars)) r rs over))

-- what a machine's storage comes to, and that its blocks name its clock
pub record Stores (known : List Symbol) (ck : Option (List ℕ)) (ss : List StatementTree) (rs : List Storage) (ns : List Name) : Type 0 where
  pub clocks : List (List ℕ)
  pub first : first_text clocks ≡ ck
  pub stated : AreStated known ck ss [] rs ns clocks

stated_clocked : (known : List Symbol) (clock : Name) (vars : List Name) → IsClock known clock.text → AreReadable known (Some clock.text) vars → (line : ℕ) (rs : List Register)
    → ((n : Name) → In n (map (λ r. r.name) rs) → IsDriven known true n) → All (λ r. IsOver r.next (length vars) × IsOver r.enable (length vars)) rs
    → Stores known (Some clock.text) (placed_clocked vars line clock rs) (map (stored_as vars) rs) (map (λ r. r.name) rs)
stated_clocked known clock vars c all line [] driven over = record {
  clocks = clock.text ∷ [];
  first = refl;
  stated = stated_empty known clock.text (placed_guard vars line clock (constant true)) (all_of []) line (is_guard known clock vars c all (constant true) tt line);
}
stated_clocked known clock vars c all line (r ∷ rs) driven over = record {
  clocks = clock_each clock.text (r ∷ rs);
  first = refl;
  stated = stated_blocks known clock vars c all 0 line (r ∷ rs) driven over;
}

stated_storage : (known : List Symbol) (clock : Option Name) (vars : List Name) → ((c : Name) → clock ≡ Some c → IsClock known c.text) → AreReadable known (option_map (λ (n : Name). n.text) clock) vars → (line : ℕ) (rs : List Register)
    → (clock ≡ None → rs ≡ []) → ((n : Name) → In n (map (λ r. r.name) rs) → IsDriven known true n) → All (λ r. IsOver r.next (length vars) × IsOver r.enable (length vars)) rs
    → Stores known (option_map (λ (n : Name). n.text) clock) (placed_storage vars line clock rs) (map (stored_as vars) rs) (map (λ r. r.name) rs)
stated_storage known None vars c all line rs clocked driven over =
    subst (λ (xs : List Register). Stores known None [] (map (stored_as vars) xs) (map (λ r. r.name) xs)) (sym (clocked refl)) (record { clocks = []; first = refl; stated = stated_none known None })
stated_storage known (Some clock) vars c all line rs clocked driven over = stated_clocked known clock vars (c clock refl) all line rs driven over

-- ---- of a machine

pub machine_stated : (line d s begun blocks : ℕ) (m : Machine) → (given : IsGiven m)
    → Stores (known line d s m given) (clock_of_text line d s m given) (placed_storage (written_vars given.limits.stem m) blocks m.clock m.registers) (map (stored_as (written_vars given.limits.stem m)) m.registers) (register_names m)
machine_stated line d s begun blocks m given =
    let many = as_many_vars given.limits.stem m given.checked in
    stated_storage (known line d s m given) m.clock (written_vars given.limits.stem m) (clock_declared line d s m given) (readable line d s m given) blocks m.registers given.checked.clocked
    (register_driven line d s m given)
    (subst (λ k. All (λ r. IsOver r.next k × IsOver r.enable k) m.registers) (sym many) given.checked.loads)

pub all_stated : (line d s begun blocks : ℕ) (m : Machine) → (given : IsGiven m)
    → (t : Stores (known line d s m given) (clock_of_text line d s m given) (placed_storage (written_vars given.limits.stem m) blocks m.clock m.registers) (map (stored_as (written_vars given.limits.stem m)) m.registers) (register_names m))
    → AreStated (known line d s m given) (clock_of_text line d s m given)
    (placed_equations (written_vars given.limits.stem m) begun (written_names given.limits.stem m) m.equations ++ placed_storage (written_vars given.limits.stem m) blocks m.clock m.registers)
    (definitions_of (written_vars given.limits.stem m) (written_names given.limits.stem m) m.equations) (map (stored_as (written_vars given.limits.stem m)) m.registers) (written_names given.limits.stem m ++ register_names m) t.clocks
all_stated line d s begun blocks m given t =
    let many = as_many_vars given.limits.stem m given.checked in
    stated_equations (known line d s m given) (clock_of_text line d s m given) (written_vars given.limits.stem m) (readable line d s m given) (written_names given.limits.stem m) m.equations begun
    (placed_storage (written_vars given.limits.stem m) blocks m.clock m.registers) (map (stored_as (written_vars given.limits.stem m)) m.registers) (register_names m) t.clocks (as_many_written given.limits.stem m) (written_driven line d s m given)
    (subst (λ k. All (λ e. IsOver e.expr k) m.equations) (sym many) (equations_over m given.checked)) t.stated
