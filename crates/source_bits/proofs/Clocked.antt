-- Statements in which no line is at fault for the clock: each guard has it.
use Rattle.std.proofs.Common.{◌≡◌, ℕ, zero, suc, ◌<◌, Bool, true, false, List, [], ◌∷◌, ◌++◌, get_or, length, Option, Some, None, refl, sym, ap, ◌∙◌, arith}
use Rattle.vlsi_base.specs.Tree.{view}
use Rattle.source_checks.specs.declared.statement.BlockStatement.{BlockStatement}
use Rattle.source_checks.specs.declared.statement.Statement.{Statement}
use Rattle.source_checks.specs.declared.statement.Statement.TheVariants as statement
use Rattle.source_checks.specs.declared.symbol_table.Symbol.{Symbol}
use Rattle.source_checks.specs.Places.{in_statements, in_assignments}
use Rattle.source_checks.specs.Widths.{if_not}
use Rattle.source_checks.specs.Clock.{parts_of, steady_names, clock_of, is_same_clock, assignment_clock_lines, statement_clock_lines}
use Rattle.source_checks.proofs.Lookups.{same_of}
use Rattle.source_clock.proofs.Steady.{steady_of_clock}

empty_left : (xs ys : List ℕ) → xs ++ ys ≡ [] → xs ≡ []
empty_left [] ys e = refl
empty_left (x ∷ xs) ys e = absurd cc

empty_right : (xs ys : List ℕ) → xs ++ ys ≡ [] → ys ≡ []
empty_right [] ys e = e
empty_right (x ∷ xs) ys e = absurd cc

no_line : (b : Bool) (line : ℕ) → if_not b line ≡ [] → b ≡ true
no_line true line e = refl
no_line false line e = absurd cc

same_clock : (clock : List ℕ) (o : Option (List ℕ)) → is_same_clock (Some clock) o ≡ true → o ≡ Some clock
same_clock clock None e = absurd cc
same_clock clock (Some text) e = ap Some (sym (same_of clock text e))

-- a block's guard turns the clock's `stable` round
pub steady_block : (known : List Symbol) (clock : List ℕ) (b : BlockStatement) → statement_clock_lines known (Some clock) (statement.Block b) ≡ [] → steady_names (parts_of (view b.guard)) ≡ clock ∷ []
steady_block known clock b e =
    let guard = view b.guard in
    let same = is_same_clock (Some clock) (clock_of known guard) in
    steady_of_clock known guard clock (same_clock clock (clock_of known guard) (no_line same b.line (empty_left (if_not same b.line) (in_assignments (assignment_clock_lines (Some clock)) b.assignments) e)))

-- where a look at statements finds nothing, it finds nothing in any of them
pub nothing_in : (look : Statement → List ℕ) (ss : List Statement) (i : ℕ) (s : Statement) → in_statements look ss ≡ [] → i < length ss → s ≡ get_or ss i s → look s ≡ []
nothing_in look [] i s e within is = absurd (omega arith)
nothing_in look (x ∷ ss) zero s e within is = ap look is ∙ empty_left (look x) (in_statements look ss) e
nothing_in look (x ∷ ss) (suc i) s e within is = nothing_in look ss i s (empty_right (look x) (in_statements look ss) e) (omega arith) is
