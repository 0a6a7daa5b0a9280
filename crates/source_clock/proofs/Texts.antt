-- Parts as trees, and the clock of a text in the lines at fault.
use Rattle.std.proofs.Common.{◌≡◌, ℕ, List, [], ◌∷◌, ◌++◌, map, Bor, Option, Result, Ok, Err, refl, ap, ◌∙◌}
use Rattle.std.specs.Prelude.{IfOk}
use Rattle.std.specs.declared.alloc.AllocError.{AllocError}
use Rattle.vlsi_base.specs.declared.expression.ParsedExpr.{ParsedExpr}
use Rattle.vlsi_base.specs.Tree.{Tree, view}
use Rattle.source_checks.specs.declared.statement.Statement.{Statement}
use Rattle.source_checks.specs.declared.statement.DesignFile.{DesignFile}
use Rattle.source_checks.specs.declared.symbol_table.Symbol.{Symbol}
use Rattle.source_checks.specs.Lines.{first_line}
use Rattle.source_checks.specs.Places.{in_statements}
use Rattle.source_checks.specs.Symbols.{symbols}
use Rattle.source_checks.specs.Clock.{first_text, statement_clocks, statement_clock_lines, clock_text, all_clock_lines}
use Rattle.source_checks.proofs.Turns.{or_first}

abbrev pub trees : List (Bor ParsedExpr) → List Tree
trees parts = map (λ (r : Bor ParsedExpr). view r.now) parts

pub first_text_append : (xs ys : List (List ℕ)) → first_text (xs ++ ys) ≡ or_first (first_text xs) (first_text ys)
first_text_append [] ys = refl
first_text_append (x ∷ xs) ys = refl

-- the statements of a text, its declared names and its clock
pub all_lines : (design : DesignFile) (known : List Symbol) (statements : List Statement) (ck : Option (List ℕ)) (o : Option ℕ) → known ≡ symbols design → statements ≡ design.statements
    → ck ≡ first_text (in_statements (statement_clocks known) statements) → o ≡ first_line (in_statements (statement_clock_lines known ck) statements) → o ≡ first_line (all_clock_lines design)
all_lines design known statements ck o names all is line =
    let clock : ck ≡ clock_text design = is ∙ ap (λ (k : List Symbol). first_text (in_statements (statement_clocks k) statements)) names
    ∙ ap (λ (ss : List Statement). first_text (in_statements (statement_clocks (symbols design)) ss)) all in
    line ∙ ap (λ (k : List Symbol). first_line (in_statements (statement_clock_lines k ck) statements)) names
    ∙ ap (λ (t : Option (List ℕ)). first_line (in_statements (statement_clock_lines (symbols design) t) statements)) clock
    ∙ ap (λ (ss : List Statement). first_line (in_statements (statement_clock_lines (symbols design) (clock_text design)) ss)) all

pub all_lines_in : (design : DesignFile) (known : List Symbol) (statements : List Statement) (ck : Option (List ℕ)) (r : Result (Option ℕ) AllocError) → known ≡ symbols design → statements ≡ design.statements
    → ck ≡ first_text (in_statements (statement_clocks known) statements) → IfOk r (λ o. o ≡ first_line (in_statements (statement_clock_lines known ck) statements)) → IfOk r (λ o. o ≡ first_line (all_clock_lines design))
all_lines_in design known statements ck (Ok o) names all is line = all_lines design known statements ck o names all is line
all_lines_in design known statements ck (Err e) names all is line = line
