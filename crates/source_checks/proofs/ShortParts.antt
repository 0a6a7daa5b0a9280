-- Where all expressions of a list are short, so are those of each of its items.
use native.Mathlib.Omega.{arith}
use Rattle.std.proofs.Common.{◌≡◌, ℕ, zero, suc, ◌<◌, List, [], ◌∷◌, length, get_or, sym, subst}
use Rattle.vlsi_base.specs.Tree.{view}
use Rattle.source_checks.specs.declared.statement.Guarded.{Guarded}
use Rattle.source_checks.specs.declared.statement.Assignment.{Assignment}
use Rattle.source_checks.specs.declared.statement.Statement.{Statement}
use Rattle.source_checks.specs.Operators.{IsShort, ShortAlternatives, ShortChoice, ShortAssignments, ShortStatement, ShortStatements}

-- what holds of all items holds of each
at_index : {X : Type 0} (Holds : X → Type 0) (ForAll : List X → Type 0) → ((x : X) (xs : List X) → ForAll (x ∷ xs) → Holds x × ForAll xs)
    → (xs : List X) (i : ℕ) (x : X) → i < length xs → x ≡ get_or xs i x → ForAll xs → Holds x
at_index Holds ForAll parts [] i x within is all = absurd (omega arith)
at_index Holds ForAll parts (y ∷ xs) zero x within is all = subst Holds (sym is) (parts y xs all).0
at_index Holds ForAll parts (y ∷ xs) (suc i) x within is all = at_index Holds ForAll parts xs i x (omega arith) is (parts y xs all).1

pub alternative_short : (gs : List Guarded) (i : ℕ) (g : Guarded) → i < length gs → g ≡ get_or gs i g → ShortAlternatives gs → IsShort (view g.value) × IsShort (view g.condition)
alternative_short = at_index (λ (g : Guarded). IsShort (view g.value) × IsShort (view g.condition)) ShortAlternatives (λ g gs all. all)

pub assignment_short : (xs : List Assignment) (i : ℕ) (a : Assignment) → i < length xs → a ≡ get_or xs i a → ShortAssignments xs → ShortChoice a.choice
assignment_short = at_index (λ (a : Assignment). ShortChoice a.choice) ShortAssignments (λ a xs all. all)

pub statement_short : (xs : List Statement) (i : ℕ) (s : Statement) → i < length xs → s ≡ get_or xs i s → ShortStatements xs → ShortStatement s
statement_short = at_index ShortStatement ShortStatements (λ s xs all. all)
