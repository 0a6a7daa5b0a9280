use Rattle.std.proofs.Common.{List, Option, ℕ, sym, subst}
use Rattle.cell_checks.specs.Nodes.{AreReachedAt}
use Rattle.cell_checks.proofs.SharedColumns.{place_is_shared, none_is_shared}
use Rattle.cell_checks.proofs.columns.shared_place.Goals as goal

pub returns-clause-shared : goal.returns-clause-shared
returns-clause-shared c =
    place_is_shared c.args.cell.now c.deref.result.now (subst (λ (xs : List (Option ℕ)). AreReachedAt c.args.cell.now xs) (sym c.deref.ensures.value) c.in_ok-columns.ensures)
    c.repeated.result c.repeated.ensures.some

pub returns-clause-none : goal.returns-clause-none
returns-clause-none c =
    none_is_shared c.args.cell.now c.deref.result.now (subst (λ (xs : List (Option ℕ)). AreReachedAt c.args.cell.now xs) (sym c.deref.ensures.value) c.in_ok-columns.ensures)
    c.repeated.result c.repeated.ensures.none
