-- Over other numbers, statements have as many signals, and expressions are those with each variable replaced.
use Rattle.std.proofs.Common.{◌≡◌, ℕ, zero, suc, ◌<◌, List, [], ◌∷◌, map, length, false, refl, ap, arith}
use Rattle.std.specs.List.{slice_index_or}
use Rattle.std.specs.Prelude.{slice_index}
use Rattle.bool_expr.specs.Expression.{Expression, constant, variable, inverse, pair, choice, IsOver}
use Rattle.bool_expr.specs.Renumbering.{renumbered}
use Rattle.fsm_machine.specs.Statements.{Statements, finish, assign, choose, select, Parts, only, either, further, Branches, closed, others, listed}
use Rattle.fsm_machine.specs.Moved.{substituted, moved, moved_parts, moved_branches}
use Rattle.fsm_machine.specs.Signals.{signals, part_signals, branch_signals}

mutual
  pub signals_moved : (es : List Expression) (body : Statements) → signals (moved es body) ≡ signals body
  signals_moved es finish = refl
  signals_moved es (assign a rest) = signals_moved es rest
  signals_moved es (choose parts rest) = let a = parts_moved es parts in let b = signals_moved es rest in omega arith
  signals_moved es (select branches rest) = let a = branches_moved es branches in let b = signals_moved es rest in omega arith

  pub parts_moved : (es : List Expression) (parts : Parts) → part_signals (moved_parts es parts) ≡ part_signals parts
  parts_moved es (only c a) = let x = signals_moved es a in omega arith
  parts_moved es (either c a b) = let x = signals_moved es a in let y = signals_moved es b in omega arith
  parts_moved es (further c a more) = let x = signals_moved es a in let y = parts_moved es more in omega arith

  pub branches_moved : (es : List Expression) (branches : Branches) → branch_signals (moved_branches es branches) ≡ branch_signals branches
  branches_moved es closed = refl
  branches_moved es (others a) = let x = signals_moved es a in omega arith
  branches_moved es (listed here a more) = let x = signals_moved es a in let y = branches_moved es more in omega arith

numbered_at : (numbers : List ℕ) (k : ℕ) → k < length numbers → slice_index_or (map variable numbers) k (constant false) ≡ variable (slice_index numbers k)
numbered_at [] k l = absurd (omega arith)
numbered_at (n ∷ numbers) zero l = refl
numbered_at (n ∷ numbers) (suc k) l = numbered_at numbers k (omega arith)

pub renumbered_is : (numbers : List ℕ) (e : Expression) → IsOver e (length numbers) → substituted (map variable numbers) e ≡ renumbered numbers e
renumbered_is numbers (constant b) over = refl
renumbered_is numbers (variable k) over = numbered_at numbers k over
renumbered_is numbers (inverse e) over = ap inverse (renumbered_is numbers e over)
renumbered_is numbers (pair g a b) over = rw (renumbered_is numbers a over.0, renumbered_is numbers b over.1) refl
renumbered_is numbers (choice c a b) over = rw (renumbered_is numbers c over.0, renumbered_is numbers a over.1.0, renumbered_is numbers b over.1.1) refl
