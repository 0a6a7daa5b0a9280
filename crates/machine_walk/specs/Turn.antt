-- One turn of a walk: what an expression leaves to be walked through, and what a name does.
use Rattle.std.specs.Prelude.{◌≡◌, ℕ, ◌+◌, ◌<◌, true, false, List, [], ◌∷◌, ◌++◌, map, slice_get, slice_set, Some}
use Rattle.std.specs.Borrow.{Bor}
use Rattle.bool_expr.specs.declared.expr.Expr.{Expr}
use Rattle.bool_expr.specs.Expression.{Expression, constant, variable, inverse, pair, choice, bit}
use Rattle.bool_expr.specs.View.{view}
use Rattle.machine_core.specs.Machine.{Machine, Equation}
use Rattle.machine_walk.specs.declared.walking.WalkedNames.{WalkedNames}
use Rattle.machine_walk.specs.Expansion.{held_count}

-- the expressions that are still to be walked through, the next at the end
abbrev pub views : List (Bor Expr) → List Expression
views waiting = map (λ e. view e.now) waiting

-- the operands of an operator, the last first
abbrev pub operands : Expression → List Expression
operands (constant b) = []
operands (variable k) = []
operands (inverse e) = e ∷ []
operands (pair g a b) = b ∷ a ∷ []
operands (choice c a b) = b ∷ a ∷ c ∷ []

-- Name k comes next. A second time it does nothing. The first time it is marked; an input or register is then the last in the order,
-- and of an inner signal the equation is what the walk goes on with.
pub data IsMeeting (m : Machine) (k : ℕ) (old new : WalkedNames) (waiting then : List Expression) : Type 0 where
  again : bit old.met.items k ≡ true → new ≡ old → then ≡ waiting → IsMeeting m k old new waiting then
  held : bit old.met.items k ≡ false → k < held_count m → new.met.items ≡ slice_set old.met.items k true
      → new.order.items ≡ old.order.items ++ k ∷ [] → then ≡ waiting → IsMeeting m k old new waiting then
  inner : (n : ℕ) (x : Equation) → k ≡ held_count m + n → slice_get m.equations n ≡ Some x → bit old.met.items k ≡ false
      → new.met.items ≡ slice_set old.met.items k true → new.order.items ≡ old.order.items → then ≡ waiting ++ x.expr ∷ []
      → IsMeeting m k old new waiting then
