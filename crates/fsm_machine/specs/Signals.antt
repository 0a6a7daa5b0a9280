-- The equations of a state machine, by the paths of its statements.
use Rattle.std.specs.Prelude.{ℕ, suc, ◌+◌, false, not, List, [], ◌∷◌, ◌++◌, filter, Option, None, Some}
use Rattle.bool_expr.specs.declared.expr.Gate.TheVariants.{And, Or}
use Rattle.bool_expr.specs.Expression.{Expression, constant, variable, inverse, pair, choice}
use Rattle.bool_expr.specs.Support.{among}
use Rattle.fsm_machine.specs.Statements.{Assignment, Statements, finish, assign, choose, select, Parts, only, either, further, Branches, closed, others, listed}

-- A path is the number of its signal, or none for 1. This is `p and x`.
abbrev pub along : Option ℕ → Expression → Expression
along None x = x
along (Some p) x = pair And (variable p) x

-- the value behind an assignment on the path: what it gives, where the path is 1, and else the value before
abbrev pub assigned : Option Expression → Option ℕ → Expression → Expression
assigned None p value = value
assigned (Some e) None value = e
assigned (Some e) (Some p) value = choice (variable p) e value

-- the `or` from the left of an expression and the variables that `at` gives to the states
abbrev pub or_after : (ℕ → ℕ) → Expression → List ℕ → Expression
or_after at e [] = e
or_after at e (s ∷ states) = or_after at (pair Or e (variable (at s))) states

-- the `or` of the variables alone; 0 where there are none
abbrev pub any_of : (ℕ → ℕ) → List ℕ → Expression
any_of at [] = constant false
any_of at (s ∷ states) = or_after at (variable (at s)) states

-- the states that are left for the later branches
abbrev pub without : List ℕ → List ℕ → List ℕ
without states left = filter (λ s. not (among s states)) left

-- how many signals the statements have: conditions and paths
abbrev mutual
  pub signals : Statements → ℕ
  signals finish = 0
  signals (assign a rest) = signals rest
  signals (choose parts rest) = part_signals parts + signals rest
  signals (select branches rest) = branch_signals branches + signals rest

  pub part_signals : Parts → ℕ
  part_signals (only c a) = suc (suc (signals a))
  part_signals (either c a b) = suc (suc (signals a + suc (signals b)))
  part_signals (further c a more) = suc (suc (signals a + suc (part_signals more)))

  pub branch_signals : Branches → ℕ
  branch_signals closed = 0
  branch_signals (others a) = suc (signals a)
  branch_signals (listed states a more) = suc (signals a + branch_signals more)

-- The signals of the statements on the path p, numbered from n on: for each condition its value, the path of its part, and,
-- where an `else` or `elsif` follows, the path of that; for each branch its path. The variable `at s` is 1 in the state s;
-- `states` are all states, and `left` those that no earlier branch lists.
abbrev mutual
  pub emitted : (ℕ → ℕ) → List ℕ → Option ℕ → ℕ → Statements → List Expression
  emitted at states p n finish = []
  emitted at states p n (assign a rest) = emitted at states p n rest
  emitted at states p n (choose parts rest) =
      emitted_parts at states p n parts ++ emitted at states p (n + part_signals parts) rest
  emitted at states p n (select branches rest) =
      emitted_branches at states p n states branches ++ emitted at states p (n + branch_signals branches) rest

  pub emitted_parts : (ℕ → ℕ) → List ℕ → Option ℕ → ℕ → Parts → List Expression
  emitted_parts at states p n (only c a) = c ∷ along p (variable n) ∷ emitted at states (Some (suc n)) (suc (suc n)) a
  emitted_parts at states p n (either c a b) =
      c ∷ along p (variable n) ∷ (emitted at states (Some (suc n)) (suc (suc n)) a
      ++ along p (inverse (variable n))
      ∷ emitted at states (Some (suc (suc n) + signals a)) (suc (suc (suc n) + signals a)) b)
  emitted_parts at states p n (further c a more) =
      c ∷ along p (variable n) ∷ (emitted at states (Some (suc n)) (suc (suc n)) a
      ++ along p (inverse (variable n))
      ∷ emitted_parts at states (Some (suc (suc n) + signals a)) (suc (suc (suc n) + signals a)) more)

  pub emitted_branches : (ℕ → ℕ) → List ℕ → Option ℕ → ℕ → List ℕ → Branches → List Expression
  emitted_branches at states p n left closed = []
  emitted_branches at states p n left (others a) = along p (any_of at left) ∷ emitted at states (Some n) (suc n) a
  emitted_branches at states p n left (listed here a more) =
      along p (any_of at here) ∷ (emitted at states (Some n) (suc n) a
      ++ emitted_branches at states p (suc n + signals a) (without here left) more)

-- A target's value behind the statements, in order, as an expression over the signals that are numbered from n on; `value` is
-- the one before, and `given` what an assignment gives to the target.
abbrev mutual
  pub final : (Assignment → Option Expression) → Option ℕ → ℕ → Statements → Expression → Expression
  final given p n finish value = value
  final given p n (assign a rest) value = final given p n rest (assigned (given a) p value)
  final given p n (choose parts rest) value =
      final given p (n + part_signals parts) rest (final_parts given p n parts value)
  final given p n (select branches rest) value =
      final given p (n + branch_signals branches) rest (final_branches given p n branches value)

  pub final_parts : (Assignment → Option Expression) → Option ℕ → ℕ → Parts → Expression → Expression
  final_parts given p n (only c a) value = final given (Some (suc n)) (suc (suc n)) a value
  final_parts given p n (either c a b) value =
      final given (Some (suc (suc n) + signals a)) (suc (suc (suc n) + signals a)) b
      (final given (Some (suc n)) (suc (suc n)) a value)
  final_parts given p n (further c a more) value =
      final_parts given (Some (suc (suc n) + signals a)) (suc (suc (suc n) + signals a)) more
      (final given (Some (suc n)) (suc (suc n)) a value)

  pub final_branches : (Assignment → Option Expression) → Option ℕ → ℕ → Branches → Expression → Expression
  final_branches given p n closed value = value
  final_branches given p n (others a) value = final given (Some n) (suc n) a value
  final_branches given p n (listed here a more) value =
      final_branches given p (suc n + signals a) more (final given (Some n) (suc n) a value)
