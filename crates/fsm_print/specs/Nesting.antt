-- How deep statements are nested as they are written, and how long their expressions are.
use Rattle.std.specs.Prelude.{ℕ, ◌+◌, ◌≤◌, Bool, if◌then◌else◌}
use Rattle.vlsi_base.specs.declared.name.Name.{Name}
use Rattle.vlsi_base.specs.Names.{scalar}
use Rattle.bool_expr.specs.Expression.{Expression}
use Rattle.machine_core.specs.Named.{is_same_name}
use Rattle.fsm_machine.specs.Statements.{Assignment, output, next, Statements, finish, assign, choose, select, Parts, only, either, further, Branches, closed, others, listed}
use Rattle.grammar_theory.specs.declared.limits.TheConstants.{CHAIN}
use Rattle.vbe_print.specs.Nesting.{bit_within, closed as within, IsWithin}
use Rattle.vbe_print.specs.Said.{operators}
use Rattle.fsm_print.specs.declared.words.Words.{Words}

-- so many parentheses may be open in the expression, and it has no more operators than a text may
abbrev pub HasRoom : Words → ℕ → Expression → Type 0
HasRoom w n e = IsWithin w.vars e n × (operators e ≤ CHAIN)

abbrev pub IsAssignmentWithin : Words → ℕ → Assignment → Type 0
IsAssignmentWithin w n (output name e) = bit_within name.bit n × HasRoom w n e
IsAssignmentWithin w n (next s) = Unit {0}

-- no more than n ifs, cases and parentheses are open together
abbrev mutual
  pub IsBodyWithin : Words → ℕ → Statements → Type 0
  IsBodyWithin w n finish = Unit {0}
  IsBodyWithin w n (assign a rest) = IsAssignmentWithin w n a × IsBodyWithin w n rest
  IsBodyWithin w n (choose parts rest) = within (λ m. ArePartsWithin w m parts) n × IsBodyWithin w n rest
  IsBodyWithin w n (select branches rest) = within (λ m. AreBranchesWithin w m branches) n × IsBodyWithin w n rest

  pub ArePartsWithin : Words → ℕ → Parts → Type 0
  ArePartsWithin w n (only c a) = HasRoom w n c × IsBodyWithin w n a
  ArePartsWithin w n (either c a b) = HasRoom w n c × (IsBodyWithin w n a × IsBodyWithin w n b)
  ArePartsWithin w n (further c a more) = HasRoom w n c × (IsBodyWithin w n a × ArePartsWithin w n more)

  pub AreBranchesWithin : Words → ℕ → Branches → Type 0
  AreBranchesWithin w n closed = Unit {0}
  AreBranchesWithin w n (others a) = IsBodyWithin w n a
  AreBranchesWithin w n (listed states a more) = IsBodyWithin w n a × AreBranchesWithin w n more

-- ---- how often a target is assigned

-- what is assigned: a bit of an output, or the signal of the next state
abbrev pub target_of : Words → Assignment → Name
target_of w (output name e) = name
target_of w (next s) = scalar w.next

abbrev pub once : Bool → ℕ
once b = if b then 1 else 0

-- how many assignments to this name stand in the statements
abbrev mutual
  pub times_in : Words → Name → Statements → ℕ
  times_in w n finish = 0
  times_in w n (assign a rest) = once (is_same_name (target_of w a) n) + times_in w n rest
  times_in w n (choose parts rest) = times_in_parts w n parts + times_in w n rest
  times_in w n (select branches rest) = times_in_branches w n branches + times_in w n rest

  pub times_in_parts : Words → Name → Parts → ℕ
  times_in_parts w n (only c a) = times_in w n a
  times_in_parts w n (either c a b) = times_in w n a + times_in w n b
  times_in_parts w n (further c a more) = times_in w n a + times_in_parts w n more

  pub times_in_branches : Words → Name → Branches → ℕ
  times_in_branches w n closed = 0
  times_in_branches w n (others a) = times_in w n a
  times_in_branches w n (listed states a more) = times_in w n a + times_in_branches w n more
