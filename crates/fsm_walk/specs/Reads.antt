-- Which input bits the statements read.
use Rattle.std.specs.Prelude.{ℕ, suc, Bool, true, false, List, [], ◌∷◌, ◌++◌, map, length}
use Rattle.bool_expr.specs.Expression.{variables}
use Rattle.bool_expr.specs.Support.{among, first_meetings}
use Rattle.bool_expr.specs.Expression.{Expression}
use Rattle.fsm_machine.specs.Statements.{Assignment, output, next, Statements, finish, assign, choose, select, Parts, only, either, further, Branches, closed, others, listed}
use Rattle.fsm_machine.specs.Fsm.{Fsm}
use Rattle.fsm_machine.specs.MachineOf.{up}

abbrev pub assignment_reads : Assignment → List ℕ
assignment_reads (output name e) = first_meetings (variables e)
assignment_reads (next s) = []

-- the variables of the expressions, each expression's once
abbrev mutual
  pub reads : Statements → List ℕ
  reads finish = []
  reads (assign a rest) = assignment_reads a ++ reads rest
  reads (choose parts rest) = parts_reads parts ++ reads rest
  reads (select branches rest) = branches_reads branches ++ reads rest

  pub parts_reads : Parts → List ℕ
  parts_reads (only c a) = first_meetings (variables c) ++ reads a
  parts_reads (either c a b) = first_meetings (variables c) ++ (reads a ++ reads b)
  parts_reads (further c a more) = first_meetings (variables c) ++ (reads a ++ parts_reads more)

  pub branches_reads : Branches → List ℕ
  branches_reads closed = []
  branches_reads (others a) = reads a
  branches_reads (listed states a more) = reads a ++ branches_reads more

-- for each port, by its number, whether the statements read it
abbrev pub read_marks : Fsm → List Bool
read_marks f = map (λ k. among k (reads f.body)) (up 0 (length f.ports))

-- how many marks there are
abbrev pub count_of : List Bool → ℕ
count_of [] = 0
count_of (true ∷ marks) = suc (count_of marks)
count_of (false ∷ marks) = count_of marks

-- how many input bits the body reads
abbrev pub inputs_read : Fsm → ℕ
inputs_read f = count_of (read_marks f)
