-- How many signals the statements of a text have.
use Rattle.std.proofs.Common.{◌≡◌, ℕ, ◌+◌, Bool, true, false, List, [], ◌∷◌, Option, None, Some, refl, bytes_eq, arith, if◌then◌else◌}
use Rattle.vlsi_base.specs.declared.name.Name.{Name}
use Rattle.vlsi_base.specs.Tree.{Tree}
use Rattle.source_checks.specs.declared.statement.Target.{Target}
use Rattle.source_checks.specs.Formula.{Formula, formulas}
use Rattle.source_checks.specs.Drivers.{target_names}
use Rattle.fsm_machine.specs.Statements as s
use Rattle.fsm_machine.specs.Signals.{signals, part_signals, branch_signals}
use Rattle.fsm_text.specs.declared.file.FirstToken.{FirstToken}
use Rattle.fsm_text.specs.Written.{StatementTree, asserted, assigned, chosen, selected, BodyTree, finish, next, PartsTree, only, either, further, BranchesTree, closed, others, listed, PartTree, BranchTree, body_of, parts_of, branched, branches_of}
use Rattle.fsm_io.specs.Elaboration.{Frame, next_number, assign_bits, body_bits, statement_bits, parts_bits, branches_bits}

-- two or three for each part of an if, and one for each branch of a case
abbrev mutual
  pub in_body : BodyTree → ℕ
  in_body finish = 0
  in_body (next st rest) = in_statement st + in_body rest

  pub in_statement : StatementTree → ℕ
  in_statement (asserted e) = 0
  in_statement (assigned t line e) = 0
  in_statement (chosen parts) = in_parts parts
  in_statement (selected line called branches) = in_branches branches

  pub in_parts : PartsTree → ℕ
  in_parts (only line c a) = 2 + in_body a
  in_parts (either line c a b) = 3 + in_body a + in_body b
  in_parts (further line c a more) = 3 + in_body a + in_parts more

  pub in_branches : BranchesTree → ℕ
  in_branches closed = 0
  in_branches (others a) = 1 + in_body a
  in_branches (listed states a more) = 1 + in_body a + in_branches more

of_assigned : (vars names : List Name) (values : List Formula) (rest : s.Statements) → signals (assign_bits vars names values rest) ≡ signals rest
of_assigned vars [] values rest = refl
of_assigned vars (n ∷ names) [] rest = refl
of_assigned vars (n ∷ names) (v ∷ values) rest = of_assigned vars names values rest

of_assignment : (f : Frame) (t : Target) (first : FirstToken) (e : Tree) (rest : s.Statements) → signals (statement_bits f (assigned t first e) rest) ≡ signals rest
of_assignment f t first e rest = by (bytes_eq t.name f.next) where
  by : (b : Bool) → signals (if b then s.assign (s.next (next_number f.states e)) rest else assign_bits f.vars (target_names f.known t) (formulas f.known e) rest) ≡ signals rest
  by true = refl
  by false = of_assigned f.vars (target_names f.known t) (formulas f.known e) rest

mutual
  pub of_body : (f : Frame) (b : BodyTree) → signals (body_bits f b) ≡ in_body b
  of_body f finish = refl
  of_body f (next st rest) =
      let a = of_statement f st (body_bits f rest) in
      let b = of_body f rest in
      omega (arith, a, b)

  of_statement : (f : Frame) (st : StatementTree) (rest : s.Statements) → signals (statement_bits f st rest) ≡ in_statement st + signals rest
  of_statement f (asserted e) rest = omega arith
  of_statement f (assigned t line e) rest = let a = of_assignment f t line e rest in omega (arith, a)
  of_statement f (chosen parts) rest = let a = of_parts f parts in omega (arith, a)
  of_statement f (selected line called branches) rest = let a = of_branches f branches in omega (arith, a)

  of_parts : (f : Frame) (parts : PartsTree) → part_signals (parts_bits f parts) ≡ in_parts parts
  of_parts f (only line c a) = let x = of_body f a in omega (arith, x)
  of_parts f (either line c a b) = let x = of_body f a in let y = of_body f b in omega (arith, x, y)
  of_parts f (further line c a more) = let x = of_body f a in let y = of_parts f more in omega (arith, x, y)

  of_branches : (f : Frame) (branches : BranchesTree) → branch_signals (branches_bits f branches) ≡ in_branches branches
  of_branches f closed = refl
  of_branches f (others a) = let x = of_body f a in omega (arith, x)
  of_branches f (listed states a more) = let x = of_body f a in let y = of_branches f more in omega (arith, x, y)

-- ---- from lists of what stands one behind the other

abbrev pub total : {A : Type 0} → (A → ℕ) → List A → ℕ
total f [] = 0
total f (x ∷ xs) = f x + total f xs

abbrev pub in_further : PartTree → ℕ
in_further p = 3 + in_body p.body

abbrev pub in_listed : BranchTree → ℕ
in_listed b = 1 + in_body b.body

-- what stands behind `else`, or for other states
abbrev pub in_last : Option BodyTree → ℕ
in_last None = 0
in_last (Some a) = 1 + in_body a

pub in_all : (sts : List StatementTree) → in_body (body_of sts) ≡ total in_statement sts
in_all [] = refl
in_all (st ∷ sts) = let rest = in_all sts in omega (arith, rest)

pub in_if : (p : PartTree) (more : List PartTree) (last : Option BodyTree) → in_parts (parts_of p more last) ≡ 2 + in_body p.body + total in_further more + in_last last
in_if p [] None = omega arith
in_if p [] (Some a) = omega arith
in_if p (q ∷ more) last = let rest = in_if q more last in omega (arith, rest)

in_branched : (all : List BranchTree) (rest : BranchesTree) → in_branches (branched all rest) ≡ total in_listed all + in_branches rest
in_branched [] rest = omega arith
in_branched (b ∷ all) rest = let more = in_branched all rest in omega (arith, more)

pub in_case : (all : List BranchTree) (last : Option BodyTree) → in_branches (branches_of all last) ≡ total in_listed all + in_last last
in_case all None = in_branched all closed
in_case all (Some a) = in_branched all (others a)
