-- The statements of a checked machine are over its ports.
use Rattle.std.proofs.Common.{◌≡◌, ℕ, zero, suc, ◌<◌, Bool, true, false, if◌then◌else◌, List, [], ◌∷◌, ◌++◌, map, length, Some, ◌⊎◌, inl, inr, refl, sym, subst, arith}
use Rattle.std.specs.List.{slice_get}
use Rattle.std.proofs.lemmas.List.{length-map}
use Rattle.vlsi_base.specs.declared.name.Name.{Name}
use Rattle.vlsi_base.specs.declared.name.Port.{Port}
use Rattle.vlsi_base.specs.Member.{In, here, there}
use Rattle.bool_expr.specs.Expression.{Expression, constant, variable, inverse, pair, choice, IsOver, variables}
use Rattle.bool_expr.specs.Support.{among, meetings_after, first_meetings}
use Rattle.machine_core.specs.Machine.{names_of}
use Rattle.machine_core.proofs.Values.{In-split}
use Rattle.fsm_machine.specs.Statements.{Assignment, output, next, Statements, finish, assign, choose, select, Parts, only, either, further, Branches, closed, others, listed}
use Rattle.fsm_machine.specs.Fsm.{Fsm}
use Rattle.fsm_code.specs.Over.{IsAssignmentOver, IsBodyOver, ArePartsOver, AreBranchesOver}
use Rattle.fsm_walk.specs.Reads.{assignment_reads, reads, parts_reads, branches_reads}
use Rattle.fsm_core.specs.Checked.{IsInput, ReadsInputs, IsAssignmentOf, IsBodyOf, ArePartsOf, AreBranchesOf, IsCheckedFsm}

got_below : (x : Name) (k : ℕ) (xs : List Name) → slice_get xs k ≡ Some x → k < length xs
got_below x k [] e = absurd (cc)
got_below x zero (y ∷ xs) e = omega arith
got_below x (suc k) (y ∷ xs) e = let l = got_below x k xs e in omega arith

pub input_below : (f : Fsm) (k : ℕ) → IsInput f k → k < length f.ports
input_below f k input =
    let a = got_below input.name k (names_of f.ports) input.is in
    let b = length-map f.ports (λ (p : Port). p.name) in
    omega arith

reads_over : (f : Fsm) (e : Expression) → ReadsInputs f e → IsOver e (length f.ports)
reads_over f (constant b) reads = tt
reads_over f (variable k) reads = input_below f k reads
reads_over f (inverse e) reads = reads_over f e reads
reads_over f (pair g a b) reads = (reads_over f a reads.0, reads_over f b reads.1)
reads_over f (choice c a b) reads = (reads_over f c reads.0, (reads_over f a reads.1.0, reads_over f b reads.1.1))

assignment_over : (f : Fsm) (a : Assignment) → IsAssignmentOf f a → IsAssignmentOver (length f.ports) a
assignment_over f (output name e) of = reads_over f e of.1
assignment_over f (next s) of = tt

mutual
  body_over : (f : Fsm) (body : Statements) → IsBodyOf f body → IsBodyOver (length f.ports) body
  body_over f finish of = tt
  body_over f (assign a rest) of = (assignment_over f a of.0, body_over f rest of.1)
  body_over f (choose parts rest) of = (parts_over f parts of.0, body_over f rest of.1)
  body_over f (select branches rest) of = (branches_over f branches of.0, body_over f rest of.1)

  parts_over : (f : Fsm) (parts : Parts) → ArePartsOf f parts → ArePartsOver (length f.ports) parts
  parts_over f (only c a) of = (reads_over f c of.0, body_over f a of.1)
  parts_over f (either c a b) of = (reads_over f c of.0, (body_over f a of.1.0, body_over f b of.1.1))
  parts_over f (further c a more) of = (reads_over f c of.0, (body_over f a of.1.0, parts_over f more of.1.1))

  branches_over : (f : Fsm) (branches : Branches) → AreBranchesOf f branches → AreBranchesOver (length f.ports) branches
  branches_over f closed of = tt
  branches_over f (others a) of = body_over f a of
  branches_over f (listed states a more) of = (body_over f a of.0, branches_over f more of.1)

pub checked_over : (f : Fsm) → IsCheckedFsm f → IsBodyOver (length f.ports) f.body
checked_over f checked = body_over f f.body checked.reads

-- ---- what such statements read is below the number of ports

pub also_in : (k x : ℕ) (xs : List ℕ) → In k (x ∷ xs) → (k ≡ x) ⊎ In k xs
also_in k x xs here = inl refl
also_in k x xs (there h) = inr h

kept_in : (seen xs : List ℕ) (k : ℕ) → In k (meetings_after seen xs) → In k xs
kept_in seen [] k h = elim h [ ]
kept_in seen (x ∷ xs) k h = by (among x seen) h (λ before p. kept_in before xs k p) where
  also : (k ≡ x) ⊎ In k (meetings_after (seen ++ x ∷ []) xs) → ((before : List ℕ) → In k (meetings_after before xs) → In k xs) → In k (x ∷ xs)
  also (inl e) rest = subst (λ (y : ℕ). In y (x ∷ xs)) (sym e) here
  also (inr p) rest = there (rest (seen ++ x ∷ []) p)

  by : (b : Bool) → In k (if b then meetings_after seen xs else x ∷ meetings_after (seen ++ x ∷ []) xs)
      → ((before : List ℕ) → In k (meetings_after before xs) → In k xs) → In k (x ∷ xs)
  by true p rest = there (rest seen p)
  by false p rest = also (also_in k x (meetings_after (seen ++ x ∷ []) xs) p) rest

variables_inputs : (f : Fsm) (e : Expression) (k : ℕ) → ReadsInputs f e → In k (variables e) → IsInput f k
variables_inputs f (constant b) k given i = elim i [ ]
variables_inputs f (variable j) k given i = elim (also_in k j [] i) [ inl e ↦ subst (IsInput f) (sym e) given | inr p ↦ elim p [ ] ]
variables_inputs f (inverse e) k given i = variables_inputs f e k given i
variables_inputs f (pair g a b) k given i = elim (In-split k (variables a) (variables b) i) [
  | inl p ↦ variables_inputs f a k given.0 p
  | inr p ↦ variables_inputs f b k given.1 p
]
variables_inputs f (choice c a b) k given i = elim (In-split k (variables c) (variables a ++ variables b) i) [
  | inl p ↦ variables_inputs f c k given.0 p
  | inr q ↦ elim (In-split k (variables a) (variables b) q) [
    | inl p ↦ variables_inputs f a k given.1.0 p
    | inr p ↦ variables_inputs f b k given.1.1 p
  ]
]

met_inputs : (f : Fsm) (e : Expression) (k : ℕ) → ReadsInputs f e → In k (first_meetings (variables e)) → IsInput f k
met_inputs f e k given i = variables_inputs f e k given (kept_in [] (variables e) k i)

assignment_inputs : (f : Fsm) (k : ℕ) (a : Assignment) → IsAssignmentOf f a → In k (assignment_reads a) → IsInput f k
assignment_inputs f k (output name e) of i = met_inputs f e k of.1 i
assignment_inputs f k (next s) of i = elim i [ ]

-- what holds of the members of two lists holds of those of both
in_both : (P : Type 0) (k : ℕ) (xs ys : List ℕ) → (In k xs → P) → (In k ys → P) → In k (xs ++ ys) → P
in_both P k xs ys first second i = elim (In-split k xs ys i) [ inl p ↦ first p | inr p ↦ second p ]

mutual
  body_inputs : (f : Fsm) (k : ℕ) (body : Statements) → IsBodyOf f body → In k (reads body) → IsInput f k
  body_inputs f k finish of i = elim i [ ]
  body_inputs f k (assign a rest) of i =
      in_both (IsInput f k) k (assignment_reads a) (reads rest) (assignment_inputs f k a of.0) (body_inputs f k rest of.1) i
  body_inputs f k (choose parts rest) of i =
      in_both (IsInput f k) k (parts_reads parts) (reads rest) (parts_inputs f k parts of.0) (body_inputs f k rest of.1) i
  body_inputs f k (select branches rest) of i =
      in_both (IsInput f k) k (branches_reads branches) (reads rest) (branches_inputs f k branches of.0) (body_inputs f k rest of.1) i

  parts_inputs : (f : Fsm) (k : ℕ) (parts : Parts) → ArePartsOf f parts → In k (parts_reads parts) → IsInput f k
  parts_inputs f k (only c a) of i =
      in_both (IsInput f k) k (first_meetings (variables c)) (reads a) (met_inputs f c k of.0) (body_inputs f k a of.1) i
  parts_inputs f k (either c a b) of i =
      in_both (IsInput f k) k (first_meetings (variables c)) (reads a ++ reads b) (met_inputs f c k of.0)
      (in_both (IsInput f k) k (reads a) (reads b) (body_inputs f k a of.1.0) (body_inputs f k b of.1.1)) i
  parts_inputs f k (further c a more) of i =
      in_both (IsInput f k) k (first_meetings (variables c)) (reads a ++ parts_reads more) (met_inputs f c k of.0)
      (in_both (IsInput f k) k (reads a) (parts_reads more) (body_inputs f k a of.1.0) (parts_inputs f k more of.1.1)) i

  branches_inputs : (f : Fsm) (k : ℕ) (branches : Branches) → AreBranchesOf f branches → In k (branches_reads branches) → IsInput f k
  branches_inputs f k closed of i = elim i [ ]
  branches_inputs f k (others a) of i = body_inputs f k a of i
  branches_inputs f k (listed states a more) of i =
      in_both (IsInput f k) k (reads a) (branches_reads more) (body_inputs f k a of.0) (branches_inputs f k more of.1) i

pub reads_inputs : (f : Fsm) → IsCheckedFsm f → (k : ℕ) → In k (reads f.body) → IsInput f k
reads_inputs f checked k i = body_inputs f k f.body checked.reads i
