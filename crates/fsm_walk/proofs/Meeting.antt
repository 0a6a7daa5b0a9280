-- The assignments that a walk meets are over the ports.
use Rattle.std.proofs.Common.{◌≡◌, ℕ, Bool, true, false, List, [], ◌∷◌, ◌++◌, map, if◌then◌else◌, Bor, sym, subst}
use Rattle.std.specs.List.{All, AllByRecursion}
use Rattle.std.proofs.lemmas.List.Elements.{All-from_recursion}
use Rattle.bool_expr.specs.Expression.{val}
use Rattle.bool_expr.specs.Support.{among}
use Rattle.fsm_machine.specs.Statements as s
use Rattle.fsm_machine.specs.Statements.{Statements, finish, assign, choose, select, Parts, only, either, further, Branches, closed, others, listed}
use Rattle.fsm_code.specs.declared.statements.Assignment.{Assignment}
use Rattle.fsm_code.specs.Over.{IsAssignmentOver, IsBodyOver, ArePartsOver, AreBranchesOver}
use Rattle.fsm_code.specs.View.{assignment_view}
use Rattle.fsm_walk.specs.Trail.{trail, parts_trail, branches_trail}

abbrev AllOver : ℕ → List s.Assignment → Type 0
AllOver n xs = AllByRecursion (IsAssignmentOver n) xs

over_both : (n : ℕ) (xs ys : List s.Assignment) → AllOver n xs → AllOver n ys → AllOver n (xs ++ ys)
over_both n [] ys h k = k
over_both n (x ∷ xs) ys h k = (h.0, over_both n xs ys h.1 k)

over_if : (n : ℕ) (b : Bool) (xs ys : List s.Assignment) → AllOver n xs → AllOver n ys → AllOver n (if b then xs else ys)
over_if n true xs ys h k = h
over_if n false xs ys h k = k

mutual
  met_over : (n : ℕ) (w : List Bool) (state : ℕ) (body : Statements) → IsBodyOver n body → AllOver n (trail w state body)
  met_over n w state finish h = tt
  met_over n w state (assign a rest) h = (h.0, met_over n w state rest h.1)
  met_over n w state (choose parts rest) h =
      over_both n (parts_trail w state parts) (trail w state rest) (parts_over n w state parts h.0) (met_over n w state rest h.1)
  met_over n w state (select branches rest) h =
      over_both n (branches_trail w state branches) (trail w state rest) (branches_over n w state branches h.0) (met_over n w state rest h.1)

  parts_over : (n : ℕ) (w : List Bool) (state : ℕ) (parts : Parts) → ArePartsOver n parts → AllOver n (parts_trail w state parts)
  parts_over n w state (only c a) h = over_if n (val c w) (trail w state a) [] (met_over n w state a h.1) tt
  parts_over n w state (either c a b) h = over_if n (val c w) (trail w state a) (trail w state b) (met_over n w state a h.1.0) (met_over n w state b h.1.1)
  parts_over n w state (further c a more) h =
      over_if n (val c w) (trail w state a) (parts_trail w state more) (met_over n w state a h.1.0) (parts_over n w state more h.1.1)

  branches_over : (n : ℕ) (w : List Bool) (state : ℕ) (branches : Branches) → AreBranchesOver n branches → AllOver n (branches_trail w state branches)
  branches_over n w state closed h = tt
  branches_over n w state (others a) h = met_over n w state a h
  branches_over n w state (listed states a more) h =
      over_if n (among state states) (trail w state a) (branches_trail w state more) (met_over n w state a h.0) (branches_over n w state more h.1)

viewed : (n : ℕ) (found : List (Bor Assignment)) → AllOver n (map (λ (a : Bor Assignment). assignment_view a.now) found)
    → AllByRecursion (λ (a : Bor Assignment). IsAssignmentOver n (assignment_view a.now)) found
viewed n [] h = tt
viewed n (a ∷ found) h = (h.0, viewed n found h.1)

pub found_over : (n : ℕ) (w : List Bool) (state : ℕ) (body : Statements) (found : List (Bor Assignment)) → IsBodyOver n body
    → map (λ (a : Bor Assignment). assignment_view a.now) found ≡ trail w state body → All (λ (a : Bor Assignment). IsAssignmentOver n (assignment_view a.now)) found
found_over n w state body found h e =
    All-from_recursion (λ (a : Bor Assignment). IsAssignmentOver n (assignment_view a.now)) found
    (viewed n found (subst (AllOver n) (sym e) (met_over n w state body h)))
