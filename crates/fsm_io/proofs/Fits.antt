-- The statements of a text in which no early check fails can be elaborated.
use Rattle.std.proofs.Common.{Bool, true, List, ◌∷◌, ◌++◌}
use Rattle.std.specs.Prelude.{◌||◌}
use Rattle.vlsi_base.specs.Member.{In, here, there}
use Rattle.machine_core.proofs.Values.{In-left, In-right}
use Rattle.fsm_text.specs.Written.{StatementTree, asserted, assigned, chosen, selected, BodyTree, finish, next, PartsTree, only, either, further, BranchesTree, closed, others, listed}
use Rattle.fsm_io.specs.declared.bits.Frame.{Frame as HeldFrame}
use Rattle.fsm_io.specs.Looks.{Mention, asserting, assigning, testing, selecting, listing, body_has_case, holds_case, in_body, in_statement, in_parts, in_branches}
use Rattle.fsm_io.specs.Pieces.{CanBeRead, AssignmentFits, StatementFits, BodyFits, PartsFit, BranchesFit}

-- what stands in one place can be elaborated
abbrev pub Fits : HeldFrame → Mention → Type 0
Fits f (asserting e) = Unit {0}
Fits f (assigning t line e) = AssignmentFits f t e
Fits f (testing line e) = CanBeRead f e
Fits f (selecting seen line called) = Unit {0}
Fits f (listing states) = Unit {0}

abbrev AllFit : HeldFrame → List Mention → Type 0
AllFit f ms = (x : Mention) → In x ms → Fits f x

left : (f : HeldFrame) (xs ys : List Mention) → AllFit f (xs ++ ys) → AllFit f xs
left f xs ys h x i = h x (In-left x xs ys i)

right : (f : HeldFrame) (xs ys : List Mention) → AllFit f (xs ++ ys) → AllFit f ys
right f xs ys h x i = h x (In-right x xs ys i)

behind : (f : HeldFrame) (m : Mention) (ys : List Mention) → AllFit f (m ∷ ys) → AllFit f ys
behind f m ys h x i = h x (there i)

mutual
  pub fits_body : (f : HeldFrame) (seen : Bool) (b : BodyTree) → ((x : Mention) → In x (in_body seen b) → Fits f x) → BodyFits f b
  fits_body f seen finish h = tt
  fits_body f seen (next s rest) h =
      (fits_statement f seen s (left f (in_statement seen s) (in_body (seen || holds_case s) rest) h), fits_body f (seen || holds_case s) rest (right f (in_statement seen s) (in_body (seen || holds_case s) rest) h))

  fits_statement : (f : HeldFrame) (seen : Bool) (s : StatementTree) → ((x : Mention) → In x (in_statement seen s) → Fits f x) → StatementFits f s
  fits_statement f seen (asserted e) h = tt
  fits_statement f seen (assigned t line e) h = h (assigning t line e) here
  fits_statement f seen (chosen parts) h = fits_parts f seen parts h
  fits_statement f seen (selected line called branches) h = fits_branches f branches (behind f (selecting seen line called) (in_branches branches) h)

  fits_parts : (f : HeldFrame) (seen : Bool) (p : PartsTree) → ((x : Mention) → In x (in_parts seen p) → Fits f x) → PartsFit f p
  fits_parts f seen (only line c a) h = (h (testing line c) here, fits_body f seen a (behind f (testing line c) (in_body seen a) h))
  fits_parts f seen (either line c a b) h =
      let g = behind f (testing line c) (in_body seen a ++ in_body (seen || body_has_case a) b) h in
      (h (testing line c) here, (fits_body f seen a (left f (in_body seen a) (in_body (seen || body_has_case a) b) g), fits_body f (seen || body_has_case a) b (right f (in_body seen a) (in_body (seen || body_has_case a) b) g)))
  fits_parts f seen (further line c a more) h =
      let g = behind f (testing line c) (in_body seen a ++ in_parts (seen || body_has_case a) more) h in
      (h (testing line c) here, (fits_body f seen a (left f (in_body seen a) (in_parts (seen || body_has_case a) more) g), fits_parts f (seen || body_has_case a) more (right f (in_body seen a) (in_parts (seen || body_has_case a) more) g)))

  fits_branches : (f : HeldFrame) (b : BranchesTree) → ((x : Mention) → In x (in_branches b) → Fits f x) → BranchesFit f b
  fits_branches f closed h = tt
  fits_branches f (others a) h = fits_body f true a h
  fits_branches f (listed states a more) h =
      let g = behind f (listing states) (in_body true a ++ in_branches more) h in
      (fits_body f true a (left f (in_body true a) (in_branches more) g), fits_branches f more (right f (in_body true a) (in_branches more) g))
