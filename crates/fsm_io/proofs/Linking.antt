-- Linking from the last piece on.
use Rattle.std.proofs.Common.{◌≡◌, ◌<◌, List, [], ◌∷◌, ◌++◌, refl, ap}
use Rattle.bool_expr.specs.View.{view}
use Rattle.vlsi_base.specs.Member.{In, here, there}
use Rattle.fsm_machine.specs.Statements as s
use Rattle.fsm_code.specs.View.{body_view}
use Rattle.fsm_text.specs.declared.file.Statement.{Statement, size-Statement}
use Rattle.fsm_text.specs.declared.file.Body.{Body, size-Body}
use Rattle.fsm_text.specs.Written.{StatementTree, BodyTree, next, followed, body_of}
use Rattle.fsm_io.specs.declared.bits.Frame.{Frame as HeldFrame}
use Rattle.fsm_io.specs.declared.linked.Part.{Part}
use Rattle.fsm_io.specs.declared.linked.Branch.{Branch}
use Rattle.fsm_io.specs.Elaboration.{Frame, body_bits, statement_bits}
use Rattle.fsm_io.specs.Linked.{AreSmaller, statements_before, parts_before, branches_before}
use Rattle.fsm_io.specs.Pieces.{StatementFits, BodyFits}

pub statements-push : (f : Frame) (xs : List StatementTree) (x : StatementTree) (rest : s.Statements) → statements_before f (xs ++ x ∷ []) rest ≡ statements_before f xs (statement_bits f x rest)
statements-push f [] x rest = refl
statements-push f (y ∷ xs) x rest = ap (statement_bits f y) (statements-push f xs x rest)

pub parts-push : (xs : List Part) (x : Part) (last : s.Parts) → parts_before (xs ++ x ∷ []) last ≡ parts_before xs (s.further (view x.condition) (body_view x.body) last)
parts-push [] x last = refl
parts-push (y ∷ xs) x last = ap (s.further (view y.condition) (body_view y.body)) (parts-push xs x last)

pub branches-push : (xs : List Branch) (x : Branch) (last : s.Branches) → branches_before (xs ++ x ∷ []) last ≡ branches_before xs (s.listed x.states.items (body_view x.body) last)
branches-push [] x last = refl
branches-push (y ∷ xs) x last = ap (s.listed y.states.items (body_view y.body)) (branches-push xs x last)

-- the statements of a body, one before the other
pub body_before : (f : Frame) (xs : List StatementTree) → statements_before f xs s.finish ≡ body_bits f (body_of xs)
body_before f [] = refl
body_before f (x ∷ xs) = ap (statement_bits f x) (body_before f xs)

pub each_fits : (f : HeldFrame) (xs : List StatementTree) → BodyFits f (body_of xs) → (x : StatementTree) → In x xs → StatementFits f x
each_fits f [] h x i = elim i [ ]
each_fits f (y ∷ xs) h x here = h.0
each_fits f (y ∷ xs) h x (there i) = each_fits f xs h.1 x i

pub followed-push : (xs : List StatementTree) (x : StatementTree) (rest : BodyTree) → followed (xs ++ x ∷ []) rest ≡ followed xs (next x rest)
followed-push [] x rest = refl
followed-push (y ∷ xs) x rest = ap (next y) (followed-push xs x rest)

pub smaller_push : (body : Body) (xs : List Statement) (x : Statement) → AreSmaller body xs → size-Statement x < size-Body body → AreSmaller body (xs ++ x ∷ [])
smaller_push body [] x h small s here = small
smaller_push body [] x h small s (there i) = elim i [ ]
smaller_push body (y ∷ xs) x h small s here = h s here
smaller_push body (y ∷ xs) x h small s (there i) = smaller_push body xs x (λ k j. h k (there j)) small s i
