-- State machines as lists of steps, by which a proof tells them apart.
use Rattle.std.specs.Prelude.{◌≡◌, ℕ, List, [], ◌∷◌, ◌++◌, refl}
use Rattle.std.proofs.Common.{◌∙◌, ap, append_assoc}
use Rattle.std.specs.Coded.{Coded, code_by}
use Rattle.bool_expr.specs.Expression.{Expression}
use Rattle.fsm_machine.specs.Statements.{Assignment, Statements, finish, assign, choose, select, Parts, only, either, further, Branches, closed, others, listed}

-- what is put on a stack, or made of what lies on it
pub data Step : Type 0 where
  put_finish : Step
  put_closed : Step
  make_assign : Assignment → Step
  make_choose : Step
  make_select : Step
  make_only : Expression → Step
  make_either : Expression → Step
  make_further : Expression → Step
  make_others : Step
  make_listed : List ℕ → Step

-- what lies there
pub data Item : Type 0 where
  body : Statements → Item
  parts : Parts → Item
  branches : Branches → Item

abbrev mutual
  pub steps : Statements → List Step
  steps finish = put_finish ∷ []
  steps (assign a rest) = steps rest ++ (make_assign a ∷ [])
  steps (choose ps rest) = parts_steps ps ++ (steps rest ++ (make_choose ∷ []))
  steps (select bs rest) = branches_steps bs ++ (steps rest ++ (make_select ∷ []))

  pub parts_steps : Parts → List Step
  parts_steps (only c a) = steps a ++ (make_only c ∷ [])
  parts_steps (either c a b) = steps a ++ (steps b ++ (make_either c ∷ []))
  parts_steps (further c a more) = steps a ++ (parts_steps more ++ (make_further c ∷ []))

  pub branches_steps : Branches → List Step
  branches_steps closed = put_closed ∷ []
  branches_steps (others a) = steps a ++ (make_others ∷ [])
  branches_steps (listed here a more) = steps a ++ (branches_steps more ++ (make_listed here ∷ []))

-- what one step leaves of a stack; nothing where it finds something else than it takes
abbrev pub stepped : Step → List Item → List Item
stepped put_finish stack = body finish ∷ stack
stepped put_closed stack = branches closed ∷ stack
stepped (make_assign a) (body rest ∷ stack) = body (assign a rest) ∷ stack
stepped make_choose (body rest ∷ parts ps ∷ stack) = body (choose ps rest) ∷ stack
stepped make_select (body rest ∷ branches bs ∷ stack) = body (select bs rest) ∷ stack
stepped (make_only c) (body a ∷ stack) = parts (only c a) ∷ stack
stepped (make_either c) (body b ∷ body a ∷ stack) = parts (either c a b) ∷ stack
stepped (make_further c) (parts more ∷ body a ∷ stack) = parts (further c a more) ∷ stack
stepped make_others (body a ∷ stack) = branches (others a) ∷ stack
stepped (make_listed here) (branches more ∷ body a ∷ stack) = branches (listed here a more) ∷ stack
stepped _ _ = []

abbrev pub made : List Step → List Item → List Item
made [] stack = stack
made (s ∷ rest) stack = made rest (stepped s stack)

abbrev pub first_body : List Item → Statements
first_body (body b ∷ _) = b
first_body _ = finish

mutual
  pub made_steps : (b : Statements) (rest : List Step) (stack : List Item) → made (steps b ++ rest) stack ≡ made rest (body b ∷ stack)
  made_steps finish rest stack = refl
  made_steps (assign a b) rest stack = rw append_assoc (made_steps b ((make_assign a ∷ []) ++ rest) stack)
  made_steps (choose ps b) rest stack =
      rw (append_assoc, append_assoc) (made_parts ps (steps b ++ ((make_choose ∷ []) ++ rest)) stack ∙ made_steps b ((make_choose ∷ []) ++ rest) (parts ps ∷ stack))
  made_steps (select bs b) rest stack =
      rw (append_assoc, append_assoc) (made_branches bs (steps b ++ ((make_select ∷ []) ++ rest)) stack ∙ made_steps b ((make_select ∷ []) ++ rest) (branches bs ∷ stack))

  made_parts : (ps : Parts) (rest : List Step) (stack : List Item) → made (parts_steps ps ++ rest) stack ≡ made rest (parts ps ∷ stack)
  made_parts (only c a) rest stack = rw append_assoc (made_steps a ((make_only c ∷ []) ++ rest) stack)
  made_parts (either c a b) rest stack =
      rw (append_assoc, append_assoc) (made_steps a (steps b ++ ((make_either c ∷ []) ++ rest)) stack ∙ made_steps b ((make_either c ∷ []) ++ rest) (body a ∷ stack))
  made_parts (further c a more) rest stack =
      rw (append_assoc, append_assoc) (made_steps a (parts_steps more ++ ((make_further c ∷ []) ++ rest)) stack ∙ made_parts more ((make_further c ∷ []) ++ rest) (body a ∷ stack))

  made_branches : (bs : Branches) (rest : List Step) (stack : List Item) → made (branches_steps bs ++ rest) stack ≡ made rest (branches bs ∷ stack)
  made_branches closed rest stack = refl
  made_branches (others a) rest stack = rw append_assoc (made_steps a ((make_others ∷ []) ++ rest) stack)
  made_branches (listed here a more) rest stack =
      rw (append_assoc, append_assoc) (made_steps a (branches_steps more ++ ((make_listed here ∷ []) ++ rest)) stack ∙ made_branches more ((make_listed here ∷ []) ++ rest) (body a ∷ stack))

pub steps_back : (b : Statements) → first_body (made (steps b ++ []) []) ≡ b
steps_back b = ap first_body (made_steps b [] [])

-- a code for statements, from one for lists of steps
abbrev pub statements_code : Coded (List Step) → Coded Statements
statements_code code = code_by (List Step) code steps (λ s. first_body (made (s ++ []) [])) steps_back
