-- Expressions as lists of steps, by which a proof tells them apart.
use Rattle.std.specs.Prelude.{◌≡◌, ℕ, Bool, List, [], ◌∷◌, ◌++◌, refl}
use Rattle.std.proofs.Common.{◌∙◌, ap, append_assoc}
use Rattle.std.specs.Coded.{Coded, code_by}
use Rattle.bool_expr.specs.declared.expr.Gate.{Gate}
use Rattle.bool_expr.specs.Expression.{Expression, constant, variable, inverse, pair, choice}

-- what is put on a stack, or made of what lies on it
pub data Step : Type 0 where
  put_constant : Bool → Step
  put_variable : ℕ → Step
  make_inverse : Step
  make_pair : Gate → Step
  make_choice : Step

abbrev pub steps : Expression → List Step
steps (constant b) = put_constant b ∷ []
steps (variable k) = put_variable k ∷ []
steps (inverse e) = steps e ++ (make_inverse ∷ [])
steps (pair g a b) = steps a ++ (steps b ++ (make_pair g ∷ []))
steps (choice c a b) = steps c ++ (steps a ++ (steps b ++ (make_choice ∷ [])))

abbrev pub made : List Step → List Expression → List Expression
made [] stack = stack
made (put_constant b ∷ rest) stack = made rest (constant b ∷ stack)
made (put_variable k ∷ rest) stack = made rest (variable k ∷ stack)
made (make_inverse ∷ rest) (e ∷ stack) = made rest (inverse e ∷ stack)
made (make_inverse ∷ rest) [] = []
made (make_pair g ∷ rest) (b ∷ a ∷ stack) = made rest (pair g a b ∷ stack)
made (make_pair g ∷ rest) (b ∷ []) = []
made (make_pair g ∷ rest) [] = []
made (make_choice ∷ rest) (b ∷ a ∷ c ∷ stack) = made rest (choice c a b ∷ stack)
made (make_choice ∷ rest) (b ∷ a ∷ []) = []
made (make_choice ∷ rest) (b ∷ []) = []
made (make_choice ∷ rest) [] = []

abbrev pub first_made : List Expression → Expression
first_made [] = variable 0
first_made (e ∷ _) = e

pub made-steps : (e : Expression) (rest : List Step) (stack : List Expression) → made (steps e ++ rest) stack ≡ made rest (e ∷ stack)
made-steps (constant b) rest stack = refl
made-steps (variable k) rest stack = refl
made-steps (inverse e) rest stack = rw append_assoc (made-steps e ((make_inverse ∷ []) ++ rest) stack)
made-steps (pair g a b) rest stack =
    rw (append_assoc, append_assoc) (made-steps a (steps b ++ ((make_pair g ∷ []) ++ rest)) stack ∙ made-steps b ((make_pair g ∷ []) ++ rest) (a ∷ stack))
made-steps (choice c a b) rest stack =
    rw (append_assoc, append_assoc, append_assoc)
    (made-steps c (steps a ++ (steps b ++ ((make_choice ∷ []) ++ rest))) stack
    ∙ made-steps a (steps b ++ ((make_choice ∷ []) ++ rest)) (c ∷ stack)
    ∙ made-steps b ((make_choice ∷ []) ++ rest) (a ∷ c ∷ stack))

pub steps_back : (e : Expression) → first_made (made (steps e ++ []) []) ≡ e
steps_back e = ap first_made (made-steps e [] [])

-- a code for expressions, from one for lists of steps
abbrev pub expression_code : Coded (List Step) → Coded Expression
expression_code code = code_by (List Step) code steps (λ s. first_made (made (s ++ []) [])) steps_back
