-- What contracts see of diagrams, and what a question leaves.
use Rattle.std.specs.Prelude.{◌≡◌, ℕ, ◌<◌, Bool, true, false, List, ◌++◌, length, map, Option, None, Some, Result, Err, IfOk, IfErr, refl}
use Rattle.std.specs.Coded.{Coded, code_by, coded×, coded_bool, coded_option}
use Rattle.bool_expr.specs.declared.expr.Gate.{Gate}
use Rattle.bdd_core.specs.declared.operators.Operator.TheVariants.{Pair, Choice}
use Rattle.bdd_core.specs.declared.node.NodeId.{NodeId}
use Rattle.bdd_core.specs.declared.node.BddError.{BddError}
use Rattle.bdd_core.specs.declared.node.BddError.TheVariants.{Budget, Memory}
use Rattle.bdd_core.specs.Truths.{Truths, IsPart, IsUneven, IsOver}
use Rattle.bdd_core.specs.Nodes.{height, place, Lists, lists_code}
use Rattle.bdd_core.specs.Combined.{combined}
use Rattle.bdd_core.specs.Counting.{function, Holds}

-- The nodes with their truth lists, and how each further question is refused, once one was.
pub record Diagram : Type 0 where
  pub table : Lists
  pub refused : Option BddError

-- a node of these diagrams
abbrev pub IsNode : Diagram → NodeId → Type 0
IsNode d a = a.place < length d.table.lists

-- the function of a node, as a truth list over all variables
abbrev pub function_of : Diagram → NodeId → Truths
function_of d a = function d.table a.place

abbrev pub functions_of : Diagram → List NodeId → List Truths
functions_of d nodes = map (function_of d) nodes

-- how many variables there are from the first one on which the function of a node depends
abbrev pub levels_of : Diagram → NodeId → ℕ
levels_of d a = height (place d.table.lists a.place)

-- what a node means at its own level
abbrev pub list_of : Diagram → NodeId → Truths
list_of d a = place d.table.lists a.place

-- the node has unequal halves, and all parts of the two nodes below it are parts of it
pub record IsSplit (d : Diagram) (a l h : NodeId) : Type 0 where
  pub uneven : IsUneven (list_of d a)
  pub low : (x : Truths) → IsPart x (list_of d l) → IsPart x (list_of d a)
  pub high : (x : Truths) → IsPart x (list_of d h) → IsPart x (list_of d a)

-- the gate of two functions, and the second function where the first is 1 with the third elsewhere: value by value
abbrev pub gate_of : Gate → Truths → Truths → Truths
gate_of g x y = combined (Pair g) x y x

abbrev pub choice_of : Truths → Truths → Truths → Truths
choice_of c x y = combined Choice c x y

-- nodes that were there stay, and keep their functions
abbrev pub Keeps : Diagram → Diagram → Type 0
Keeps old new = (a : NodeId) → IsNode old a → IsNode new a × (function_of new a ≡ function_of old a)

-- The node of the function, after these were asked for: exactly what they and all earlier ones count stands.
pub record IsAsked (old new : Diagram) (asked : List Truths) (function : Truths) (at : NodeId) : Type 0 where
  pub node : IsNode new at
  pub is : function_of new at ≡ function
  pub holds : (earlier : List Truths) → Holds earlier old.table → Holds (asked ++ earlier) new.table
  -- so they are within the budget
  pub within : (earlier : List Truths) → Holds earlier old.table → IsOver (asked ++ earlier) old.table.budget → ⊥

-- The answer where these functions were asked for, the one whose node is wanted being the function.
pub record IsAnswer (old new : Diagram) (asked : List Truths) (function : Truths)
    (result : Result NodeId BddError) : Type 0 where
  pub vars : new.table.vars ≡ old.table.vars
  pub budget : new.table.budget ≡ old.table.budget
  pub keeps : Keeps old new
  pub ok : IfOk result (λ at. IsAsked old new asked function at)
  pub live : IfOk result (λ _. new.refused ≡ None)
  -- these functions and all earlier ones together pass the budget
  pub over : old.refused ≡ None → result ≡ Err Budget
      → (earlier : List Truths) → Holds earlier old.table → IsOver (asked ++ earlier) old.table.budget
  pub refused : IfErr result (λ e. new.refused ≡ Some e)
  -- a refusal is for ever
  pub still : (e : BddError) → old.refused ≡ Some e → result ≡ Err e

abbrev pub is_budget : BddError → Bool
is_budget Budget = true
is_budget Memory = false

abbrev pub error_of : Bool → BddError
error_of true = Budget
error_of false = Memory

abbrev pub error_again : (e : BddError) → error_of (is_budget e) ≡ e
error_again Budget = refl
error_again Memory = refl

abbrev pub error_code : Coded BddError
error_code = code_by Bool coded_bool is_budget error_of error_again

abbrev pub diagram_code : Coded Diagram
diagram_code =
    code_by (Lists × Option BddError) (coded× lists_code (coded_option error_code)) (λ d. (d.table, d.refused))
    (λ p. record { table = p.0; refused = p.1 }) (λ _. refl)
