-- What the nodes of a diagram mean: each a truth list with unequal halves, or a constant.
use Rattle.std.specs.Prelude.{◌≡◌, ℕ, zero, suc, ◌+◌, ◌-◌, ◌^◌, ◌<◌, ◌≤◌, ◌⊎◌, true, false, List, [], ◌∷◌, ◌++◌, length, slice_get, Some, refl}
use Rattle.std.specs.List.{slice_index_or, Contains}
use Rattle.bdd_core.specs.declared.node.Node.{Node}
use Rattle.std.specs.Coded.{Coded, code_by, coded×, coded_ℕ, coded_list}
use Rattle.bdd_core.specs.Code.{truths_code}
use Rattle.bdd_core.specs.Truths.{Truths, constant, halves, IsPart, IsUneven}

-- j further variables in front, on which the function doesn't depend
abbrev pub raised : ℕ → Truths → Truths
raised zero t = t
raised (suc j) t = halves (raised j t) (raised j t)

-- how many variables a truth list has
abbrev pub height : Truths → ℕ
height (constant b) = 0
height (halves a b) = suc (height a)

-- the function over h variables
unfoldable pub raised_to : ℕ → Truths → Truths
raised_to h t = raised (h - height t) t

-- the truth list at a place
abbrev pub place : List Truths → ℕ → Truths
place lists i = slice_index_or lists i (constant false)

-- what a node with its variable and sons means
abbrev pub joined : ℕ → List Truths → ℕ → ℕ → ℕ → Truths
joined vars lists variable low high =
    halves (raised_to (vars - (variable + 1)) (place lists low)) (raised_to (vars - (variable + 1)) (place lists high))

-- what a node means
abbrev pub meaning : ℕ → List Truths → Node → Truths
meaning vars lists n = joined vars lists n.variable n.low n.high

-- the lists, and then what each node means over those before it
abbrev pub lists_after : ℕ → List Truths → List Node → List Truths
lists_after vars lists [] = lists
lists_after vars lists (n ∷ ns) = lists_after vars (lists ++ meaning vars lists n ∷ []) ns

-- the two constants, and then what each node means
unfoldable pub lists_of : ℕ → List Node → List Truths
lists_of vars nodes = lists_after vars (constant false ∷ constant true ∷ []) nodes

-- the places of the sons fit in 32 bits
pub record IsNarrow (n : Node) : Type 0 where
  pub low : n.low < 2 ^ 32
  pub high : n.high < 2 ^ 32

-- a node with this variable may stand above that place
pub record IsSon (vars : ℕ) (lists : List Truths) (variable son : ℕ) : Type 0 where
  pub within : son < length lists
  pub below : height (place lists son) + variable < vars

-- node number i is sound
pub record IsSound (vars : ℕ) (lists : List Truths) (i : ℕ) (n : Node) : Type 0 where
  pub low : IsSon vars lists n.variable n.low
  pub high : IsSon vars lists n.variable n.high
  pub apart : n.low ≡ n.high → ⊥
  pub is : place lists (i + 2) ≡ meaning vars lists n

-- every node is sound, and no two places mean one list
pub record AreSound (vars : ℕ) (nodes : List Node) (lists : List Truths) : Type 0 where
  pub count : length lists ≡ length nodes + 2
  pub zero_is : place lists 0 ≡ constant false
  pub one_is : place lists 1 ≡ constant true
  pub sound : (i : ℕ) (n : Node) → slice_get nodes i ≡ Some n → IsSound vars lists i n
  pub uneven : (i : ℕ) → i < length nodes → IsUneven (place lists (i + 2))
  pub distinct : (i j : ℕ) → i < length lists → j < length lists → place lists i ≡ place lists j → i ≡ j

-- what contracts see of a table
pub record Lists : Type 0 where
  pub vars : ℕ
  pub budget : ℕ
  pub lists : List Truths

-- a node for these sons was there or was made, and no other
pub record IsMade (old new : Lists) (variable low high at : ℕ) : Type 0 where
  pub within : at < length new.lists
  pub below : height (place new.lists at) + variable ≤ old.vars
  pub is : raised_to (old.vars - variable) (place new.lists at) ≡ joined old.vars old.lists variable low high
  pub lists : (new.lists ≡ old.lists)
      ⊎ ((new.lists ≡ old.lists ++ joined old.vars old.lists variable low high ∷ [])
      × IsUneven (joined old.vars old.lists variable low high))

-- the list of these sons is new, and there is no room for it
pub record IsFull (old : Lists) (variable low high : ℕ) : Type 0 where
  pub full : length old.lists ≡ old.budget + 2
  pub uneven : IsUneven (joined old.vars old.lists variable low high)
  pub absent : Contains old.lists (joined old.vars old.lists variable low high) → ⊥

-- it is stored as the tuple of its fields
abbrev pub lists_code : Coded Lists
lists_code =
    code_by (ℕ × (ℕ × List Truths)) (coded× coded_ℕ (coded× coded_ℕ (coded_list truths_code)))
    (λ d. (d.vars, (d.budget, d.lists))) (λ p. record { vars = p.0; budget = p.1.0; lists = p.1.1 }) (λ _. refl)

-- what holds of every table
pub record IsWhole (d : Lists) : Type 0 where
  pub some : 2 ≤ length d.lists
  pub zero_is : place d.lists 0 ≡ constant false
  pub one_is : place d.lists 1 ≡ constant true
  pub uneven : (i : ℕ) → i + 2 < length d.lists → IsUneven (place d.lists (i + 2))
  pub small : (i : ℕ) → i < length d.lists → height (place d.lists i) ≤ d.vars
  pub distinct : (i j : ℕ) → i < length d.lists → j < length d.lists → place d.lists i ≡ place d.lists j → i ≡ j
  -- two functions over all variables are equal only at one place
  pub functions : (i j : ℕ) → i < length d.lists → j < length d.lists
      → raised_to d.vars (place d.lists i) ≡ raised_to d.vars (place d.lists j) → i ≡ j
  -- all parts are there
  pub closed : (i : ℕ) → i < length d.lists → (x : Truths) → IsUneven x → IsPart x (place d.lists i) → Contains d.lists x
