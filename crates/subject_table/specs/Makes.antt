-- How a table makes nodes by a rule.
use Rattle.std.specs.Prelude.{◌≡◌, ℕ, ◌<◌, ◌≤◌, List, [], ◌∷◌, ◌++◌}
use Rattle.vlsi_base.specs.Member.{In}
use Rattle.graph_theory.specs.Graph.{Node}
use Rattle.subject_table.specs.declared.steps.Step.{Step}
use Rattle.subject_table.specs.declared.steps.Step.TheVariants as step
use Rattle.subject_table.specs.declared.table.Table.{Table}
use Rattle.subject_table.specs.View.{kinds, end_of}
use Rattle.subject_table.specs.Rules.{Rule, ◌>>=◌, Gives, IsInverse, IsPair, IsChoice}

-- By the rule this is made over these nodes, and each number that the table got is one of those that are made for it.
pub record Made {A : Type 0} (t u : Table) (rule : Rule A) (nodes : List Node) (r : A) : Type 0 where
  pub parts : List ℕ
  pub is : rule t.held nodes r parts
  pub only : (x : ℕ) → end_of t ≤ x → x < end_of u → In x parts

-- The nodes that were there stay, and by the rule this is made, whatever is added later.
pub record Makes {A : Type 0} (t u : Table) (rule : Rule A) (r : A) : Type 0 where
  pub held : u.held ≡ t.held
  pub more : List Node
  pub nodes : kinds u ≡ kinds t ++ more
  pub is : (later : List Node) → Made t u rule (kinds u ++ later) r

-- What the rest of a rule makes, with these nodes, the whole rule makes. The nodes that the table got are made for it.
pub record Turned {A : Type 0} (t u : Table) (whole : Rule A) (nodes : List Node) (r : A) (rest : List ℕ) : Type 0 where
  pub parts : List ℕ
  pub is : whole t.held nodes r parts
  pub only : (x : ℕ) → end_of t ≤ x → x < end_of u → In x parts
  pub keeps : (x : ℕ) → In x rest → In x parts

-- A part of a rule is done, and this is the rest of it.
pub record Leads {A : Type 0} (t u : Table) (whole rest : Rule A) : Type 0 where
  pub held : u.held ≡ t.held
  pub more : List Node
  pub nodes : kinds u ≡ kinds t ++ more
  pub turns : (later : List Node) (r : A) (parts : List ℕ) → rest t.held (kinds u ++ later) r parts → Turned t u whole (kinds u ++ later) r parts

-- an operator that lacks this operand
abbrev pub IsStep : Step → ℕ → Rule ℕ
IsStep step.Not x = IsInverse x
IsStep (step.Pair g b) x = IsPair g x b
IsStep (step.Choice c a) x = IsChoice c a x

-- operators one inside the other over this operand, the outermost first
abbrev pub IsClimb : List Step → ℕ → Rule ℕ
IsClimb [] x = Gives x
IsClimb (s ∷ ss) x = IsClimb ss x >>= λ y. IsStep s y
