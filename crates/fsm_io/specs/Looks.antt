-- What stands in statements, in file order, whichever ifs and cases it stands in.
use Rattle.std.specs.Prelude.{ℕ, Bool, true, false, ◌||◌, ◌&&◌, bytes_eq, List, [], ◌∷◌, ◌++◌, map, Option, None, Some, if◌then◌else◌}
use Rattle.std.specs.List.{flat_map}
use Rattle.std.specs.Option.{is_some}
use Rattle.vlsi_base.specs.Tree.{Tree, name}
use Rattle.vlsi_base.specs.declared.entity.NewName.{NewName}
use Rattle.source_checks.specs.declared.statement.Target.{Target}
use Rattle.source_checks.specs.Places.{Use, reads}
use Rattle.fsm_text.specs.declared.file.FirstToken.{FirstToken}
use Rattle.fsm_text.specs.Written.{StatementTree, asserted, assigned, chosen, selected, BodyTree, finish, next, PartsTree, only, either, further, BranchesTree, closed, others, listed, ClockTree, MachineTree}
use Rattle.fsm_io.specs.Known.{Named}

-- an assertion; an assignment with the first token of what is assigned; a condition with its line; a case with its line and its name, of which
-- is said whether another stands before it; the states of a branch
pub data Mention : Type 0 where
  asserting : Tree → Mention
  assigning : Target → FirstToken → Tree → Mention
  testing : ℕ → Tree → Mention
  selecting : Bool → ℕ → NewName → Mention
  listing : List NewName → Mention

-- whether there is a case
abbrev mutual
  pub body_has_case : BodyTree → Bool
  body_has_case finish = false
  body_has_case (next s rest) = holds_case s || body_has_case rest

  pub holds_case : StatementTree → Bool
  holds_case (asserted e) = false
  holds_case (assigned t first e) = false
  holds_case (chosen parts) = parts_have_case parts
  holds_case (selected line called branches) = true

  pub parts_have_case : PartsTree → Bool
  parts_have_case (only line c a) = body_has_case a
  parts_have_case (either line c a b) = body_has_case a || body_has_case b
  parts_have_case (further line c a more) = body_has_case a || parts_have_case more

-- what stands there, where a case does or doesn't stand before
abbrev mutual
  pub in_body : Bool → BodyTree → List Mention
  in_body seen finish = []
  in_body seen (next s rest) = in_statement seen s ++ in_body (seen || holds_case s) rest

  pub in_statement : Bool → StatementTree → List Mention
  in_statement seen (asserted e) = asserting e ∷ []
  in_statement seen (assigned t first e) = assigning t first e ∷ []
  in_statement seen (chosen parts) = in_parts seen parts
  in_statement seen (selected line called branches) = selecting seen line called ∷ in_branches branches

  pub in_parts : Bool → PartsTree → List Mention
  in_parts seen (only line c a) = testing line c ∷ in_body seen a
  in_parts seen (either line c a b) = testing line c ∷ (in_body seen a ++ in_body (seen || body_has_case a) b)
  in_parts seen (further line c a more) = testing line c ∷ (in_body seen a ++ in_parts (seen || body_has_case a) more)

  pub in_branches : BranchesTree → List Mention
  in_branches closed = []
  in_branches (others a) = in_body true a
  in_branches (listed states a more) = listing states ∷ (in_body true a ++ in_branches more)

-- all that stands in the process that takes a step
abbrev pub all_mentions : MachineTree → List Mention
all_mentions m = in_body false m.step.body

-- what a look at each finds, in file order
abbrev pub found : {A : Type 0} → (Mention → List A) → MachineTree → List A
found {A} look m = flat_map look (all_mentions m)

-- ---- names that are used

abbrev pub use_of : NewName → Use
use_of n = record { text = n.text; line = n.line }

-- the name that an expression is, alone
abbrev pub plain_use : Tree → Option Use
plain_use (name text line) = Some (record { text = text; line = line })
plain_use _ = None

abbrev pub is_plain : Tree → Bool
is_plain e = is_some (plain_use e)

-- a name alone, in no parentheses
abbrev pub is_bare : FirstToken → Tree → Bool
is_bare first e = first.is_name && is_plain e

-- A bare name that is assigned to the next state stands for a state, and is looked at with the states.
abbrev pub value_uses : Bool → FirstToken → Tree → List Use
value_uses to_next first e = if to_next && is_bare first e then [] else reads e

abbrev pub uses_at : Named → Mention → List Use
uses_at n (asserting e) = reads e
uses_at n (assigning t first e) = record { text = t.name; line = t.line } ∷ value_uses (bytes_eq t.name n.next) first e
uses_at n (testing line e) = reads e
uses_at n (selecting seen line called) = use_of called ∷ []
uses_at n (listing states) = []

-- the names of the process at the clock
abbrev pub clock_uses : ClockTree → List Use
clock_uses c = map use_of c.sensitivity ++ (reads c.condition ++ use_of c.target ∷ use_of c.value ∷ [])

-- all of them, in file order; those behind `process` among them
abbrev pub all_uses : MachineTree → Named → List Use
all_uses m n =
    map use_of m.step.sensitivity
    ++ (found (uses_at n) m ++ clock_uses m.clock)
