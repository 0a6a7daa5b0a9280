-- The statements of a state machine bit by bit, over the bits of its ports, and the machine that they are.
use Rattle.std.specs.Prelude.{◌≡◌, ℕ, ◌+◌, bytes_eq, List, [], ◌∷◌, map, Option, None, Some, IsPermutation, if◌then◌else◌}
use Rattle.vlsi_base.specs.declared.name.Name.{Name}
use Rattle.vlsi_base.specs.declared.entity.NewName.{NewName}
use Rattle.vlsi_base.specs.Tree.{Tree}
use Rattle.bool_expr.specs.Expression.{Expression}
use Rattle.machine_core.specs.Machine.{names_of}
use Rattle.machine_core.specs.Checked.{AreInOrder}
use Rattle.source_checks.specs.declared.symbol_table.Symbol.{Symbol}
use Rattle.source_checks.specs.Symbols.{scalar}
use Rattle.source_checks.specs.declared.statement.Target.{Target}
use Rattle.source_checks.specs.Formula.{Formula, formulas, first_bit, numbered}
use Rattle.source_checks.specs.Drivers.{target_names}
use Rattle.source_checks.specs.Elaboration.{port_bits}
use Rattle.source_checks.specs.Places.{Use}
use Rattle.fsm_machine.specs.Statements as s
use Rattle.fsm_machine.specs.Fsm.{Fsm}
use Rattle.fsm_text.specs.Written.{StatementTree, asserted, assigned, chosen, selected, BodyTree, finish, next, PartsTree, only, either, further, BranchesTree, closed, others, listed, MachineTree}
use Rattle.fsm_io.specs.Known.{Named, symbols, texts}
use Rattle.fsm_io.specs.Looks.{plain_use}

-- the number of a state; as many as there are where it is none
abbrev pub state_number : List (List ℕ) → List ℕ → ℕ
state_number [] text = 0
state_number (s ∷ states) text = if bytes_eq s text then 0 else state_number states text + 1

abbrev pub number_of : List (List ℕ) → Option Use → ℕ
number_of states None = 0
number_of states (Some u) = state_number states u.text

-- the state that is assigned to the next state
abbrev pub next_number : List (List ℕ) → Tree → ℕ
next_number states e = number_of states (plain_use e)

-- one assignment for each bit, from the left
abbrev pub assign_bits : List Name → List Name → List Formula → s.Statements → s.Statements
assign_bits vars [] values rest = rest
assign_bits vars (n ∷ names) [] rest = rest
assign_bits vars (n ∷ names) (v ∷ values) rest = s.assign (s.output n (numbered vars v)) (assign_bits vars names values rest)

-- what the bits of expressions are numbered by, the declared names, the states, and the next state
pub record Frame : Type 0 where
  pub vars : List Name
  pub known : List Symbol
  pub states : List (List ℕ)
  pub next : List ℕ

abbrev pub condition_of : Frame → Tree → Expression
condition_of f c = numbered f.vars (first_bit (formulas f.known c))

-- an assignment before the others
abbrev pub assignment_bits : Frame → Target → Tree → s.Statements → s.Statements
assignment_bits f t e rest =
    if bytes_eq t.name f.next then s.assign (s.next (next_number f.states e)) rest
    else assign_bits f.vars (target_names f.known t) (formulas f.known e) rest

abbrev mutual
  pub body_bits : Frame → BodyTree → s.Statements
  body_bits f finish = s.finish
  body_bits f (next st rest) = statement_bits f st (body_bits f rest)

  -- before the others
  pub statement_bits : Frame → StatementTree → s.Statements → s.Statements
  statement_bits f (asserted e) rest = rest
  statement_bits f (assigned t first e) rest = assignment_bits f t e rest
  statement_bits f (chosen parts) rest = s.choose (parts_bits f parts) rest
  statement_bits f (selected line called branches) rest = s.select (branches_bits f branches) rest

  pub parts_bits : Frame → PartsTree → s.Parts
  parts_bits f (only line c a) = s.only (condition_of f c) (body_bits f a)
  parts_bits f (either line c a b) = s.either (condition_of f c) (body_bits f a) (body_bits f b)
  parts_bits f (further line c a more) = s.further (condition_of f c) (body_bits f a) (parts_bits f more)

  pub branches_bits : Frame → BranchesTree → s.Branches
  branches_bits f closed = s.closed
  branches_bits f (others a) = s.others (body_bits f a)
  branches_bits f (listed names a more) = s.listed (map (λ (n : NewName). state_number f.states n.text) names) (body_bits f a) (branches_bits f more)

abbrev pub frame_of : MachineTree → Named → List Name → Frame
frame_of m n vars = record { vars = vars; known = symbols m; states = texts m.states.states; next = n.next }

-- The state machine that a text is: its ports are those of the entity without vdd and vss, in the order of names, and its statements
-- are those of the first process, over the numbers of the ports' bits.
pub record IsMachineOf (m : MachineTree) (n : Named) (f : Fsm) : Type 0 where
  pub name : f.name ≡ m.entity.name
  pub ports : IsPermutation f.ports (port_bits (symbols m))
  pub ordered : AreInOrder (names_of f.ports)
  pub clock : f.clock ≡ scalar n.clock
  pub states : f.states ≡ map (λ (s : NewName). scalar s.text) m.states.states
  pub body : f.body ≡ body_bits (frame_of m n (names_of f.ports)) m.step.body
