-- A state machine as its grammar has it: its expressions are trees, wherever they lie in memory.
use Rattle.std.specs.Prelude.{ℕ, List, [], ◌∷◌, Option, None, Some}
use Rattle.vlsi_base.specs.Tree.{Tree, view}
use Rattle.vlsi_base.specs.declared.entity.Entity.{Entity}
use Rattle.vlsi_base.specs.declared.entity.NewName.{NewName}
use Rattle.vhdl_token.specs.declared.token.PlacedToken.{PlacedToken}
use Rattle.grammar_theory.specs.declared.form.Form.TheVariants as form
use Rattle.grammar_theory.specs.Tokens.{is_of}
use Rattle.source_checks.specs.declared.statement.Target.{Target}
use Rattle.fsm_text.specs.declared.file.FirstToken.{FirstToken}
use Rattle.fsm_text.specs.declared.file.Statement.{Statement, Assert, Assign, If', Case'}
use Rattle.fsm_text.specs.declared.file.Body.{Body, Finish, Next'}
use Rattle.fsm_text.specs.declared.file.Parts.{Parts, Only', Either', Further'}
use Rattle.fsm_text.specs.declared.file.Branches.{Branches, Closed, Others', Listed'}
use Rattle.fsm_text.specs.declared.file.StateType.{StateType}
use Rattle.fsm_text.specs.declared.file.StateSignals.{StateSignals}
use Rattle.fsm_text.specs.declared.file.StepProcess.{StepProcess}
use Rattle.fsm_text.specs.declared.file.ClockProcess.{ClockProcess}
use Rattle.fsm_text.specs.declared.file.StateFile.{StateFile}

-- what is kept of the first token of what is assigned
abbrev pub kept_of : PlacedToken → FirstToken
kept_of t = record { line = t.line; is_name = is_of form.Identifier t }

-- lines, names and targets as in Statement, Body, Parts and Branches
mutual
  pub data StatementTree : Type 0 where
    asserted : Tree → StatementTree
    assigned : Target → FirstToken → Tree → StatementTree
    chosen : PartsTree → StatementTree
    selected : ℕ → NewName → BranchesTree → StatementTree

  pub data BodyTree : Type 0 where
    finish : BodyTree
    next : StatementTree → BodyTree → BodyTree

  pub data PartsTree : Type 0 where
    only : ℕ → Tree → BodyTree → PartsTree
    either : ℕ → Tree → BodyTree → BodyTree → PartsTree
    further : ℕ → Tree → BodyTree → PartsTree → PartsTree

  pub data BranchesTree : Type 0 where
    closed : BranchesTree
    others : BodyTree → BranchesTree
    listed : List NewName → BodyTree → BranchesTree → BranchesTree

-- a condition, the line of its first token, and what is done where it is 1
pub record PartTree : Type 0 where
  pub line : ℕ
  pub condition : Tree
  pub body : BodyTree

-- states, and what is done in them
pub record BranchTree : Type 0 where
  pub states : List NewName
  pub body : BodyTree

pub record StepTree : Type 0 where
  pub sensitivity : List NewName
  pub body : BodyTree
  pub end_line : ℕ

pub record ClockTree : Type 0 where
  pub sensitivity : List NewName
  pub condition_line : ℕ
  pub condition : Tree
  pub target : NewName
  pub value : NewName

pub record MachineTree : Type 0 where
  pub entity : Entity
  pub states : StateType
  pub signals : StateSignals
  pub step : StepTree
  pub clock : ClockTree

-- ---- from lists of what stands one behind the other

-- statements, and behind them a body
abbrev pub followed : List StatementTree → BodyTree → BodyTree
followed [] body = body
followed (s ∷ statements) body = next s (followed statements body)

abbrev pub body_of : List StatementTree → BodyTree
body_of statements = followed statements finish

-- the first part of an if, the parts behind an `elsif`, and what stands behind `else`
abbrev pub parts_of : PartTree → List PartTree → Option BodyTree → PartsTree
parts_of p [] None = only p.line p.condition p.body
parts_of p [] (Some last) = either p.line p.condition p.body last
parts_of p (q ∷ more) last = further p.line p.condition p.body (parts_of q more last)

abbrev pub last_branch : Option BodyTree → BranchesTree
last_branch None = closed
last_branch (Some body) = others body

-- branches, and behind them others
abbrev pub branched : List BranchTree → BranchesTree → BranchesTree
branched [] rest = rest
branched (b ∷ more) rest = listed b.states b.body (branched more rest)

abbrev pub branches_of : List BranchTree → Option BodyTree → BranchesTree
branches_of all last = branched all (last_branch last)

-- ---- what lies in memory

abbrev mutual
  pub statement_view : Statement → StatementTree
  statement_view (Assert e) = asserted (view e)
  statement_view (Assign target first e) = assigned target first (view e)
  statement_view (If' p parts) = chosen (parts_view parts)
  statement_view (Case' line name p branches) = selected line name (branches_view branches)

  pub body_view : Body → BodyTree
  body_view Finish = finish
  body_view (Next' p s q rest) = next (statement_view s) (body_view rest)

  pub parts_view : Parts → PartsTree
  parts_view (Only' line c p a) = only line (view c) (body_view a)
  parts_view (Either' line c p a q b) = either line (view c) (body_view a) (body_view b)
  parts_view (Further' line c p a q more) = further line (view c) (body_view a) (parts_view more)

  pub branches_view : Branches → BranchesTree
  branches_view Closed = closed
  branches_view (Others' p a) = others (body_view a)
  branches_view (Listed' states p a q more) = listed states (body_view a) (branches_view more)

abbrev pub step_view : StepProcess → StepTree
step_view p = record { sensitivity = p.sensitivity; body = body_view p.body; end_line = p.end_line }

abbrev pub clock_view : ClockProcess → ClockTree
clock_view p = record { sensitivity = p.sensitivity; condition_line = p.condition_line; condition = view p.condition; target = p.target; value = p.value }

abbrev pub machine_view : StateFile → MachineTree
machine_view f = record { entity = f.entity; states = f.states; signals = f.signals; step = step_view f.step; clock = clock_view f.clock }
