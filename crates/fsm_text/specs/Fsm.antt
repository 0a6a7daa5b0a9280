-- The grammar of state machines. Here and below, `room` is how many parentheses, ifs and cases more may be open. The
-- operators of each expression are counted from 0: the token behind it begins the count anew.
use Rattle.std.specs.Prelude.{◌≡◌, ℕ, zero, suc, ◌-◌, List, [], ◌∷◌, Option, None, Some}
use Rattle.vlsi_base.specs.declared.entity.Entity.{Entity}
use Rattle.vlsi_base.specs.declared.entity.NewName.{NewName}
use Rattle.vhdl_token.specs.declared.keyword.Keyword.TheVariants as word
use Rattle.vhdl_token.specs.declared.token.Sign.TheVariants as sign
use Rattle.grammar_theory.specs.declared.form.Form.TheVariants as form
use Rattle.grammar_theory.specs.declared.limits.TheConstants.{DEPTH}
use Rattle.grammar_theory.specs.Marks.{starts, opens, spells, Item}
use Rattle.grammar_theory.specs.Grammar.{Grammar, none, nothing, one, marked, ◌or◌, ◌>>=◌, list, placed, at_some}
use Rattle.vhdl_front.specs.Cursor.{name_of}
use Rattle.vhdl_front.specs.Expression.{closing, expression, less}
use Rattle.vhdl_front.specs.Entity.{new_name, identifier, declared, another, entity}
use Rattle.vbe_text.specs.Vbe.{target, report, severity, repeated, architecture_head}
use Rattle.fsm_text.specs.declared.file.FirstToken.{FirstToken}
use Rattle.fsm_text.specs.declared.file.StateType.{StateType}
use Rattle.fsm_text.specs.declared.file.StateSignals.{StateSignals}
use Rattle.fsm_text.specs.Written.{kept_of, StatementTree, asserted, assigned, chosen, selected, BodyTree, BranchesTree, PartTree, BranchTree, StepTree, ClockTree, MachineTree, body_of, parts_of, branches_of}

-- ---- names

-- a name that is used, with its line
unfoldable pub used_name : Grammar NewName
used_name = do
  t ← one form.Identifier
  nothing (new_name t)

unfoldable pub next_name : Grammar NewName
next_name = do
  t ← one (form.Sign sign.Comma)
  used_name

-- the names behind `process`, which may be left out
unfoldable pub sensitivity : ℕ → Grammar (List NewName)
sensitivity room = (do
  t ← marked (form.Sign sign.LeftParen) (λ _. opens room)
  first ← used_name
  more ← list next_name
  closing (first ∷ more)) or nothing []

-- a sentence of at least one token, with what is kept of the first
abbrev pub headed : {A : Type 0} → Grammar A → Grammar (FirstToken × A)
headed L [] v = ⊥
headed L (t ∷ items) v = L (t ∷ items) v.1 × (v.0 ≡ kept_of t.token)

-- ---- statements; what may stand in an if or a case is a parameter

unfoldable pub assertion : ℕ → Grammar StatementTree
assertion room = do
  t ← one (form.Keyword word.Assert)
  e ← expression room
  r ← report
  s ← severity
  u ← marked (form.Sign sign.Semicolon) (λ _. starts)
  nothing (asserted e)

unfoldable pub assignment : ℕ → Grammar StatementTree
assignment room = do
  x ← target room
  t ← one (form.Sign sign.Assign)
  e ← headed (expression room)
  u ← marked (form.Sign sign.Semicolon) (λ _. starts)
  nothing (assigned x e.0 e.1)

-- a condition and what is done where it is 1
unfoldable pub part : ℕ → Grammar BodyTree → Grammar PartTree
part room inner = do
  c ← placed (expression room)
  t ← marked (form.Keyword word.Then) (λ _. starts)
  body ← inner
  nothing (record { line = c.0; condition = c.1; body = body })

unfoldable pub further_part : ℕ → Grammar BodyTree → Grammar PartTree
further_part room inner = do
  t ← one (form.Keyword word.Elsif)
  part room inner

unfoldable pub last_part : Grammar BodyTree → Grammar (Option BodyTree)
last_part inner = (do
  t ← one (form.Keyword word.Else)
  body ← inner
  nothing (Some body)) or nothing None

unfoldable pub behind_if : ℕ → Grammar BodyTree → Grammar StatementTree
behind_if room inner = do
  first ← part room inner
  more ← list (further_part room inner)
  last ← last_part inner
  u ← one (form.Keyword word.End)
  v ← one (form.Keyword word.If)
  w ← one (form.Sign sign.Semicolon)
  nothing (chosen (parts_of first more last))

unfoldable pub conditional : ℕ → Grammar BodyTree → Grammar StatementTree
conditional room inner = do
  t ← marked (form.Keyword word.If) (λ _. opens room)
  behind_if (room - 1) inner

unfoldable pub next_state : Grammar NewName
next_state = do
  t ← one (form.Sign sign.Bar)
  used_name

unfoldable pub listed_states : Grammar (List NewName)
listed_states = do
  first ← used_name
  more ← list next_state
  nothing (first ∷ more)

-- states, and what is done in them
unfoldable pub listed_branch : Grammar BodyTree → Grammar BranchTree
listed_branch inner = do
  states ← listed_states
  t ← one (form.Sign sign.Arrow)
  body ← inner
  nothing (record { states = states; body = body })

unfoldable pub led_branch : Grammar BodyTree → Grammar BranchTree
led_branch inner = do
  t ← one (form.Keyword word.When)
  listed_branch inner

unfoldable pub others_branch : Grammar BodyTree → Grammar BodyTree
others_branch inner = do
  t ← one (form.Keyword word.Others)
  u ← one (form.Sign sign.Arrow)
  inner

unfoldable pub last_branch : Grammar BodyTree → Grammar (Option BodyTree)
last_branch inner = (do
  t ← one (form.Keyword word.When)
  body ← others_branch inner
  nothing (Some body)) or nothing None

unfoldable pub branches : Grammar BodyTree → Grammar BranchesTree
branches inner = do
  all ← list (led_branch inner)
  last ← last_branch inner
  nothing (branches_of all last)

-- for the line of the word
unfoldable pub behind_case : ℕ → Grammar BodyTree → Grammar StatementTree
behind_case line inner = do
  name ← used_name
  u ← one (form.Keyword word.Is)
  all ← branches inner
  v ← one (form.Keyword word.End)
  w ← one (form.Keyword word.Case)
  x ← one (form.Sign sign.Semicolon)
  nothing (selected line name all)

unfoldable pub case_statement : ℕ → Grammar BodyTree → Grammar StatementTree
case_statement room inner = do
  t ← marked (form.Keyword word.Case) (λ _. opens room)
  behind_case t.line inner

unfoldable pub statement : ℕ → Grammar BodyTree → Grammar StatementTree
statement room inner = assertion room or conditional room inner or case_statement room inner or assignment room

unfoldable pub body_over : ℕ → Grammar BodyTree → Grammar BodyTree
body_over room inner = do
  all ← list (statement room inner)
  nothing (body_of all)

-- ifs and cases within one another at most so often
unfoldable pub nested : ℕ → ℕ → Grammar BodyTree
nested zero room = body_over room none
nested (suc deeper) room = body_over room (nested deeper (less room))

abbrev pub body : ℕ → Grammar BodyTree
body room = at_some (λ deeper. nested deeper room)

-- ---- processes

-- the label of a process, which may be left out
unfoldable pub label : Grammar (Option (List ℕ))
label = (do
  name ← identifier
  t ← one (form.Sign sign.Colon)
  nothing (Some name)) or nothing None

-- behind the label
unfoldable pub process_head : ℕ → Grammar (List NewName)
process_head room = do
  t ← one (form.Keyword word.Process)
  names ← sensitivity room
  u ← one (form.Keyword word.Begin)
  nothing names

-- behind `end process`: the label may stand there where there is one
unfoldable pub label_again : Option (List ℕ) → Grammar (Unit {0})
label_again None = do
  t ← one (form.Sign sign.Semicolon)
  nothing tt
label_again (Some name) = repeated name

unfoldable pub process_end : Option (List ℕ) → Grammar (Unit {0})
process_end name = do
  t ← one (form.Keyword word.Process)
  label_again name

unfoldable pub step_process : ℕ → Grammar StepTree
step_process room = do
  name ← label
  names ← process_head room
  all ← body room
  t ← one (form.Keyword word.End)
  u ← process_end name
  nothing (record { sensitivity = names; body = all; end_line = t.line })

-- the signal that is assigned, and the one that is assigned to it
unfoldable pub load : Grammar (NewName × NewName)
load = do
  into ← used_name
  t ← one (form.Sign sign.Assign)
  from ← used_name
  u ← one (form.Sign sign.Semicolon)
  nothing (into, from)

-- behind the condition
unfoldable pub loading : Option (List ℕ) → Grammar (NewName × NewName)
loading name = do
  t ← marked (form.Keyword word.Then) (λ _. starts)
  l ← load
  v ← one (form.Keyword word.End)
  w ← one (form.Keyword word.If)
  x ← one (form.Sign sign.Semicolon)
  y ← one (form.Keyword word.End)
  z ← process_end name
  nothing l

unfoldable pub clock_process : ℕ → Grammar ClockTree
clock_process room = do
  name ← label
  names ← process_head room
  t ← marked (form.Keyword word.If) (λ _. opens room)
  c ← placed (expression (room - 1))
  l ← loading name
  nothing (record { sensitivity = names; condition_line = c.0; condition = c.1; target = l.0; value = l.1 })

-- ---- the whole text

-- the states are declared on the line of `type`
unfoldable pub state_names : ℕ → ℕ → Grammar (List NewName)
state_names room line = do
  t ← marked (form.Sign sign.LeftParen) (λ _. opens room)
  first ← declared line
  more ← list (another line)
  u ← one (form.Sign sign.RightParen)
  v ← one (form.Sign sign.Semicolon)
  nothing (first ∷ more)

unfoldable pub state_type : ℕ → Grammar StateType
state_type room = do
  t ← one (form.Keyword word.Type)
  name ← declared t.line
  u ← one (form.Keyword word.Is)
  all ← state_names room t.line
  nothing (record { line = t.line; name = name; states = all })

-- the name of the type, behind those of its signals
unfoldable pub of_type : List ℕ → Grammar (Unit {0})
of_type type_name = do
  u ← one (form.Sign sign.Colon)
  v ← marked form.Identifier (λ v. spells type_name (name_of v))
  w ← one (form.Sign sign.Semicolon)
  nothing tt

unfoldable pub state_signals : List ℕ → Grammar StateSignals
state_signals type_name = do
  t ← one (form.Keyword word.Signal)
  first ← declared t.line
  second ← another t.line
  u ← of_type type_name
  nothing (record { line = t.line; first = first; second = second })

unfoldable pub processes : ℕ → Grammar (StepTree × ClockTree)
processes room = do
  t ← one (form.Keyword word.Begin)
  step ← step_process room
  clock ← clock_process room
  u ← one (form.Keyword word.End)
  nothing (step, clock)

unfoldable pub architecture : ℕ → Entity → Grammar MachineTree
architecture room e = do
  name ← architecture_head e.name
  states ← state_type room
  signals ← state_signals states.name.text
  both ← processes room
  u ← repeated name
  nothing (record { entity = e; states = states; signals = signals; step = both.0; clock = both.1 })

unfoldable pub machine : ℕ → Grammar MachineTree
machine room = do
  e ← entity room
  architecture room e

-- whole texts of state machines
abbrev pub fsm : Grammar MachineTree
fsm = machine DEPTH
