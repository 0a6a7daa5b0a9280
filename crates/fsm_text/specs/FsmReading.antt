-- Reading state machines from left to right, by the next token alone; before `others` by two.
use Rattle.std.specs.Prelude.{ℕ, zero, suc, ◌-◌, Bool, false, not, ◌&&◌, List, [], ◌∷◌, length, Option, None, Some, Ok, Err, if◌then◌else◌}
use Rattle.vlsi_base.specs.declared.entity.Entity.{Entity}
use Rattle.vlsi_base.specs.declared.entity.NewName.{NewName}
use Rattle.vhdl_token.specs.declared.keyword.Keyword.TheVariants as word
use Rattle.vhdl_token.specs.declared.token.Sign.TheVariants as sign
use Rattle.vhdl_token.specs.declared.token.PlacedToken.{PlacedToken}
use Rattle.grammar_theory.specs.declared.form.Form.TheVariants as form
use Rattle.grammar_theory.specs.declared.refusal.Reason.TheVariants as reason
use Rattle.grammar_theory.specs.Tokens.{code, is_of, is_at}
use Rattle.grammar_theory.specs.Marks.{starts, opens, spells}
use Rattle.grammar_theory.specs.Outcome.{Reader, refusal, ◌>>=◌, take_at, take_marked, list_at, placed_at}
use Rattle.vhdl_front.specs.Cursor.{name_of}
use Rattle.vhdl_front.specs.Entity.{new_name}
use Rattle.vhdl_front.specs.Reading.{closing_at, expression_at}
use Rattle.vhdl_front.specs.EntityReading.{identifier_at, declared_at, another_at, entity_at}
use Rattle.vbe_text.specs.VbeReading.{target_at, report_at, severity_at, stop_at, repeated_at, architecture_head_at}
use Rattle.fsm_text.specs.declared.file.FirstToken.{FirstToken}
use Rattle.fsm_text.specs.declared.file.StateType.{StateType}
use Rattle.fsm_text.specs.declared.file.StateSignals.{StateSignals}
use Rattle.fsm_text.specs.Written.{kept_of, StatementTree, asserted, assigned, chosen, selected, BodyTree, BranchesTree, closed, others, listed, PartTree, BranchTree, StepTree, ClockTree, MachineTree, body_of, parts_of}

-- ---- names

unfoldable pub used_name_at : Reader NewName
used_name_at here = do
  t ← take_at form.Identifier here
  Ok (new_name t.0, t.1)

unfoldable pub next_name_at : Reader NewName
next_name_at here = do
  t ← take_at (form.Sign sign.Comma) here
  used_name_at t.1

unfoldable pub listed_names_at : ℕ → Reader (List NewName)
listed_names_at room here = do
  t ← take_marked (form.Sign sign.LeftParen) (λ _. opens room) here
  first ← used_name_at t.1
  more ← list_at (code (form.Sign sign.Comma) ∷ []) next_name_at first.1
  closing_at (first.0 ∷ more.0) more.1

unfoldable pub sensitivity_at : ℕ → Reader (List NewName)
sensitivity_at room here = if is_at (form.Sign sign.LeftParen) here.rest then listed_names_at room here else Ok ([], here)

-- what is kept of the next token; where there is none, its line is 0
abbrev pub kept_here : List PlacedToken → FirstToken
kept_here [] = record { line = 0; is_name = false }
kept_here (t ∷ ts) = kept_of t

-- what is read, with what is kept of its first token
unfoldable pub headed_at : {A : Type 0} → Reader A → Reader (FirstToken × A)
headed_at read here = do
  v ← read here
  Ok ((kept_here here.rest, v.0), v.1)

-- ---- statements

unfoldable pub assertion_at : ℕ → Reader StatementTree
assertion_at room here = do
  t ← take_at (form.Keyword word.Assert) here
  e ← expression_at room t.1
  r ← report_at e.1
  s ← severity_at r.1
  u ← take_marked (form.Sign sign.Semicolon) (λ _. starts) s.1
  Ok (asserted e.0, u.1)

unfoldable pub assignment_at : ℕ → Reader StatementTree
assignment_at room here = do
  x ← target_at room here
  t ← take_at (form.Sign sign.Assign) x.1
  e ← headed_at (expression_at room) t.1
  u ← take_marked (form.Sign sign.Semicolon) (λ _. starts) e.1
  Ok (assigned x.0 e.0.0 e.0.1, u.1)

unfoldable pub part_at : ℕ → Reader BodyTree → Reader PartTree
part_at room inner here = do
  c ← placed_at (expression_at room) here
  t ← take_marked (form.Keyword word.Then) (λ _. starts) c.1
  body ← inner t.1
  Ok (record { line = c.0.0; condition = c.0.1; body = body.0 }, body.1)

unfoldable pub further_part_at : ℕ → Reader BodyTree → Reader PartTree
further_part_at room inner here = do
  t ← take_at (form.Keyword word.Elsif) here
  part_at room inner t.1

unfoldable pub led_last_at : Reader BodyTree → Reader (Option BodyTree)
led_last_at inner here = do
  t ← take_at (form.Keyword word.Else) here
  body ← inner t.1
  Ok (Some body.0, body.1)

unfoldable pub last_part_at : Reader BodyTree → Reader (Option BodyTree)
last_part_at inner here = if is_at (form.Keyword word.Else) here.rest then led_last_at inner here else Ok (None, here)

unfoldable pub behind_if_at : ℕ → Reader BodyTree → Reader StatementTree
behind_if_at room inner here = do
  first ← part_at room inner here
  more ← list_at (code (form.Keyword word.Elsif) ∷ []) (further_part_at room inner) first.1
  last ← last_part_at inner more.1
  u ← take_at (form.Keyword word.End) last.1
  v ← take_at (form.Keyword word.If) u.1
  w ← take_at (form.Sign sign.Semicolon) v.1
  Ok (chosen (parts_of first.0 more.0 last.0), w.1)

unfoldable pub conditional_at : ℕ → Reader BodyTree → Reader StatementTree
conditional_at room inner here = do
  t ← take_marked (form.Keyword word.If) (λ _. opens room) here
  behind_if_at (room - 1) inner t.1

unfoldable pub next_state_at : Reader NewName
next_state_at here = do
  t ← take_at (form.Sign sign.Bar) here
  used_name_at t.1

unfoldable pub listed_states_at : Reader (List NewName)
listed_states_at here = do
  first ← used_name_at here
  more ← list_at (code (form.Sign sign.Bar) ∷ []) next_state_at first.1
  Ok (first.0 ∷ more.0, more.1)

unfoldable pub listed_branch_at : Reader BodyTree → Reader BranchTree
listed_branch_at inner here = do
  states ← listed_states_at here
  t ← take_at (form.Sign sign.Arrow) states.1
  body ← inner t.1
  Ok (record { states = states.0; body = body.0 }, body.1)

unfoldable pub others_branch_at : Reader BodyTree → Reader BranchesTree
others_branch_at inner here = do
  t ← take_at (form.Keyword word.Others) here
  u ← take_at (form.Sign sign.Arrow) t.1
  body ← inner u.1
  Ok (others body.0, body.1)

-- behind a `when` with states, and behind what is done in them
unfoldable pub branch_before_at : Reader BodyTree → Reader BranchesTree → Reader BranchesTree
branch_before_at inner more here = do
  b ← listed_branch_at inner here
  rest ← more b.1
  Ok (listed b.0.states b.0.body rest.0, rest.1)

unfoldable pub behind_when_at : Reader BodyTree → Reader BranchesTree → Reader BranchesTree
behind_when_at inner more here = do
  t ← take_at (form.Keyword word.When) here
  if is_at (form.Keyword word.Others) t.1.rest then others_branch_at inner t.1 else branch_before_at inner more t.1

-- fewer branches than this
unfoldable pub fewer_branches_at : Reader BodyTree → ℕ → Reader BranchesTree
fewer_branches_at inner zero here = Ok (closed, here)
fewer_branches_at inner (suc n) here =
    if is_at (form.Keyword word.When) here.rest then behind_when_at inner (fewer_branches_at inner n) here else Ok (closed, here)

unfoldable pub branches_at : Reader BodyTree → Reader BranchesTree
branches_at inner here = fewer_branches_at inner (length here.rest) here

unfoldable pub behind_case_at : ℕ → Reader BodyTree → Reader StatementTree
behind_case_at line inner here = do
  name ← used_name_at here
  u ← take_at (form.Keyword word.Is) name.1
  all ← branches_at inner u.1
  v ← take_at (form.Keyword word.End) all.1
  w ← take_at (form.Keyword word.Case) v.1
  x ← take_at (form.Sign sign.Semicolon) w.1
  Ok (selected line name.0 all.0, x.1)

unfoldable pub case_statement_at : ℕ → Reader BodyTree → Reader StatementTree
case_statement_at room inner here = do
  t ← take_marked (form.Keyword word.Case) (λ _. opens room) here
  behind_case_at t.0.line inner t.1

unfoldable pub statement_at : ℕ → Reader BodyTree → Reader StatementTree
statement_at room inner here =
    if is_at (form.Keyword word.Assert) here.rest then assertion_at room here
    else (if is_at (form.Keyword word.If) here.rest then conditional_at room inner here
    else (if is_at (form.Keyword word.Case) here.rest then case_statement_at room inner here
    else assignment_at room here))

abbrev pub statement_kinds : List ℕ
statement_kinds = code (form.Keyword word.Assert) ∷ code (form.Keyword word.If) ∷ code (form.Keyword word.Case) ∷ code form.Identifier ∷ []

unfoldable pub statement_list_at : ℕ → Reader BodyTree → Reader (List StatementTree)
statement_list_at room inner = list_at statement_kinds (statement_at room inner)

unfoldable pub body_over_at : ℕ → Reader BodyTree → Reader BodyTree
body_over_at room inner here = do
  all ← statement_list_at room inner here
  Ok (body_of all.0, all.1)

-- in an if or a case, where so many more could be open before it
unfoldable pub inner_at : ℕ → Reader BodyTree
inner_at zero here = Err (refusal reason.Syntax here.rest)
inner_at (suc room) here = body_over_at room (inner_at room) here

abbrev pub body_at : ℕ → Reader BodyTree
body_at room = body_over_at room (inner_at room)

-- ---- processes

unfoldable pub led_label_at : Reader (Option (List ℕ))
led_label_at here = do
  name ← identifier_at here
  t ← take_at (form.Sign sign.Colon) name.1
  Ok (Some name.0, t.1)

unfoldable pub label_at : Reader (Option (List ℕ))
label_at here = if is_at form.Identifier here.rest then led_label_at here else Ok (None, here)

unfoldable pub process_head_at : ℕ → Reader (List NewName)
process_head_at room here = do
  t ← take_at (form.Keyword word.Process) here
  names ← sensitivity_at room t.1
  u ← take_at (form.Keyword word.Begin) names.1
  Ok (names.0, u.1)

unfoldable pub label_again_at : Option (List ℕ) → Reader (Unit {0})
label_again_at None here = stop_at here
label_again_at (Some name) here = repeated_at name here

unfoldable pub process_end_at : Option (List ℕ) → Reader (Unit {0})
process_end_at name here = do
  t ← take_at (form.Keyword word.Process) here
  label_again_at name t.1

unfoldable pub step_process_at : ℕ → Reader StepTree
step_process_at room here = do
  name ← label_at here
  names ← process_head_at room name.1
  all ← body_at room names.1
  t ← take_at (form.Keyword word.End) all.1
  u ← process_end_at name.0 t.1
  Ok (record { sensitivity = names.0; body = all.0; end_line = t.0.line }, u.1)

unfoldable pub load_at : Reader (NewName × NewName)
load_at here = do
  into ← used_name_at here
  t ← take_at (form.Sign sign.Assign) into.1
  from ← used_name_at t.1
  u ← take_at (form.Sign sign.Semicolon) from.1
  Ok ((into.0, from.0), u.1)

-- behind the condition of the process at the clock
unfoldable pub loading_at : Option (List ℕ) → Reader (NewName × NewName)
loading_at name here = do
  t ← take_marked (form.Keyword word.Then) (λ _. starts) here
  l ← load_at t.1
  v ← take_at (form.Keyword word.End) l.1
  w ← take_at (form.Keyword word.If) v.1
  x ← take_at (form.Sign sign.Semicolon) w.1
  y ← take_at (form.Keyword word.End) x.1
  z ← process_end_at name y.1
  Ok (l.0, z.1)

unfoldable pub clock_process_at : ℕ → Reader ClockTree
clock_process_at room here = do
  name ← label_at here
  names ← process_head_at room name.1
  t ← take_marked (form.Keyword word.If) (λ _. opens room) names.1
  c ← placed_at (expression_at (room - 1)) t.1
  l ← loading_at name.0 c.1
  Ok (record { sensitivity = names.0; condition_line = c.0.0; condition = c.0.1; target = l.0.0; value = l.0.1 }, l.1)

-- ---- the whole text

unfoldable pub state_names_at : ℕ → ℕ → Reader (List NewName)
state_names_at room line here = do
  t ← take_marked (form.Sign sign.LeftParen) (λ _. opens room) here
  first ← declared_at line t.1
  more ← list_at (code (form.Sign sign.Comma) ∷ []) (another_at line) first.1
  u ← take_at (form.Sign sign.RightParen) more.1
  v ← take_at (form.Sign sign.Semicolon) u.1
  Ok (first.0 ∷ more.0, v.1)

unfoldable pub state_type_at : ℕ → Reader StateType
state_type_at room here = do
  t ← take_at (form.Keyword word.Type) here
  name ← declared_at t.0.line t.1
  u ← take_at (form.Keyword word.Is) name.1
  all ← state_names_at room t.0.line u.1
  Ok (record { line = t.0.line; name = name.0; states = all.0 }, all.1)

-- behind the names of the signals
unfoldable pub of_type_at : List ℕ → Reader (Unit {0})
of_type_at type_name here = do
  u ← take_at (form.Sign sign.Colon) here
  v ← take_marked form.Identifier (λ v. spells type_name (name_of v)) u.1
  stop_at v.1

unfoldable pub state_signals_at : List ℕ → Reader StateSignals
state_signals_at type_name here = do
  t ← take_at (form.Keyword word.Signal) here
  first ← declared_at t.0.line t.1
  second ← another_at t.0.line first.1
  u ← of_type_at type_name second.1
  Ok (record { line = t.0.line; first = first.0; second = second.0 }, u.1)

unfoldable pub processes_at : ℕ → Reader (StepTree × ClockTree)
processes_at room here = do
  t ← take_at (form.Keyword word.Begin) here
  step ← step_process_at room t.1
  clock ← clock_process_at room step.1
  u ← take_at (form.Keyword word.End) clock.1
  Ok ((step.0, clock.0), u.1)

unfoldable pub architecture_at : ℕ → Entity → Reader MachineTree
architecture_at room e here = do
  name ← architecture_head_at e.name here
  states ← state_type_at room name.1
  signals ← state_signals_at states.0.name.text states.1
  both ← processes_at room signals.1
  u ← repeated_at name.0 both.1
  Ok (record { entity = e; states = states.0; signals = signals.0; step = both.0.0; clock = both.0.1 }, u.1)

unfoldable pub machine_at : ℕ → Reader MachineTree
machine_at room here = do
  e ← entity_at room here
  architecture_at room e.0 e.1
