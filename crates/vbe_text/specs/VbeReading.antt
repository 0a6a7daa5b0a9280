-- Reading data-flow texts from left to right, by the next token alone.
use Rattle.std.specs.Prelude.{ℕ, ◌-◌, List, [], ◌∷◌, Ok, if◌then◌else◌}
use Rattle.vlsi_base.specs.Tree.{Tree}
use Rattle.vlsi_base.specs.declared.entity.Entity.{Entity}
use Rattle.vhdl_token.specs.declared.keyword.Keyword.TheVariants as word
use Rattle.vhdl_token.specs.declared.token.Sign.TheVariants as sign
use Rattle.vhdl_token.specs.declared.token.PlacedToken.{PlacedToken}
use Rattle.grammar_theory.specs.declared.form.Form.TheVariants as form
use Rattle.grammar_theory.specs.Tokens.{code, is_at}
use Rattle.grammar_theory.specs.Marks.{starts, chooses, again, opens, spells}
use Rattle.grammar_theory.specs.Outcome.{Reader, ◌>>=◌, take_at, take_marked, list_at, placed_at}
use Rattle.vhdl_front.specs.Cursor.{name_of}
use Rattle.vhdl_front.specs.Reading.{number_at, direction_at, closing_at, expression_at}
use Rattle.vhdl_front.specs.EntityReading.{identifier_at, entity_at, declarations_at}
use Rattle.source_checks.specs.declared.statement.Selection.{Selection}
use Rattle.source_checks.specs.declared.statement.Selection.TheVariants as selection
use Rattle.source_checks.specs.declared.statement.Target.{Target}
use Rattle.vbe_text.specs.Source.{ChoiceTree, AssignmentTree, StatementTree, asserted, assigned, blocked, SourceTree, FurtherTree}
use Rattle.vbe_text.specs.Vbe.{choice_of}

unfoldable pub range_at : ℕ → ℕ → Reader Selection
range_at paren left here = do
  falls ← direction_at here
  right ← number_at falls.1
  closing_at (selection.Bits (record { left = left; falls = falls.0; right = right.0; line = paren })) right.1

unfoldable pub selected_at : ℕ → Reader Selection
selected_at paren here = do
  left ← number_at here
  if is_at (form.Sign sign.RightParen) left.1.rest then closing_at (selection.Bit left.0) left.1 else range_at paren left.0 left.1

unfoldable pub opened_at : ℕ → Reader Selection
opened_at room here = do
  t ← take_marked (form.Sign sign.LeftParen) (λ _. opens room) here
  selected_at t.0.line t.1

unfoldable pub selecting_at : ℕ → Reader Selection
selecting_at room here = if is_at (form.Sign sign.LeftParen) here.rest then opened_at room here else Ok (selection.Whole, here)

unfoldable pub target_behind_at : ℕ → PlacedToken → Reader Target
target_behind_at room t here = do
  s ← selecting_at room here
  Ok (record { name = name_of t; line = t.line; selection = s.0 }, s.1)

unfoldable pub target_at : ℕ → Reader Target
target_at room here = do
  t ← take_at form.Identifier here
  target_behind_at room t.0 t.1

unfoldable pub further_at : ℕ → Reader FurtherTree
further_at room here = do
  t ← take_marked (form.Keyword word.When) (λ _. starts) here
  c ← placed_at (expression_at room) t.1
  u ← take_marked (form.Keyword word.Else) (λ _. again) c.1
  v ← expression_at room u.1
  Ok (record { condition = c.0.1; line = c.0.0; value = v.0 }, v.1)

unfoldable pub choice_at : ℕ → Reader ChoiceTree
choice_at room here = do
  first ← expression_at room here
  others ← list_at (code (form.Keyword word.When) ∷ []) (further_at room) first.1
  Ok (choice_of first.0 others.0, others.1)

unfoldable pub delayed_at : Reader (Unit {0})
delayed_at here = do
  t ← take_at (form.Keyword word.After) here
  n ← number_at t.1
  u ← take_at form.Identifier n.1
  Ok (tt, u.1)

unfoldable pub delay_at : Reader (Unit {0})
delay_at here = if is_at (form.Keyword word.After) here.rest then delayed_at here else Ok (tt, here)

unfoldable pub value_at : ℕ → Reader ChoiceTree
value_at room here = do
  c ← choice_at room here
  d ← delay_at c.1
  t ← take_at (form.Sign sign.Semicolon) d.1
  Ok (c.0, t.1)

unfoldable pub text_at : Reader PlacedToken
text_at here = if is_at form.BitText here.rest then take_at form.BitText here else take_at form.OtherText here

unfoldable pub reported_at : Reader (Unit {0})
reported_at here = do
  t ← take_at (form.Keyword word.Report) here
  u ← text_at t.1
  Ok (tt, u.1)

unfoldable pub report_at : Reader (Unit {0})
report_at here = if is_at (form.Keyword word.Report) here.rest then reported_at here else Ok (tt, here)

unfoldable pub severe_at : Reader (Unit {0})
severe_at here = do
  t ← take_at (form.Keyword word.Severity) here
  u ← take_at form.Identifier t.1
  Ok (tt, u.1)

unfoldable pub severity_at : Reader (Unit {0})
severity_at here = if is_at (form.Keyword word.Severity) here.rest then severe_at here else Ok (tt, here)

unfoldable pub remarks_at : Reader (Unit {0})
remarks_at here = do
  r ← report_at here
  s ← severity_at r.1
  t ← take_at (form.Sign sign.Semicolon) s.1
  Ok (tt, t.1)

unfoldable pub assertion_at : ℕ → Reader StatementTree
assertion_at room here = do
  t ← take_marked (form.Keyword word.Assert) (λ _. starts) here
  e ← expression_at room t.1
  r ← remarks_at e.1
  Ok (asserted e.0, r.1)

unfoldable pub assignment_at : ℕ → PlacedToken → Reader StatementTree
assignment_at room t here = do
  x ← target_behind_at room t here
  u ← take_marked (form.Sign sign.Assign) (λ _. chooses) x.1
  c ← value_at room u.1
  Ok (assigned (record { target = x.0; choice = c.0 }), c.1)

unfoldable pub guarded_assignment_at : ℕ → Reader AssignmentTree
guarded_assignment_at room here = do
  x ← target_at room here
  t ← take_at (form.Sign sign.Assign) x.1
  u ← take_marked (form.Keyword word.Guarded) (λ _. chooses) t.1
  c ← value_at room u.1
  Ok (record { target = x.0; choice = c.0 }, c.1)

unfoldable pub guarded_list_at : ℕ → Reader (List AssignmentTree)
guarded_list_at room = list_at (code form.Identifier ∷ []) (guarded_assignment_at room)

unfoldable pub guarded_assignments_at : ℕ → Reader (List AssignmentTree)
guarded_assignments_at room here = do
  t ← take_at (form.Keyword word.Begin) here
  all ← guarded_list_at room t.1
  u ← take_at (form.Keyword word.End) all.1
  Ok (all.0, u.1)

unfoldable pub guard_at : ℕ → Reader (ℕ × Tree)
guard_at room here = do
  t ← take_marked (form.Keyword word.Block) (λ _. starts) here
  u ← take_marked (form.Sign sign.LeftParen) (λ _. opens room) t.1
  e ← placed_at (expression_at (room - 1)) u.1
  closing_at e.0 e.1

unfoldable pub stop_at : Reader (Unit {0})
stop_at here = do
  t ← take_at (form.Sign sign.Semicolon) here
  Ok (tt, t.1)

unfoldable pub named_stop_at : List ℕ → Reader (Unit {0})
named_stop_at name here = do
  t ← take_marked form.Identifier (λ t. spells name (name_of t)) here
  stop_at t.1

unfoldable pub repeated_at : List ℕ → Reader (Unit {0})
repeated_at name here = if is_at form.Identifier here.rest then named_stop_at name here else stop_at here

unfoldable pub block_at : ℕ → List ℕ → Reader StatementTree
block_at room label here = do
  g ← guard_at room here
  all ← guarded_assignments_at room g.1
  t ← take_at (form.Keyword word.Block) all.1
  u ← repeated_at label t.1
  Ok (blocked (record { guard = g.0.1; line = g.0.0; assignments = all.0 }), u.1)

unfoldable pub plain_at : ℕ → Reader StatementTree
plain_at room here = do
  t ← take_at form.Identifier here
  assignment_at room t.0 t.1

-- behind a label and its colon
unfoldable pub unlabelled_at : ℕ → List ℕ → Reader StatementTree
unlabelled_at room label here = if is_at (form.Keyword word.Assert) here.rest then assertion_at room here
    else (if is_at (form.Keyword word.Block) here.rest then block_at room label here else plain_at room here)

unfoldable pub labelled_at : ℕ → List ℕ → Reader StatementTree
labelled_at room label here = do
  t ← take_at (form.Sign sign.Colon) here
  unlabelled_at room label t.1

unfoldable pub named_at : ℕ → Reader StatementTree
named_at room here = do
  t ← take_at form.Identifier here
  if is_at (form.Sign sign.Colon) t.1.rest then labelled_at room (name_of t.0) t.1 else assignment_at room t.0 t.1

unfoldable pub statement_at : ℕ → Reader StatementTree
statement_at room here = if is_at (form.Keyword word.Assert) here.rest then assertion_at room here else named_at room here

unfoldable pub statement_list_at : ℕ → Reader (List StatementTree)
statement_list_at room = list_at (code (form.Keyword word.Assert) ∷ code form.Identifier ∷ []) (statement_at room)

unfoldable pub statements_at : ℕ → Reader (List StatementTree)
statements_at room here = do
  t ← take_at (form.Keyword word.Begin) here
  all ← statement_list_at room t.1
  u ← take_at (form.Keyword word.End) all.1
  Ok (all.0, u.1)

unfoldable pub belonging_at : List ℕ → Reader (Unit {0})
belonging_at entity_name here = do
  t ← take_at (form.Keyword word.Of) here
  u ← take_marked form.Identifier (λ u. spells entity_name (name_of u)) t.1
  w ← take_at (form.Keyword word.Is) u.1
  Ok (tt, w.1)

unfoldable pub architecture_head_at : List ℕ → Reader (List ℕ)
architecture_head_at entity_name here = do
  t ← take_at (form.Keyword word.Architecture) here
  name ← identifier_at t.1
  u ← belonging_at entity_name name.1
  Ok (name.0, u.1)

unfoldable pub architecture_at : ℕ → Entity → Reader SourceTree
architecture_at room e here = do
  name ← architecture_head_at e.name here
  d ← declarations_at room name.1
  all ← statements_at room d.1
  u ← repeated_at name.0 all.1
  Ok (record { entity = e; declarations = d.0; statements = all.0 }, u.1)

unfoldable pub source_at : ℕ → Reader SourceTree
source_at room here = do
  e ← entity_at room here
  architecture_at room e.0 e.1
