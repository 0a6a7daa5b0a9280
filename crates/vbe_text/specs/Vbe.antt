-- The grammar of data-flow texts. Here and below, `room` is how many parentheses more may be open.
use Rattle.std.specs.Prelude.{◌≡◌, ℕ, ◌-◌, List, [], ◌∷◌, Ok}
use Rattle.vlsi_base.specs.Tree.{Tree}
use Rattle.vlsi_base.specs.declared.entity.Entity.{Entity}
use Rattle.vlsi_base.specs.declared.fault.ReadError.{ReadError}
use Rattle.vlsi_base.specs.declared.fault.ReadError.TheVariants as errors
use Rattle.vhdl_token.specs.declared.keyword.Keyword.TheVariants as word
use Rattle.vhdl_token.specs.declared.token.Sign.TheVariants as sign
use Rattle.vhdl_token.specs.declared.token.PlacedToken.{PlacedToken}
use Rattle.vhdl_token.specs.declared.token.Tokens.{Tokens}
use Rattle.grammar_theory.specs.declared.form.Form.TheVariants as form
use Rattle.grammar_theory.specs.declared.limits.TheConstants.{DEPTH}
use Rattle.grammar_theory.specs.declared.refusal.Refusal.{Refusal}
use Rattle.grammar_theory.specs.Marks.{starts, chooses, again, opens, spells}
use Rattle.grammar_theory.specs.Grammar.{Grammar, nothing, one, marked, ◌or◌, ◌>>=◌, list, placed}
use Rattle.grammar_theory.specs.Outcome.{At, start}
use Rattle.grammar_theory.specs.Answers.{Rejects, AnswersAll}
use Rattle.vhdl_front.specs.Cursor.{name_of}
use Rattle.vhdl_front.specs.Expression.{number, direction, closing, expression}
use Rattle.vhdl_front.specs.Entity.{identifier, entity, declarations}
use Rattle.vhdl_front.specs.Front.{error_of}
use Rattle.source_checks.specs.declared.statement.Selection.{Selection}
use Rattle.source_checks.specs.declared.statement.Selection.TheVariants as selection
use Rattle.source_checks.specs.declared.statement.Target.{Target}
use Rattle.vbe_text.specs.Source.{GuardedTree, FurtherTree, ChoiceTree, AssignmentTree, StatementTree, asserted, assigned, blocked, SourceTree}

-- ---- targets

-- ( N ) or a range, behind its parenthesis, which stands on this line
unfoldable pub selected : ℕ → Grammar Selection
selected paren = do
  left ← number
  closing (selection.Bit left) or (do
    falls ← direction
    right ← number
    closing (selection.Bits (record { left = left; falls = falls; right = right; line = paren })))

-- behind the name of a target
unfoldable pub selecting : ℕ → Grammar Selection
selecting room = (do
  t ← marked (form.Sign sign.LeftParen) (λ _. opens room)
  selected t.line) or nothing selection.Whole

-- behind its name, which is this token
unfoldable pub target_behind : ℕ → PlacedToken → Grammar Target
target_behind room t = do
  s ← selecting room
  nothing (record { name = name_of t; line = t.line; selection = s })

unfoldable pub target : ℕ → Grammar Target
target room = do
  t ← one form.Identifier
  target_behind room t

-- ---- choices

-- A choice is its first value, and behind it a list of conditions, each with the value behind its `else`: so each
-- condition belongs to the value before it.
abbrev pub alternatives_from : Tree → List FurtherTree → List GuardedTree
alternatives_from value [] = []
alternatives_from value (f ∷ others) = record { value = value; condition = f.condition; line = f.line } ∷ alternatives_from f.value others

abbrev pub last_value : Tree → List FurtherTree → Tree
last_value value [] = value
last_value value (f ∷ others) = last_value f.value others

abbrev pub choice_of : Tree → List FurtherTree → ChoiceTree
choice_of first others = record { alternatives = alternatives_from first others; otherwise = last_value first others }

unfoldable pub further : ℕ → Grammar FurtherTree
further room = do
  t ← marked (form.Keyword word.When) (λ _. starts)
  c ← placed (expression room)
  u ← marked (form.Keyword word.Else) (λ _. again)
  v ← expression room
  nothing (record { condition = c.1; line = c.0; value = v })

unfoldable pub choice : ℕ → Grammar ChoiceTree
choice room = do
  first ← expression room
  others ← list (further room)
  nothing (choice_of first others)

-- a time, which has no effect
unfoldable pub delay : Grammar (Unit {0})
delay = (do
  t ← one (form.Keyword word.After)
  n ← number
  u ← one form.Identifier
  nothing tt) or nothing tt

-- what is assigned, to the end of the statement
unfoldable pub value : ℕ → Grammar ChoiceTree
value room = do
  c ← choice room
  d ← delay
  t ← one (form.Sign sign.Semicolon)
  nothing c

-- ---- statements

unfoldable pub text : Grammar PlacedToken
text = one form.BitText or one form.OtherText

unfoldable pub report : Grammar (Unit {0})
report = (do
  t ← one (form.Keyword word.Report)
  u ← text
  nothing tt) or nothing tt

unfoldable pub severity : Grammar (Unit {0})
severity = (do
  t ← one (form.Keyword word.Severity)
  u ← one form.Identifier
  nothing tt) or nothing tt

-- behind the expression of an assertion
unfoldable pub remarks : Grammar (Unit {0})
remarks = do
  r ← report
  s ← severity
  t ← one (form.Sign sign.Semicolon)
  nothing tt

unfoldable pub assertion : ℕ → Grammar StatementTree
assertion room = do
  t ← marked (form.Keyword word.Assert) (λ _. starts)
  e ← expression room
  r ← remarks
  nothing (asserted e)

-- behind the name of its target, which is this token
unfoldable pub assignment : ℕ → PlacedToken → Grammar StatementTree
assignment room t = do
  x ← target_behind room t
  u ← marked (form.Sign sign.Assign) (λ _. chooses)
  c ← value room
  nothing (assigned (record { target = x; choice = c }))

-- ---- blocks

unfoldable pub guarded_assignment : ℕ → Grammar AssignmentTree
guarded_assignment room = do
  x ← target room
  t ← one (form.Sign sign.Assign)
  u ← marked (form.Keyword word.Guarded) (λ _. chooses)
  c ← value room
  nothing (record { target = x; choice = c })

unfoldable pub guarded_assignments : ℕ → Grammar (List AssignmentTree)
guarded_assignments room = do
  t ← one (form.Keyword word.Begin)
  all ← list (guarded_assignment room)
  u ← one (form.Keyword word.End)
  nothing all

-- with the line of the guard's first token
unfoldable pub guard : ℕ → Grammar (ℕ × Tree)
guard room = do
  t ← marked (form.Keyword word.Block) (λ _. starts)
  u ← marked (form.Sign sign.LeftParen) (λ _. opens room)
  e ← placed (expression (room - 1))
  closing e

-- the name that was opened, which may be left out
unfoldable pub repeated : List ℕ → Grammar (Unit {0})
repeated name = (do
  t ← marked form.Identifier (λ t. spells name (name_of t))
  u ← one (form.Sign sign.Semicolon)
  nothing tt) or (do
    u ← one (form.Sign sign.Semicolon)
    nothing tt)

-- behind its label
unfoldable pub block : ℕ → List ℕ → Grammar StatementTree
block room label = do
  g ← guard room
  all ← guarded_assignments room
  t ← one (form.Keyword word.Block)
  u ← repeated label
  nothing (blocked (record { guard = g.1; line = g.0; assignments = all }))

-- ---- the whole text

-- Behind the label. A label and a target both are names: the token behind tells them apart.
unfoldable pub labelled : ℕ → List ℕ → Grammar StatementTree
labelled room label = do
  t ← one (form.Sign sign.Colon)
  assertion room or block room label or (do
    u ← one form.Identifier
    assignment room u)

unfoldable pub statement : ℕ → Grammar StatementTree
statement room = assertion room or (do
  t ← one form.Identifier
  labelled room (name_of t) or assignment room t)

unfoldable pub statements : ℕ → Grammar (List StatementTree)
statements room = do
  t ← one (form.Keyword word.Begin)
  all ← list (statement room)
  u ← one (form.Keyword word.End)
  nothing all

-- the name of the entity that an architecture belongs to
unfoldable pub belonging : List ℕ → Grammar (Unit {0})
belonging entity_name = do
  t ← one (form.Keyword word.Of)
  u ← marked form.Identifier (λ u. spells entity_name (name_of u))
  w ← one (form.Keyword word.Is)
  nothing tt

unfoldable pub architecture_head : List ℕ → Grammar (List ℕ)
architecture_head entity_name = do
  t ← one (form.Keyword word.Architecture)
  name ← identifier
  u ← belonging entity_name
  nothing name

unfoldable pub architecture : ℕ → Entity → Grammar SourceTree
architecture room e = do
  name ← architecture_head e.name
  d ← declarations room
  all ← statements room
  u ← repeated name
  nothing (record { entity = e; declarations = d; statements = all })

unfoldable pub source : ℕ → Grammar SourceTree
source room = do
  e ← entity room
  architecture room e

-- whole data-flow texts
abbrev pub vbe : Grammar SourceTree
vbe = source DEPTH

-- ---- answers

-- All of the tokens are a sentence of the grammar without a breach, and this is its value.
pub record IsSource (tokens : Tokens) (source : SourceTree) : Type 0 where
  pub end : At
  pub read : AnswersAll vbe (start tokens.items) (Ok (source, end))

-- The first token at which the text goes wrong, or its end, and what is answered for it.
pub record RefusedAs (tokens : Tokens) (error : ReadError) : Type 0 where
  pub refusal : Refusal
  pub right : Rejects vbe (start tokens.items) refusal
  pub is : error ≡ error_of tokens.last_line tokens.items refusal

-- Memory may run out at any time.
abbrev pub IsRefusedSource : Tokens → ReadError → Type 0
IsRefusedSource tokens errors.Memory = Unit {0}
IsRefusedSource tokens (errors.Input f) = RefusedAs tokens (errors.Input f)
IsRefusedSource tokens (errors.Limit l) = RefusedAs tokens (errors.Limit l)
