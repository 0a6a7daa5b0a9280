-- The grammar of pattern files. No word is reserved.
use Rattle.std.specs.Prelude.{ℕ, Bool, true, false, List, [], ◌∷◌, Option, Some, None, is_some, unwrap_or}
use Rattle.std.specs.List.{list_all}
use Rattle.vlsi_base.specs.declared.name.Dir.{Dir}
use Rattle.vlsi_base.specs.declared.name.Dir.TheVariants as dir
use Rattle.vlsi_base.specs.declared.range.Range.{Range}
use Rattle.vhdl_token.specs.declared.keyword.Keyword.{Keyword}
use Rattle.vhdl_token.specs.declared.keyword.Keyword.TheVariants as word
use Rattle.vhdl_token.specs.declared.token.Sign.TheVariants as sign
use Rattle.vhdl_token.specs.declared.token.PlacedToken.{PlacedToken}
use Rattle.grammar_theory.specs.declared.form.Form.{Form}
use Rattle.grammar_theory.specs.declared.form.Form.TheVariants as form
use Rattle.grammar_theory.specs.Marks.{fits}
use Rattle.grammar_theory.specs.Grammar.{Grammar, nothing, one, marked, ◌or◌, ◌>>=◌, list}
use Rattle.vhdl_front.specs.Expression.{number}
use Rattle.vlsi_base.specs.declared.radix.Radix.{Radix}
use Rattle.vlsi_base.specs.declared.radix.Radix.TheVariants.{Binary}
use Rattle.pat_meaning.specs.declared.patterns.Time.{Time}
use Rattle.pat_meaning.specs.declared.patterns.TimeUnit.{TimeUnit}
use Rattle.pat_meaning.specs.declared.patterns.TimeUnit.TheVariants as unit
use Rattle.pat_text.specs.declared.parsed.ParsedColumn.{ParsedColumn}
use Rattle.pat_text.specs.declared.parsed.ParsedValue.{ParsedValue}
use Rattle.pat_text.specs.declared.parsed.ParsedPattern.{ParsedPattern}
use Rattle.pat_text.specs.declared.parsed.PatternFile.{PatternFile}
use Rattle.pat_text.specs.Spelled.{text_of, direction_named, format_named, unit_named, is_digit}

-- ---- words

unfoldable pub any_word : Grammar PlacedToken
any_word =
    one (form.Keyword word.In)
    or one (form.Keyword word.Out)
    or one (form.Keyword word.Begin)
    or one (form.Keyword word.End)
    or one form.Identifier

-- a word that is `downto` or `to`
unfoldable pub direction : Grammar Bool
direction = do
  t ← marked form.Identifier (λ t. fits (is_some (direction_named (text_of t))))
  nothing (unwrap_or (direction_named (text_of t)) false)

-- a word that names a format
unfoldable pub named_format : Grammar Radix
named_format = do
  t ← marked form.Identifier (λ t. fits (is_some (format_named (text_of t))))
  nothing (unwrap_or (format_named (text_of t)) Binary)

-- a word that names a unit of time
unfoldable pub time_unit : Grammar TimeUnit
time_unit = do
  t ← marked form.Identifier (λ t. fits (is_some (unit_named (text_of t))))
  nothing (unwrap_or (unit_named (text_of t)) unit.Femtosecond)

-- ---- columns

unfoldable pub one_dir : Keyword → Dir → Grammar Dir
one_dir w d = do
  t ← one (form.Keyword w)
  nothing d

unfoldable pub column_dir : Grammar Dir
column_dir = one_dir word.In dir.In or one_dir word.Out dir.Out

unfoldable pub range : Grammar (Option Range)
range = do
  t ← one (form.Sign sign.LeftParen)
  left ← number
  falls ← direction
  right ← number
  u ← one (form.Sign sign.RightParen)
  nothing (Some (record { left = left; falls = falls; right = right; line = t.line }))

-- one semicolon or more
unfoldable pub column_end : Grammar PlacedToken
column_end = do
  first ← one (form.Sign sign.Semicolon)
  others ← list (one (form.Sign sign.Semicolon))
  nothing first

-- behind the direction
unfoldable pub column_behind : Dir → Grammar ParsedColumn
column_behind d = do
  name ← any_word
  r ← range or nothing None
  f ← named_format or nothing Binary
  t ← column_end
  nothing (record { name = text_of name; line = name.line; dir = d; range = r; format = f })

unfoldable pub column : Grammar ParsedColumn
column = do
  d ← column_dir
  column_behind d

-- ---- values

unfoldable pub digits : Radix → Grammar PlacedToken
digits f = marked form.Digits (λ t. fits (list_all (is_digit f) (text_of t)))

-- a value of an input
unfoldable pub given : Radix → Grammar ParsedValue
given f = do
  t ← digits f
  nothing (record { line = t.line; digits = Some (text_of t) })

unfoldable pub anything : ℕ → Grammar ParsedValue
anything line = do
  t ← one (form.Sign sign.Star)
  nothing (record { line = line; digits = None })

unfoldable pub wanted : ℕ → Radix → Grammar ParsedValue
wanted line f = do
  t ← digits f
  nothing (record { line = line; digits = Some (text_of t) })

-- a value of an output
unfoldable pub expected : Radix → Grammar ParsedValue
expected f = do
  t ← one (form.Sign sign.Question)
  anything t.line or wanted t.line f

unfoldable pub value_of : Dir → Radix → Grammar ParsedValue
value_of dir.In f = given f
value_of dir.Out f = expected f

-- a value for each column, and a semicolon
unfoldable pub values : List ParsedColumn → Grammar (List ParsedValue)
values [] = do
  t ← one (form.Sign sign.Semicolon)
  nothing []
values (c ∷ cs) = do
  v ← value_of c.dir c.format
  vs ← values cs
  nothing (v ∷ vs)

-- ---- patterns

unfoldable pub added : Grammar Bool
added = (do
  t ← one (form.Sign sign.Plus)
  nothing true) or nothing false

-- a time, and the line of its `<`
unfoldable pub stamp : Grammar (ℕ × Time)
stamp = do
  t ← one (form.Sign sign.Less)
  a ← added
  n ← number
  u ← time_unit
  close ← one (form.Sign sign.Greater)
  nothing (t.line, record { is_added = a; number = n; unit = u })

unfoldable pub labelled : Form → Grammar (Option (List ℕ))
labelled f = do
  t ← one f
  nothing (Some (text_of t))

-- a word, or nothing
unfoldable pub label : Grammar (Option (List ℕ))
label =
    labelled (form.Keyword word.In)
    or labelled (form.Keyword word.Out)
    or labelled (form.Keyword word.Begin)
    or labelled (form.Keyword word.End)
    or labelled form.Identifier
    or nothing None

unfoldable pub pattern : List ParsedColumn → Grammar ParsedPattern
pattern columns = do
  s ← stamp
  l ← label
  t ← one (form.Sign sign.Colon)
  vs ← values columns
  nothing (record { line = s.0; time = s.1; label = l; values = vs })

-- ---- files

-- behind the columns
unfoldable pub file_behind : List ParsedColumn → Grammar PatternFile
file_behind columns = do
  t ← one (form.Keyword word.Begin)
  patterns ← list (pattern columns)
  u ← one (form.Keyword word.End)
  s ← one (form.Sign sign.Semicolon)
  nothing (record { columns = columns; patterns = patterns })

unfoldable pub file : Grammar PatternFile
file = do
  columns ← list column
  file_behind columns
