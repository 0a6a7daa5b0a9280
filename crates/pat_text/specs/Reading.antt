-- Reading pattern files from left to right, by the next token alone.
use Rattle.std.specs.Prelude.{ℕ, Bool, true, false, List, [], ◌∷◌, Option, Some, None, is_some, unwrap_or, ◌≡◌, Result, Ok, Err, if◌then◌else◌}
use Rattle.std.specs.List.{list_all}
use Rattle.vlsi_base.specs.declared.name.Dir.{Dir}
use Rattle.vlsi_base.specs.declared.name.Dir.TheVariants as dir
use Rattle.vlsi_base.specs.declared.range.Range.{Range}
use Rattle.vhdl_token.specs.declared.keyword.Keyword.{Keyword}
use Rattle.vhdl_token.specs.declared.keyword.Keyword.TheVariants as word
use Rattle.vhdl_token.specs.declared.token.Sign.TheVariants as sign
use Rattle.vhdl_token.specs.declared.token.PlacedToken.{PlacedToken}
use Rattle.grammar_theory.specs.declared.form.Form.{Form}
use Rattle.grammar_theory.specs.declared.form.Form.TheVariants as form
use Rattle.grammar_theory.specs.declared.refusal.Stop.{Stop}
use Rattle.grammar_theory.specs.Tokens.{code, is_at}
use Rattle.grammar_theory.specs.Marks.{fits}
use Rattle.grammar_theory.specs.Outcome.{At, Outcome, Reader, Fails, ◌>>=◌, take_at, take_marked, list_at}
use Rattle.vhdl_front.specs.Reading.{number_at}
use Rattle.vlsi_base.specs.declared.radix.Radix.{Radix}
use Rattle.vlsi_base.specs.declared.radix.Radix.TheVariants.{Binary}
use Rattle.pat_meaning.specs.declared.patterns.Time.{Time}
use Rattle.pat_meaning.specs.declared.patterns.TimeUnit.{TimeUnit}
use Rattle.pat_meaning.specs.declared.patterns.TimeUnit.TheVariants as unit
use Rattle.pat_text.specs.declared.parsed.ParsedColumn.{ParsedColumn}
use Rattle.pat_text.specs.declared.parsed.ParsedValue.{ParsedValue}
use Rattle.pat_text.specs.declared.parsed.ParsedPattern.{ParsedPattern}
use Rattle.pat_text.specs.declared.parsed.PatternFile.{PatternFile}
use Rattle.pat_text.specs.Spelled.{text_of, direction_named, format_named, unit_named, is_digit}

unfoldable pub any_word_at : Reader PlacedToken
any_word_at here =
    if is_at (form.Keyword word.In) here.rest then take_at (form.Keyword word.In) here
    else (if is_at (form.Keyword word.Out) here.rest then take_at (form.Keyword word.Out) here
    else (if is_at (form.Keyword word.Begin) here.rest then take_at (form.Keyword word.Begin) here
    else (if is_at (form.Keyword word.End) here.rest then take_at (form.Keyword word.End) here
    else take_at form.Identifier here)))

unfoldable pub direction_at : Reader Bool
direction_at here = do
  t ← take_marked form.Identifier (λ t. fits (is_some (direction_named (text_of t)))) here
  Ok (unwrap_or (direction_named (text_of t.0)) false, t.1)

unfoldable pub named_format_at : Reader Radix
named_format_at here = do
  t ← take_marked form.Identifier (λ t. fits (is_some (format_named (text_of t)))) here
  Ok (unwrap_or (format_named (text_of t.0)) Binary, t.1)

unfoldable pub time_unit_at : Reader TimeUnit
time_unit_at here = do
  t ← take_marked form.Identifier (λ t. fits (is_some (unit_named (text_of t)))) here
  Ok (unwrap_or (unit_named (text_of t.0)) unit.Femtosecond, t.1)

unfoldable pub one_dir_at : Keyword → Dir → Reader Dir
one_dir_at w d here = do
  t ← take_at (form.Keyword w) here
  Ok (d, t.1)

unfoldable pub column_dir_at : Reader Dir
column_dir_at here = if is_at (form.Keyword word.In) here.rest then one_dir_at word.In dir.In here else one_dir_at word.Out dir.Out here

unfoldable pub range_at : Reader (Option Range)
range_at here = do
  t ← take_at (form.Sign sign.LeftParen) here
  left ← number_at t.1
  falls ← direction_at left.1
  right ← number_at falls.1
  u ← take_at (form.Sign sign.RightParen) right.1
  Ok (Some (record { left = left.0; falls = falls.0; right = right.0; line = t.0.line }), u.1)

unfoldable pub optional_range_at : Reader (Option Range)
optional_range_at here = if is_at (form.Sign sign.LeftParen) here.rest then range_at here else Ok (None, here)

unfoldable pub format_at : Reader Radix
format_at here = if is_at form.Identifier here.rest then named_format_at here else Ok (Binary, here)

unfoldable pub semicolons_at : Reader (List PlacedToken)
semicolons_at = list_at (code (form.Sign sign.Semicolon) ∷ []) (take_at (form.Sign sign.Semicolon))

unfoldable pub column_end_at : Reader PlacedToken
column_end_at here = do
  first ← take_at (form.Sign sign.Semicolon) here
  others ← semicolons_at first.1
  Ok (first.0, others.1)

unfoldable pub column_behind_at : Dir → Reader ParsedColumn
column_behind_at d here = do
  name ← any_word_at here
  r ← optional_range_at name.1
  f ← format_at r.1
  t ← column_end_at f.1
  Ok (record { name = text_of name.0; line = name.0.line; dir = d; range = r.0; format = f.0 }, t.1)

unfoldable pub column_at : Reader ParsedColumn
column_at here = do
  d ← column_dir_at here
  column_behind_at d.0 d.1

unfoldable pub digits_at : Radix → Reader PlacedToken
digits_at f here = take_marked form.Digits (λ t. fits (list_all (is_digit f) (text_of t))) here

unfoldable pub given_at : Radix → Reader ParsedValue
given_at f here = do
  t ← digits_at f here
  Ok (record { line = t.0.line; digits = Some (text_of t.0) }, t.1)

unfoldable pub anything_at : ℕ → Reader ParsedValue
anything_at line here = do
  t ← take_at (form.Sign sign.Star) here
  Ok (record { line = line; digits = None }, t.1)

unfoldable pub wanted_at : ℕ → Radix → Reader ParsedValue
wanted_at line f here = do
  t ← digits_at f here
  Ok (record { line = line; digits = Some (text_of t.0) }, t.1)

unfoldable pub expected_at : Radix → Reader ParsedValue
expected_at f here = do
  t ← take_at (form.Sign sign.Question) here
  if is_at (form.Sign sign.Star) t.1.rest then anything_at t.0.line t.1 else wanted_at t.0.line f t.1

unfoldable pub value_at : Dir → Radix → Reader ParsedValue
value_at dir.In f here = given_at f here
value_at dir.Out f here = expected_at f here

unfoldable pub values_at : List ParsedColumn → Reader (List ParsedValue)
values_at [] here = do
  t ← take_at (form.Sign sign.Semicolon) here
  Ok ([], t.1)
values_at (c ∷ cs) here = do
  v ← value_at c.dir c.format here
  vs ← values_at cs v.1
  Ok (v.0 ∷ vs.0, vs.1)

unfoldable pub plus_at : Reader Bool
plus_at here = do
  t ← take_at (form.Sign sign.Plus) here
  Ok (true, t.1)

unfoldable pub added_at : Reader Bool
added_at here = if is_at (form.Sign sign.Plus) here.rest then plus_at here else Ok (false, here)

unfoldable pub stamp_at : Reader (ℕ × Time)
stamp_at here = do
  t ← take_at (form.Sign sign.Less) here
  a ← added_at t.1
  n ← number_at a.1
  u ← time_unit_at n.1
  close ← take_at (form.Sign sign.Greater) u.1
  Ok ((t.0.line, record { is_added = a.0; number = n.0; unit = u.0 }), close.1)

unfoldable pub labelled_at : Form → Reader (Option (List ℕ))
labelled_at f here = do
  t ← take_at f here
  Ok (Some (text_of t.0), t.1)

unfoldable pub label_at : Reader (Option (List ℕ))
label_at here =
    if is_at (form.Keyword word.In) here.rest then labelled_at (form.Keyword word.In) here
    else (if is_at (form.Keyword word.Out) here.rest then labelled_at (form.Keyword word.Out) here
    else (if is_at (form.Keyword word.Begin) here.rest then labelled_at (form.Keyword word.Begin) here
    else (if is_at (form.Keyword word.End) here.rest then labelled_at (form.Keyword word.End) here
    else (if is_at form.Identifier here.rest then labelled_at form.Identifier here else Ok (None, here)))))

unfoldable pub pattern_at : List ParsedColumn → Reader ParsedPattern
pattern_at columns here = do
  s ← stamp_at here
  l ← label_at s.1
  t ← take_at (form.Sign sign.Colon) l.1
  vs ← values_at columns t.1
  Ok (record { line = s.0.0; time = s.0.1; label = l.0; values = vs.0 }, vs.1)

-- what a column begins with
abbrev pub column_firsts : List ℕ
column_firsts = code (form.Keyword word.In) ∷ code (form.Keyword word.Out) ∷ []

unfoldable pub columns_at : Reader (List ParsedColumn)
columns_at = list_at column_firsts column_at

unfoldable pub patterns_at : List ParsedColumn → Reader (List ParsedPattern)
patterns_at columns = list_at (code (form.Sign sign.Less) ∷ []) (pattern_at columns)

unfoldable pub file_behind_at : List ParsedColumn → Reader PatternFile
file_behind_at columns here = do
  t ← take_at (form.Keyword word.Begin) here
  patterns ← patterns_at columns t.1
  u ← take_at (form.Keyword word.End) patterns.1
  s ← take_at (form.Sign sign.Semicolon) u.1
  Ok (record { columns = columns; patterns = patterns.0 }, s.1)

unfoldable pub file_at : Reader PatternFile
file_at here = do
  columns ← columns_at here
  file_behind_at columns.0 columns.1

-- What a function that only passes over tokens left, and its refusal, are what reading gives.
abbrev pub Passes : {A : Type 0} → At → Outcome A → Type 0
Passes {A} there read = (v : A) × (read ≡ Ok (v, there))

abbrev pub Skips : {A : Type 0} → Result (Unit {0}) Stop → At → Outcome A → Type 0
Skips (Ok u) there read = Passes there read
Skips (Err e) there read = Fails e read
