-- Each reader of pattern files reads its grammar.
use Rattle.std.proofs.Common.{◌++◌, ◌≡◌, ℕ, ◌<◌, Bool, true, false, List, [], ◌∷◌, length, Some, None, is_some, unwrap_or, Ok, refl}
use Rattle.std.specs.List.{list_all}
use Rattle.vlsi_base.specs.declared.name.Dir.{Dir}
use Rattle.vlsi_base.specs.declared.name.Dir.TheVariants as dir
use Rattle.vhdl_token.specs.declared.keyword.Keyword.{Keyword}
use Rattle.vhdl_token.specs.declared.keyword.Keyword.TheVariants as word
use Rattle.vhdl_token.specs.declared.token.Sign.TheVariants as sign
use Rattle.vhdl_token.specs.declared.token.PlacedToken.{PlacedToken}
use Rattle.grammar_theory.specs.declared.form.Form.{Form}
use Rattle.grammar_theory.specs.declared.form.Form.TheVariants as form
use Rattle.grammar_theory.specs.Tokens.{code}
use Rattle.grammar_theory.specs.Marks.{fits}
use Rattle.grammar_theory.specs.Grammar.{Grammar, nothing, one, ◌or◌, list}
use Rattle.grammar_theory.specs.Outcome.{At, Reader, take_at}
use Rattle.grammar_theory.specs.Answers.{Answers}
use Rattle.grammar_theory.proofs.Sets.{Set}
use Rattle.grammar_theory.proofs.Bundle.{Exact, exact_nothing, exact_one, exact_marked, exact_then, exact_behind, within}
use Rattle.grammar_theory.proofs.Many.{exact_list}
use Rattle.grammar_theory.proofs.Listing.{consumes}
use Rattle.vhdl_front.proofs.Language.{exact_number}
use Rattle.vlsi_base.specs.declared.radix.Radix.{Radix}
use Rattle.vlsi_base.specs.declared.radix.Radix.TheVariants.{Binary}
use Rattle.pat_meaning.specs.declared.patterns.TimeUnit.TheVariants as unit
use Rattle.pat_text.specs.declared.parsed.ParsedColumn.{ParsedColumn}
use Rattle.pat_text.specs.declared.parsed.ParsedPattern.{ParsedPattern}
use Rattle.pat_text.specs.Spelled.{text_of, direction_named, format_named, unit_named, is_digit}
use Rattle.pat_text.specs.Patterns.{any_word, direction, named_format, time_unit, one_dir, column_dir, range, column_end, column_behind, column, digits, given, anything, wanted, expected, value_of, values, added, stamp, labelled, label, pattern, file_behind, file}
use Rattle.pat_text.specs.Reading.{any_word_at, direction_at, named_format_at, time_unit_at, one_dir_at, column_dir_at, range_at, optional_range_at, format_at, semicolons_at, column_end_at, column_behind_at, column_at, digits_at, given_at, anything_at, wanted_at, expected_at, value_at, values_at, plus_at, added_at, stamp_at, labelled_at, label_at, pattern_at, columns_at, patterns_at, file_behind_at, file_at}

-- a grammar and its reader
abbrev Language : {A : Type 0} → Grammar A → Bool → Set → Set → Reader A → Type 0
Language G null f l r = Exact (Unit {0}) G G null f l r

abbrev pub forms : List Form → Set
forms [] = []
forms (f ∷ fs) = code f ∷ forms fs

abbrev words : Set
words = forms (form.Keyword word.In ∷ form.Keyword word.Out ∷ form.Keyword word.Begin ∷ form.Keyword word.End ∷ form.Identifier ∷ [])

abbrev semicolon : Form
semicolon = form.Sign sign.Semicolon

exact_word : Language any_word false words [] any_word_at
unfolding any_word any_word_at
exact_word =
    exact_behind (form.Keyword word.In) (exact_one (form.Keyword word.In))
    (exact_behind (form.Keyword word.Out) (exact_one (form.Keyword word.Out))
    (exact_behind (form.Keyword word.Begin) (exact_one (form.Keyword word.Begin))
    (exact_behind (form.Keyword word.End) (exact_one (form.Keyword word.End)) (exact_one form.Identifier) refl) refl) refl) refl

exact_direction : Language direction false (forms (form.Identifier ∷ [])) [] direction_at
unfolding direction direction_at
exact_direction = exact_then (exact_marked form.Identifier (λ t. fits (is_some (direction_named (text_of t))))) (λ t. exact_nothing (unwrap_or (direction_named (text_of t)) false)) refl

exact_named_format : Language named_format false (forms (form.Identifier ∷ [])) [] named_format_at
unfolding named_format named_format_at
exact_named_format = exact_then (exact_marked form.Identifier (λ t. fits (is_some (format_named (text_of t))))) (λ t. exact_nothing (unwrap_or (format_named (text_of t)) Binary)) refl

exact_time_unit : Language time_unit false (forms (form.Identifier ∷ [])) [] time_unit_at
unfolding time_unit time_unit_at
exact_time_unit = exact_then (exact_marked form.Identifier (λ t. fits (is_some (unit_named (text_of t))))) (λ t. exact_nothing (unwrap_or (unit_named (text_of t)) unit.Femtosecond)) refl

-- ---- columns

exact_one_dir : (w : Keyword) (d : Dir) → Language (one_dir w d) false (code (form.Keyword w) ∷ []) [] (one_dir_at w d)
unfolding one_dir one_dir_at
exact_one_dir w d = exact_then (exact_one (form.Keyword w)) (λ t. exact_nothing d) refl

abbrev dirs : Set
dirs = forms (form.Keyword word.In ∷ form.Keyword word.Out ∷ [])

exact_column_dir : Language column_dir false dirs [] column_dir_at
unfolding column_dir column_dir_at
exact_column_dir = exact_behind (form.Keyword word.In) (exact_one_dir word.In dir.In) (exact_one_dir word.Out dir.Out) refl

exact_range : Language range false (forms (form.Sign sign.LeftParen ∷ [])) [] range_at
unfolding range range_at
exact_range =
    exact_then (exact_one (form.Sign sign.LeftParen)) (λ t. exact_then exact_number (λ left. exact_then exact_direction (λ falls. exact_then exact_number (λ right. exact_then (exact_one (form.Sign sign.RightParen))
    (λ u. exact_nothing (Some (record { left = left; falls = falls; right = right; line = t.line }))) refl) refl) refl) refl) refl

exact_optional_range : Language (range or nothing None) true (forms (form.Sign sign.LeftParen ∷ [])) (forms (form.Sign sign.LeftParen ∷ [])) optional_range_at
unfolding optional_range_at
exact_optional_range = exact_behind (form.Sign sign.LeftParen) exact_range (exact_nothing None) refl

exact_format : Language (named_format or nothing Binary) true (forms (form.Identifier ∷ [])) (forms (form.Identifier ∷ [])) format_at
unfolding format_at
exact_format = exact_behind form.Identifier exact_named_format (exact_nothing Binary) refl

exact_semicolons : Language (list (one semicolon)) true (forms (semicolon ∷ [])) (forms (semicolon ∷ [])) semicolons_at
unfolding semicolons_at
exact_semicolons = exact_list (exact_one semicolon) refl

exact_column_end : Language column_end false (forms (semicolon ∷ [])) (forms (semicolon ∷ [])) column_end_at
unfolding column_end column_end_at
exact_column_end = exact_then (exact_one semicolon) (λ first. exact_then exact_semicolons (λ others. exact_nothing first) refl) refl

exact_column_behind : (d : Dir) → Language (column_behind d) false words (forms (semicolon ∷ [])) (column_behind_at d)
unfolding column_behind column_behind_at
exact_column_behind d =
    exact_then exact_word (λ name. exact_then exact_optional_range (λ r. exact_then exact_format (λ f. exact_then exact_column_end
    (λ t. exact_nothing (record { name = text_of name; line = name.line; dir = d; range = r; format = f })) refl) refl) refl) refl

pub exact_column : Language column false dirs (forms (semicolon ∷ [])) column_at
unfolding column column_at
exact_column = exact_then exact_column_dir (λ d. exact_column_behind d) refl

-- ---- values

exact_digits : (f : Radix) → Language (digits f) false (forms (form.Digits ∷ [])) [] (digits_at f)
unfolding digits digits_at
exact_digits f = exact_marked form.Digits (λ t. fits (list_all (is_digit f) (text_of t)))

exact_given : (f : Radix) → Language (given f) false (forms (form.Digits ∷ [])) [] (given_at f)
unfolding given given_at
exact_given f = exact_then (exact_digits f) (λ t. exact_nothing (record { line = t.line; digits = Some (text_of t) })) refl

exact_anything : (line : ℕ) → Language (anything line) false (forms (form.Sign sign.Star ∷ [])) [] (anything_at line)
unfolding anything anything_at
exact_anything line = exact_then (exact_one (form.Sign sign.Star)) (λ t. exact_nothing (record { line = line; digits = None })) refl

exact_wanted : (line : ℕ) (f : Radix) → Language (wanted line f) false (forms (form.Digits ∷ [])) [] (wanted_at line f)
unfolding wanted wanted_at
exact_wanted line f = exact_then (exact_digits f) (λ t. exact_nothing (record { line = line; digits = Some (text_of t) })) refl

exact_expected : (f : Radix) → Language (expected f) false (forms (form.Sign sign.Question ∷ [])) [] (expected_at f)
unfolding expected expected_at
exact_expected f = exact_then (exact_one (form.Sign sign.Question)) (λ t. exact_behind (form.Sign sign.Star) (exact_anything t.line) (exact_wanted t.line f) refl) refl

abbrev value_firsts : Dir → Set
value_firsts dir.In = forms (form.Digits ∷ [])
value_firsts dir.Out = forms (form.Sign sign.Question ∷ [])

exact_value : (d : Dir) (f : Radix) → Language (value_of d f) false (value_firsts d) [] (value_at d f)
unfolding value_of value_at
exact_value dir.In f = exact_given f
exact_value dir.Out f = exact_expected f

abbrev values_firsts : List ParsedColumn → Set
values_firsts [] = forms (semicolon ∷ [])
values_firsts (c ∷ cs) = value_firsts c.dir ++ []

exact_values : (cs : List ParsedColumn) → Language (values cs) false (values_firsts cs) [] (values_at cs)
unfolding values values_at
exact_values [] = exact_then (exact_one semicolon) (λ t. exact_nothing []) refl
exact_values (c ∷ cs) = exact_then (exact_value c.dir c.format) (λ v. exact_then (exact_values cs) (λ vs. exact_nothing (v ∷ vs)) refl) refl

-- ---- patterns

exact_added : Language added true (forms (form.Sign sign.Plus ∷ [])) (forms (form.Sign sign.Plus ∷ [])) added_at
unfolding added added_at plus_at
exact_added = exact_behind (form.Sign sign.Plus) (exact_then (exact_one (form.Sign sign.Plus)) (λ t. exact_nothing true) refl) (exact_nothing false) refl

exact_stamp : Language stamp false (forms (form.Sign sign.Less ∷ [])) [] stamp_at
unfolding stamp stamp_at
exact_stamp =
    exact_then (exact_one (form.Sign sign.Less)) (λ t. exact_then exact_added (λ a. exact_then exact_number (λ n. exact_then exact_time_unit (λ u. exact_then (exact_one (form.Sign sign.Greater))
    (λ close. exact_nothing (t.line, record { is_added = a; number = n; unit = u })) refl) refl) refl) refl) refl

exact_labelled : (f : Form) → Language (labelled f) false (code f ∷ []) [] (labelled_at f)
unfolding labelled labelled_at
exact_labelled f = exact_then (exact_one f) (λ t. exact_nothing (Some (text_of t))) refl

exact_label : Language label true words words label_at
unfolding label label_at
exact_label = within words words
    (exact_behind (form.Keyword word.In) (exact_labelled (form.Keyword word.In))
    (exact_behind (form.Keyword word.Out) (exact_labelled (form.Keyword word.Out))
    (exact_behind (form.Keyword word.Begin) (exact_labelled (form.Keyword word.Begin))
    (exact_behind (form.Keyword word.End) (exact_labelled (form.Keyword word.End))
    (exact_behind form.Identifier (exact_labelled form.Identifier) (exact_nothing None) refl) refl) refl) refl) refl) refl refl refl

pub exact_pattern : (cs : List ParsedColumn) → Language (pattern cs) false (forms (form.Sign sign.Less ∷ [])) [] (pattern_at cs)
unfolding pattern pattern_at
exact_pattern cs =
    exact_then exact_stamp (λ s. exact_then exact_label (λ l. exact_then (exact_one (form.Sign sign.Colon)) (λ t. exact_then (exact_values cs)
    (λ vs. exact_nothing (record { line = s.0; time = s.1; label = l; values = vs })) refl) refl) refl) refl

-- ---- files

exact_patterns : (cs : List ParsedColumn) → Language (list (pattern cs)) true (forms (form.Sign sign.Less ∷ [])) (forms (form.Sign sign.Less ∷ [])) (patterns_at cs)
unfolding patterns_at
exact_patterns cs = exact_list (exact_pattern cs) refl

exact_columns : Language (list column) true dirs (code semicolon ∷ dirs) columns_at
unfolding columns_at
exact_columns = exact_list exact_column refl

exact_file_behind : (cs : List ParsedColumn) → Language (file_behind cs) false (forms (form.Keyword word.Begin ∷ [])) [] (file_behind_at cs)
unfolding file_behind file_behind_at
exact_file_behind cs =
    exact_then (exact_one (form.Keyword word.Begin)) (λ t. exact_then (exact_patterns cs) (λ patterns. exact_then (exact_one (form.Keyword word.End)) (λ u. exact_then (exact_one semicolon)
    (λ s. exact_nothing (record { columns = cs; patterns = patterns })) refl) refl) refl) refl

pub exact_file : Language file false (forms (form.Keyword word.In ∷ form.Keyword word.Out ∷ form.Keyword word.Begin ∷ [])) [] file_at
unfolding file file_at
exact_file = exact_then exact_columns (λ cs. exact_file_behind cs) refl

pub file_answers : (here : At) → Answers file here (file_at here)
file_answers here = (exact_file.reads tt).answers here

-- ---- items of lists take tokens

item_consumes : {A : Type 0} (G : Grammar A) (f l : Set) (r : Reader A) → Language G false f l r → (here there : At) (v : A) → r here ≡ Ok (v, there) → length there.rest < length here.rest
item_consumes G f l r e here there v h = consumes G f l r e.shape (e.reads tt) here there v h

pub semicolon_consumes : (here there : At) (v : PlacedToken) → take_at semicolon here ≡ Ok (v, there) → length there.rest < length here.rest
semicolon_consumes here there v h = item_consumes (one semicolon) (forms (semicolon ∷ [])) [] (take_at semicolon) (exact_one semicolon) here there v h

pub column_consumes : (here there : At) (v : ParsedColumn) → column_at here ≡ Ok (v, there) → length there.rest < length here.rest
column_consumes here there v h = item_consumes column dirs (forms (semicolon ∷ [])) column_at exact_column here there v h

pub pattern_consumes : (cs : List ParsedColumn) (here there : At) (v : ParsedPattern) → pattern_at cs here ≡ Ok (v, there) → length there.rest < length here.rest
pattern_consumes cs here there v h = item_consumes (pattern cs) (forms (form.Sign sign.Less ∷ [])) [] (pattern_at cs) (exact_pattern cs) here there v h
