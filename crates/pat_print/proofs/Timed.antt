-- Patterns as they are written.
use Rattle.std.proofs.Common.{◌≡◌, ℕ, ◌^◌, ◌<◌, Bool, true, false, List, [], ◌∷◌, ◌++◌, Option, None, Some, is_some, unwrap_or, length, refl, sym, ap, ◌∙◌, append_assoc, arith, codes}
use Rattle.std.specs.List.{All}
use Rattle.std.specs.Fmt.{decimal}
use Rattle.std.proofs.lemmas.List.Elements.{All-head, All-tail}
use Rattle.vhdl_token.specs.Keyword.{keyword_of}
use Rattle.vhdl_token.specs.declared.token.PlacedToken.{PlacedToken}
use Rattle.vhdl_token.specs.declared.token.Token.TheVariants as token
use Rattle.vhdl_token.specs.declared.token.Sign.TheVariants as sign
use Rattle.lexer_base.specs.declared.piece.Piece.TheVariants as piece
use Rattle.lexer_base.specs.Lexical.{sign_at}
use Rattle.pat_lexer.specs.Lexical.{word_at, piece_at}
use Rattle.grammar_theory.specs.declared.form.Form.TheVariants as form
use Rattle.grammar_theory.specs.Tokens.{code_of}
use Rattle.grammar_theory.specs.Marks.{fits}
use Rattle.grammar_theory.specs.Grammar.{list}
use Rattle.pat_meaning.specs.declared.patterns.Column.{Column}
use Rattle.pat_meaning.specs.declared.patterns.Pattern.{Pattern}
use Rattle.pat_meaning.specs.declared.patterns.Time.{Time}
use Rattle.pat_meaning.specs.declared.patterns.TimeUnit.{TimeUnit}
use Rattle.pat_meaning.specs.declared.patterns.TimeUnit.TheVariants as unit
use Rattle.pat_meaning.specs.declared.patterns.Value.{Value}
use Rattle.pat_meaning.specs.Columns.{FitsColumns}
use Rattle.pat_text.specs.declared.parsed.ParsedPattern.{ParsedPattern}
use Rattle.pat_text.specs.Spelled.{text_of, unit_named}
use Rattle.pat_text.specs.Patterns.{time_unit, added, stamp, label, pattern}
use Rattle.pat_io.specs.Spelling.{item_end, values_text, unit_text, sign_text, time_text, label_text, pattern_text, patterns_text}
use Rattle.pat_io.specs.ReadAgain.{written_values, written_pattern}
use Rattle.pat_print.specs.WrittenAgain.{IsSmallLabel}
use Rattle.pat_print.proofs.Places.{at, takes, blank, line_end, line_behind}
use Rattle.pat_print.proofs.Sentences.{Reads, read_nothing, read_one, read_then, read_left, read_right, read_none, read_more, read_before, read_from}
use Rattle.pat_print.proofs.Words.{read_same, fits_step, read_sign, read_number, read_label, read_no_label}
use Rattle.pat_print.proofs.Columns.{together_onto, columns_from, lines_behind}
use Rattle.pat_print.proofs.Values.{read_values}

-- ---- units

abbrev unit_word : TimeUnit → List ℕ
unit_word unit.Femtosecond = codes "fs"
unit_word unit.Picosecond = codes "ps"
unit_word unit.Nanosecond = codes "ns"
unit_word unit.Microsecond = codes "us"
unit_word unit.Millisecond = codes "ms"

unit_piece : (u : TimeUnit) (rest : List ℕ) → piece_at false (unit_word u ++ 62 ∷ rest) ≡ piece.Token (token.Identifier (unit_word u)) (length (unit_word u))
unfolding piece_at word_at keyword_of
unit_piece unit.Femtosecond rest = refl
unit_piece unit.Picosecond rest = refl
unit_piece unit.Nanosecond rest = refl
unit_piece unit.Microsecond rest = refl
unit_piece unit.Millisecond rest = refl

some_word : (u : TimeUnit) → 0 < length (unit_word u)
some_word unit.Femtosecond = omega arith
some_word unit.Picosecond = omega arith
some_word unit.Nanosecond = omega arith
some_word unit.Microsecond = omega arith
some_word unit.Millisecond = omega arith

unit_text_is : (u : TimeUnit) (rest : List ℕ) → unit_text u ++ rest ≡ 32 ∷ (unit_word u ++ 62 ∷ 32 ∷ rest)
unit_text_is unit.Femtosecond rest = refl
unit_text_is unit.Picosecond rest = refl
unit_text_is unit.Nanosecond rest = refl
unit_text_is unit.Microsecond rest = refl
unit_text_is unit.Millisecond rest = refl

unit_named_is : (u : TimeUnit) → unit_named (unit_word u) ≡ Some u
unit_named_is unit.Femtosecond = refl
unit_named_is unit.Picosecond = refl
unit_named_is unit.Nanosecond = refl
unit_named_is unit.Microsecond = refl
unit_named_is unit.Millisecond = refl

read_unit : (u : TimeUnit) (line : ℕ) (rest : List ℕ) → Reads time_unit u (at false line (unit_word u ++ 62 ∷ rest)) (at false line (62 ∷ rest))
unfolding time_unit code_of
read_unit u line rest =
    let t : PlacedToken = record { token = token.Identifier (unit_word u); line = line } in
    let here = takes false false line (unit_word u) (62 ∷ rest) (token.Identifier (unit_word u)) (some_word u) (unit_piece u rest) refl in
    read_then t u (read_one form.Identifier (λ t. fits (is_some (unit_named (text_of t)))) t (at false line (unit_word u ++ 62 ∷ rest)) (at false line (62 ∷ rest)) here refl (fits_step (is_some (unit_named (unit_word u))) (ap is_some (unit_named_is u))))
    (read_same (unwrap_or (unit_named (unit_word u)) unit.Femtosecond) u (at false line (62 ∷ rest)) (sym (ap (λ (o : Option TimeUnit). unwrap_or o unit.Femtosecond) (unit_named_is u))))

-- ---- times

less_piece : (rest : List ℕ) → piece_at false (60 ∷ 32 ∷ rest) ≡ piece.Token (token.Sign sign.Less) 1
unfolding piece_at sign_at
less_piece rest = refl

plus_piece : (rest : List ℕ) → piece_at false (43 ∷ rest) ≡ piece.Token (token.Sign sign.Plus) 1
unfolding piece_at sign_at
plus_piece rest = refl

greater_piece : (rest : List ℕ) → piece_at false (62 ∷ rest) ≡ piece.Token (token.Sign sign.Greater) 1
unfolding piece_at sign_at
greater_piece rest = refl

read_added : (a : Bool) (line : ℕ) (rest : List ℕ) → Reads added a (at false line (sign_text a ++ rest)) (at false line rest)
unfolding added
read_added true line rest =
    read_before (read_left (read_then (record { token = token.Sign sign.Plus; line = line }) true (read_sign false false line 43 (32 ∷ rest) sign.Plus (plus_piece (32 ∷ rest)) refl) (read_nothing true (at false line (32 ∷ rest))))) (blank false line rest)
read_added false line rest = read_right (read_nothing false (at false line rest))

read_stamp : (t : Time) (line : ℕ) (rest : List ℕ) → t.number < 2 ^ 32 → Reads stamp (line, t) (at false line (time_text t ++ rest)) (at false line rest)
unfolding stamp
read_stamp t line rest small =
    let x : ℕ × Time = (line, t) in
    let close = 62 ∷ 32 ∷ rest in
    let units = unit_word t.unit ++ close in
    let numbers = decimal t.number ++ 32 ∷ units in
    let signs = sign_text t.is_added ++ numbers in
    read_from false line (together_onto (codes "< " ∷ sign_text t.is_added ∷ decimal t.number ∷ unit_text t.unit ∷ []) rest
    ∙ ap (λ (u : List ℕ). 60 ∷ 32 ∷ (sign_text t.is_added ++ (decimal t.number ++ u))) (unit_text_is t.unit rest))
    (read_then (record { token = token.Sign sign.Less; line = line }) x (read_before (read_sign false false line 60 (32 ∷ signs) sign.Less (less_piece signs) refl) (blank false line signs))
    (read_then t.is_added x (read_added t.is_added line numbers)
    (read_then t.number x (read_before (read_number t.number line (32 ∷ units) small refl) (blank false line units))
    (read_then t.unit x (read_unit t.unit line (32 ∷ rest))
    (read_then (record { token = token.Sign sign.Greater; line = line }) x (read_before (read_sign false false line 62 (32 ∷ rest) sign.Greater (greater_piece (32 ∷ rest)) refl) (blank false line rest))
    (read_nothing x (at false line rest)))))))

-- ---- patterns

read_labels : (l : Option (List ℕ)) (line : ℕ) (rest : List ℕ) → IsSmallLabel l → Reads label l (at false line (label_text l ++ rest)) (at false line rest)
read_labels None line rest w = read_no_label (at false line rest)
read_labels (Some l) line rest w = read_from false line (append_assoc l (codes " ") rest) (read_before (read_label l line (32 ∷ rest) w refl) (blank false line rest))

colon_piece : (cs : List Column) (vs : List Value) (rest : List ℕ) → piece_at false (58 ∷ (values_text cs vs ++ 59 ∷ rest)) ≡ piece.Token (token.Sign sign.Colon) 1
unfolding piece_at sign_at
colon_piece [] vs rest = refl
colon_piece (c ∷ cs) [] rest = refl
colon_piece (c ∷ cs) (v ∷ vs) rest = refl

read_pattern : (cs : List Column) (q : Pattern) (before line : ℕ) (rest : List ℕ) → FitsColumns cs q.values → IsSmallLabel q.label → q.time.number < 2 ^ 32
    → Reads (pattern (columns_from before cs)) (written_pattern line cs q) (at false line (pattern_text cs q ++ rest)) (at false (line_behind line) rest)
unfolding pattern
read_pattern cs q before line rest fit w small =
    let x = written_pattern line cs q in
    let given = values_text cs q.values ++ 59 ∷ 10 ∷ rest in
    read_from false line (together_onto (time_text q.time ∷ label_text q.label ∷ codes ":" ∷ values_text cs q.values ∷ item_end ∷ []) rest)
    (read_before
    (read_then (line, q.time) x (read_stamp q.time line (label_text q.label ++ 58 ∷ given) small)
    (read_then q.label x (read_labels q.label line (58 ∷ given) w)
    (read_then (record { token = token.Sign sign.Colon; line = line }) x (read_sign false true line 58 given sign.Colon (colon_piece cs q.values (10 ∷ rest)) refl)
    (read_then (written_values line cs q.values) x (read_values cs q.values before line (10 ∷ rest) fit)
    (read_nothing x (at false line (10 ∷ rest)))))))
    (line_end false line rest))

-- each on its line
abbrev pub patterns_from : ℕ → List Column → List Pattern → List ParsedPattern
patterns_from line cs [] = []
patterns_from line cs (q ∷ qs) = written_pattern line cs q ∷ patterns_from (line_behind line) cs qs

pub read_patterns : (cs : List Column) (qs : List Pattern) (before line : ℕ) (rest : List ℕ)
    → All (λ q. FitsColumns cs q.values) qs → All (λ q. IsSmallLabel q.label) qs → All (λ q. q.time.number < 2 ^ 32) qs
    → Reads (list (pattern (columns_from before cs))) (patterns_from line cs qs) (at false line (patterns_text cs qs ++ rest)) (at false (lines_behind line qs) rest)
read_patterns cs [] before line rest fit labels numbers = read_none (pattern (columns_from before cs)) (at false line rest)
read_patterns cs (q ∷ qs) before line rest fit labels numbers =
    let F : Pattern → Type 0 = λ q. FitsColumns cs q.values in
    let L : Pattern → Type 0 = λ q. IsSmallLabel q.label in
    let N : Pattern → Type 0 = λ q. q.time.number < 2 ^ 32 in
    read_from false line (append_assoc (pattern_text cs q) (patterns_text cs qs) rest)
    (read_more (read_pattern cs q before line (patterns_text cs qs ++ rest) (All-head F q qs fit) (All-head L q qs labels) (All-head N q qs numbers))
    (read_patterns cs qs before (line_behind line) rest (All-tail F q qs fit) (All-tail L q qs labels) (All-tail N q qs numbers)))
