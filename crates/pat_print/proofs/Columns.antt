-- The columns of patterns as they are written.
use Rattle.std.proofs.Common.{◌≡◌, ℕ, ◌^◌, ◌<◌, Bool, true, false, nat_le, List, [], ◌∷◌, ◌++◌, Option, None, Some, is_some, slice_index, refl, sym, ap, ◌∙◌, append_assoc, arith, codes, if◌then◌else◌}
use Rattle.std.specs.List.{All}
use Rattle.std.specs.Char.{is_ascii_digit}
use Rattle.std.specs.Fmt.{decimal}
use Rattle.std.proofs.lemmas.List.Elements.{All-head, All-tail}
use Rattle.vlsi_base.specs.declared.name.Dir.{Dir}
use Rattle.vlsi_base.specs.declared.name.Dir.TheVariants as dir
use Rattle.vhdl_token.specs.Keyword.{keyword_of}
use Rattle.vhdl_token.specs.declared.keyword.Keyword.TheVariants as word
use Rattle.vhdl_token.specs.declared.token.PlacedToken.{PlacedToken}
use Rattle.vhdl_token.specs.declared.token.Token.TheVariants as token
use Rattle.vhdl_token.specs.declared.token.Sign.TheVariants as sign
use Rattle.lexer_base.specs.declared.piece.Piece.TheVariants as piece
use Rattle.lexer_base.specs.Bytes.{is_in_word}
use Rattle.lexer_base.specs.Lexical.{sign_at}
use Rattle.pat_lexer.specs.Lexical.{word_at, piece_at}
use Rattle.grammar_theory.specs.declared.form.Form.TheVariants as form
use Rattle.grammar_theory.specs.Tokens.{code_of}
use Rattle.grammar_theory.specs.Marks.{fits}
use Rattle.grammar_theory.specs.Grammar.{nothing, one, ◌or◌, list}
use Rattle.pat_meaning.specs.declared.patterns.BitRange.{BitRange}
use Rattle.pat_meaning.specs.declared.patterns.Column.{Column}
use Rattle.vlsi_base.specs.declared.radix.Radix.{Radix}
use Rattle.vlsi_base.specs.declared.radix.Radix.TheVariants.{Binary, Octal, Hexadecimal}
use Rattle.pat_text.specs.declared.parsed.ParsedColumn.{ParsedColumn}
use Rattle.pat_text.specs.Spelled.{text_of, direction_named, format_named}
use Rattle.pat_text.specs.Patterns.{direction, named_format, one_dir, column_dir, range, column_end, column_behind, column}
use Rattle.pat_io.specs.Spelling.{together, item_end, word_of, range_text, format_text, dir_text, column_text, columns_text}
use Rattle.pat_io.specs.ReadAgain.{written_range, written_column}
use Rattle.pat_print.specs.WrittenAgain.{IsSmallWord, HasSmallEnds}
use Rattle.pat_print.proofs.Places.{at, takes, blank, line_end, line_behind}
use Rattle.pat_print.proofs.Sentences.{Reads, read_nothing, read_one, read_then, read_left, read_right, read_none, read_more, read_behind, read_before, read_from}
use Rattle.pat_print.proofs.Words.{read_plain, read_same, fits_step, read_sign, read_number, token_of_word, word_text, read_word}

-- texts one after another, and more behind them
abbrev pub onto : List (List ℕ) → List ℕ → List ℕ
onto [] rest = rest
onto (t ∷ ts) rest = t ++ onto ts rest

pub together_onto : (ts : List (List ℕ)) (rest : List ℕ) → together ts ++ rest ≡ onto ts rest
together_onto [] rest = refl
together_onto (t ∷ ts) rest = append_assoc t (together ts) rest ∙ ap (λ (x : List ℕ). t ++ x) (together_onto ts rest)

-- ---- ranges

downto_piece : (rest : List ℕ) → piece_at false (codes "downto" ++ 32 ∷ rest) ≡ piece.Token (token.Identifier (codes "downto")) 6
unfolding piece_at word_at keyword_of
downto_piece rest = refl

to_piece : (rest : List ℕ) → piece_at false (codes "to" ++ 32 ∷ rest) ≡ piece.Token (token.Identifier (codes "to")) 2
unfolding piece_at word_at keyword_of
to_piece rest = refl

read_direction : (falls : Bool) (line : ℕ) (rest : List ℕ) → Reads direction falls (at false line ((if falls then codes " downto " else codes " to ") ++ rest)) (at false line rest)
unfolding direction code_of
read_direction true line rest =
    let t : PlacedToken = record { token = token.Identifier (codes "downto"); line = line } in
    let here = takes false false line (codes "downto") (32 ∷ rest) (token.Identifier (codes "downto")) (omega arith) (downto_piece rest) refl in
    read_behind (blank false line (codes "downto" ++ 32 ∷ rest))
    (read_before (read_then t true (read_one form.Identifier (λ t. fits (is_some (direction_named (text_of t)))) t (at false line (codes "downto" ++ 32 ∷ rest)) (at false line (32 ∷ rest)) here refl (fits_step true refl)) (read_nothing true (at false line (32 ∷ rest)))) (blank false line rest))
read_direction false line rest =
    let t : PlacedToken = record { token = token.Identifier (codes "to"); line = line } in
    let here = takes false false line (codes "to") (32 ∷ rest) (token.Identifier (codes "to")) (omega arith) (to_piece rest) refl in
    read_behind (blank false line (codes "to" ++ 32 ∷ rest))
    (read_before (read_then t false (read_one form.Identifier (λ t. fits (is_some (direction_named (text_of t)))) t (at false line (codes "to" ++ 32 ∷ rest)) (at false line (32 ∷ rest)) here refl (fits_step true refl)) (read_nothing false (at false line (32 ∷ rest)))) (blank false line rest))

open_piece : (rest : List ℕ) → piece_at false (40 ∷ rest) ≡ piece.Token (token.Sign sign.LeftParen) 1
unfolding piece_at sign_at
open_piece rest = refl

close_piece : (rest : List ℕ) → piece_at false (41 ∷ rest) ≡ piece.Token (token.Sign sign.RightParen) 1
unfolding piece_at sign_at
close_piece rest = refl

number_stops : (falls : Bool) (rest : List ℕ) → is_ascii_digit (slice_index ((if falls then codes " downto " else codes " to ") ++ rest) 0) ≡ false
number_stops true rest = refl
number_stops false rest = refl

read_bounds : (left right : ℕ) (falls : Bool) (line : ℕ) (rest : List ℕ) → left < 2 ^ 32 → right < 2 ^ 32
    → Reads range (Some (record { left = left; falls = falls; right = right; line = line }))
    (at false line (32 ∷ 40 ∷ (decimal left ++ ((if falls then codes " downto " else codes " to ") ++ (decimal right ++ 41 ∷ rest))))) (at false line rest)
unfolding range
read_bounds left right falls line rest small small' =
    let behind = decimal right ++ 41 ∷ rest in
    let middle = (if falls then codes " downto " else codes " to ") ++ behind in
    read_behind (blank false line (40 ∷ (decimal left ++ middle)))
    (read_then (record { token = token.Sign sign.LeftParen; line = line }) (Some (record { left = left; falls = falls; right = right; line = line }))
    (read_sign false false line 40 (decimal left ++ middle) sign.LeftParen (open_piece (decimal left ++ middle)) refl)
    (read_then left (Some (record { left = left; falls = falls; right = right; line = line })) (read_number left line middle small (number_stops falls behind))
    (read_then falls (Some (record { left = left; falls = falls; right = right; line = line })) (read_direction falls line behind)
    (read_then right (Some (record { left = left; falls = falls; right = right; line = line })) (read_number right line (41 ∷ rest) small' refl)
    (read_then (record { token = token.Sign sign.RightParen; line = line }) (Some (record { left = left; falls = falls; right = right; line = line }))
    (read_sign false false line 41 rest sign.RightParen (close_piece rest) refl)
    (read_nothing (Some (record { left = left; falls = falls; right = right; line = line })) (at false line rest)))))))

read_range : (r : Option BitRange) (line : ℕ) (rest : List ℕ) → HasSmallEnds r → Reads (range or nothing None) (written_range line r) (at false line (range_text r ++ rest)) (at false line rest)
read_range None line rest small = read_right (read_nothing None (at false line rest))
read_range (Some r) line rest small =
    read_from false line (together_onto (codes " (" ∷ decimal r.left ∷ word_of r ∷ decimal r.right ∷ codes ")" ∷ []) rest)
    (read_left (read_bounds r.left r.right (nat_le r.right r.left) line rest small.0 small.1))

-- ---- formats

octal_piece : (rest : List ℕ) → piece_at false (79 ∷ 59 ∷ rest) ≡ piece.Token (token.Identifier (codes "o")) 1
unfolding piece_at word_at keyword_of
octal_piece rest = refl

hexadecimal_piece : (rest : List ℕ) → piece_at false (88 ∷ 59 ∷ rest) ≡ piece.Token (token.Identifier (codes "x")) 1
unfolding piece_at word_at keyword_of
hexadecimal_piece rest = refl

read_format : (f : Radix) (line : ℕ) (rest : List ℕ) → Reads (named_format or nothing Binary) f (at false line (format_text f ++ 59 ∷ rest)) (at false line (59 ∷ rest))
unfolding named_format code_of
read_format Binary line rest = read_right (read_nothing Binary (at false line (59 ∷ rest)))
read_format Octal line rest =
    let t : PlacedToken = record { token = token.Identifier (codes "o"); line = line } in
    let here = takes false false line (79 ∷ []) (59 ∷ rest) (token.Identifier (codes "o")) (omega arith) (octal_piece rest) refl in
    read_behind (blank false line (79 ∷ 59 ∷ rest))
    (read_left (read_then t Octal (read_one form.Identifier (λ t. fits (is_some (format_named (text_of t)))) t (at false line (79 ∷ 59 ∷ rest)) (at false line (59 ∷ rest)) here refl (fits_step true refl)) (read_nothing Octal (at false line (59 ∷ rest)))))
read_format Hexadecimal line rest =
    let t : PlacedToken = record { token = token.Identifier (codes "x"); line = line } in
    let here = takes false false line (88 ∷ []) (59 ∷ rest) (token.Identifier (codes "x")) (omega arith) (hexadecimal_piece rest) refl in
    read_behind (blank false line (88 ∷ 59 ∷ rest))
    (read_left (read_then t Hexadecimal (read_one form.Identifier (λ t. fits (is_some (format_named (text_of t)))) t (at false line (88 ∷ 59 ∷ rest)) (at false line (59 ∷ rest)) here refl (fits_step true refl)) (read_nothing Hexadecimal (at false line (59 ∷ rest)))))

-- ---- columns

pub semicolon_piece : (rest : List ℕ) → piece_at false (59 ∷ rest) ≡ piece.Token (token.Sign sign.Semicolon) 1
unfolding piece_at sign_at
semicolon_piece rest = refl

read_end : (line : ℕ) (rest : List ℕ) → Reads column_end (record { token = token.Sign sign.Semicolon; line = line }) (at false line (59 ∷ rest)) (at false line rest)
unfolding column_end
read_end line rest =
    let t : PlacedToken = record { token = token.Sign sign.Semicolon; line = line } in
    read_then t t (read_sign false false line 59 rest sign.Semicolon (semicolon_piece rest) refl)
    (read_then [] t (read_none (one (form.Sign sign.Semicolon)) (at false line rest)) (read_nothing t (at false line rest)))

in_piece : (rest : List ℕ) → piece_at false (105 ∷ 110 ∷ 32 ∷ rest) ≡ piece.Token (token.Keyword word.In) 2
unfolding piece_at word_at keyword_of
in_piece rest = refl

out_piece : (rest : List ℕ) → piece_at false (111 ∷ 117 ∷ 116 ∷ 32 ∷ rest) ≡ piece.Token (token.Keyword word.Out) 3
unfolding piece_at word_at keyword_of
out_piece rest = refl

read_dir : (d : Dir) (line : ℕ) (rest : List ℕ) → Reads column_dir d (at false line (dir_text d ++ rest)) (at false line rest)
unfolding column_dir one_dir code_of
read_dir dir.In line rest =
    let t : PlacedToken = record { token = token.Keyword word.In; line = line } in
    let here = takes false false line (105 ∷ 110 ∷ []) (32 ∷ rest) (token.Keyword word.In) (omega arith) (in_piece rest) refl in
    read_before (read_left (read_then t dir.In (read_plain (form.Keyword word.In) t (at false line (105 ∷ 110 ∷ 32 ∷ rest)) (at false line (32 ∷ rest)) here refl) (read_nothing dir.In (at false line (32 ∷ rest))))) (blank false line rest)
read_dir dir.Out line rest =
    let t : PlacedToken = record { token = token.Keyword word.Out; line = line } in
    let here = takes false false line (111 ∷ 117 ∷ 116 ∷ []) (32 ∷ rest) (token.Keyword word.Out) (omega arith) (out_piece rest) refl in
    read_before (read_right (read_then t dir.Out (read_plain (form.Keyword word.Out) t (at false line (111 ∷ 117 ∷ 116 ∷ 32 ∷ rest)) (at false line (32 ∷ rest)) here refl) (read_nothing dir.Out (at false line (32 ∷ rest))))) (blank false line rest)

name_stops : (r : Option BitRange) (f : Radix) (rest : List ℕ) → is_in_word (slice_index (range_text r ++ (format_text f ++ 59 ∷ rest)) 0) ≡ false
name_stops None Binary rest = refl
name_stops None Octal rest = refl
name_stops None Hexadecimal rest = refl
name_stops (Some r) f rest = refl

read_behind_dir : (c : Column) (line : ℕ) (rest : List ℕ) → IsSmallWord c.name → HasSmallEnds c.range
    → Reads (column_behind c.dir) (written_column line c) (at false line (c.name ++ (range_text c.range ++ (format_text c.format ++ 59 ∷ rest)))) (at false line rest)
unfolding column_behind
read_behind_dir c line rest w small =
    let made : List ℕ → ParsedColumn = λ name. record { name = name; line = line; dir = c.dir; range = written_range line c.range; format = c.format } in
    let back = format_text c.format ++ 59 ∷ rest in
    read_then (token_of_word c.name line) (written_column line c) (read_word c.name line (range_text c.range ++ back) w (name_stops c.range c.format rest))
    (read_then (written_range line c.range) (written_column line c) (read_range c.range line back small)
    (read_then c.format (written_column line c) (read_format c.format line rest)
    (read_then (record { token = token.Sign sign.Semicolon; line = line }) (written_column line c) (read_end line rest)
    (read_same (made (text_of (token_of_word c.name line))) (written_column line c) (at false line rest) (sym (ap made (word_text c.name line)))))))

read_column : (c : Column) (line : ℕ) (rest : List ℕ) → IsSmallWord c.name → HasSmallEnds c.range
    → Reads column (written_column line c) (at false line (column_text c ++ rest)) (at false (line_behind line) rest)
unfolding column
read_column c line rest w small =
    read_from false line (together_onto (dir_text c.dir ∷ c.name ∷ range_text c.range ∷ format_text c.format ∷ item_end ∷ []) rest)
    (read_before (read_then c.dir (written_column line c) (read_dir c.dir line (c.name ++ (range_text c.range ++ (format_text c.format ++ 59 ∷ 10 ∷ rest)))) (read_behind_dir c line (10 ∷ rest) w small))
    (line_end false line rest))

-- each on its line
abbrev pub columns_from : ℕ → List Column → List ParsedColumn
columns_from line [] = []
columns_from line (c ∷ cs) = written_column line c ∷ columns_from (line_behind line) cs

-- the line behind so many items, each on its line
abbrev pub lines_behind : {A : Type 0} → ℕ → List A → ℕ
lines_behind line [] = line
lines_behind line (x ∷ xs) = lines_behind (line_behind line) xs

pub read_columns : (cs : List Column) (line : ℕ) (rest : List ℕ) → All (λ c. IsSmallWord c.name) cs → All (λ c. HasSmallEnds c.range) cs
    → Reads (list column) (columns_from line cs) (at false line (columns_text cs ++ rest)) (at false (lines_behind line cs) rest)
read_columns [] line rest names ends = read_none column (at false line rest)
read_columns (c ∷ cs) line rest names ends =
    let N : Column → Type 0 = λ c. IsSmallWord c.name in
    let E : Column → Type 0 = λ c. HasSmallEnds c.range in
    read_from false line (append_assoc (column_text c) (columns_text cs) rest)
    (read_more (read_column c line (columns_text cs ++ rest) (All-head N c cs names) (All-head E c cs ends)) (read_columns cs (line_behind line) rest (All-tail N c cs names) (All-tail E c cs ends)))
