-- The values of patterns as they are written.
use Rattle.std.proofs.Common.{◌≡◌, ℕ, zero, suc, ◌+◌, ◌-◌, ◌*◌, ◌/◌, ◌<◌, ◌≤◌, Bool, true, false, ◌&&◌, List, [], ◌∷◌, ◌++◌, Option, None, Some, length, take, drop, slice_index, refl, ap, append_assoc, arith, codes, length-drop}
use Rattle.std.specs.List.{list_all}
use Rattle.std.proofs.lemmas.Bool.{and_parts}
use Rattle.std.proofs.lemmas.List.{length-take-le}
use Rattle.vlsi_base.specs.declared.name.Dir.{Dir}
use Rattle.vlsi_base.specs.declared.name.Dir.TheVariants as dir
use Rattle.vhdl_token.specs.declared.token.Token.TheVariants as token
use Rattle.vhdl_token.specs.declared.token.Sign.TheVariants as sign
use Rattle.lexer_base.specs.declared.piece.Piece.TheVariants as piece
use Rattle.lexer_base.specs.Lexical.{sign_at}
use Rattle.pat_lexer.specs.Lexical.{is_letter_or_digit, piece_at}
use Rattle.grammar_theory.specs.declared.form.Form.TheVariants as form
use Rattle.grammar_theory.specs.Tokens.{code_of}
use Rattle.grammar_theory.specs.Marks.{fits}
use Rattle.pat_meaning.specs.declared.patterns.BitRange.{BitRange}
use Rattle.pat_meaning.specs.declared.patterns.Column.{Column}
use Rattle.vlsi_base.specs.declared.radix.Radix.{Radix}
use Rattle.vlsi_base.specs.declared.radix.Radix.TheVariants.{Binary, Octal, Hexadecimal}
use Rattle.pat_meaning.specs.declared.patterns.Value.{Value}
use Rattle.pat_meaning.specs.declared.patterns.Value.TheVariants.{Digits, Any}
use Rattle.pat_meaning.specs.Columns.{names_of_range, Fits, FitsColumns}
use Rattle.pat_text.specs.declared.parsed.ParsedValue.{ParsedValue}
use Rattle.pat_text.specs.Spelled.{text_of, is_digit}
use Rattle.pat_text.specs.Patterns.{digits, given, anything, wanted, expected, value_of, values}
use Rattle.vlsi_base.specs.Radix.{digit_width}
use Rattle.pat_io.specs.Spelling.{number_from, digit_of, digits_text, bits_text, mark_text, value_text, values_text}
use Rattle.pat_io.specs.ReadAgain.{written_range, written_digits, written_values}
use Rattle.pat_io.proofs.Ranges.{length_names}
use Rattle.pat_print.proofs.Places.{at, takes, blank, line_behind}
use Rattle.pat_print.proofs.Sentences.{Reads, read_nothing, read_one, read_then, read_left, read_right, read_behind, read_from}
use Rattle.pat_print.proofs.Letters.{both, is_hexadecimal, digits_piece}
use Rattle.pat_print.proofs.Words.{fits_step, read_sign}
use Rattle.pat_print.proofs.Columns.{columns_from}

-- ---- digits

-- a digit of the format, that the lexer takes for one
abbrev is_fine : Radix → ℕ → Bool
is_fine f c = is_digit f c && is_hexadecimal c

abbrev fine : Radix → List Bool → Bool
fine f bits = is_fine f (digit_of (number_from 0 bits))

abbrev every : (Bool → Bool) → Bool
every f = f true && f false

each : (f : Bool → Bool) → every f ≡ true → (b : Bool) → f b ≡ true
each f h true = (and_parts (f true) (f false) h).0
each f h false = (and_parts (f true) (f false) h).1

fine_digit : (f : Radix) (bits : List Bool) → length bits ≤ digit_width f → fine f bits ≡ true
fine_digit Binary [] h = refl
fine_digit Binary (a ∷ []) h = each (λ a. fine Binary (a ∷ [])) refl a
fine_digit Binary (a ∷ b ∷ bs) h = absurd (omega arith)
fine_digit Octal [] h = refl
fine_digit Octal (a ∷ []) h = each (λ a. fine Octal (a ∷ [])) refl a
fine_digit Octal (a ∷ b ∷ []) h = each (λ b. fine Octal (a ∷ b ∷ [])) (each (λ a. every (λ b. fine Octal (a ∷ b ∷ []))) refl a) b
fine_digit Octal (a ∷ b ∷ c ∷ []) h =
    each (λ c. fine Octal (a ∷ b ∷ c ∷ [])) (each (λ b. every (λ c. fine Octal (a ∷ b ∷ c ∷ []))) (each (λ a. every (λ b. every (λ c. fine Octal (a ∷ b ∷ c ∷ [])))) refl a) b) c
fine_digit Octal (a ∷ b ∷ c ∷ d ∷ bs) h = absurd (omega arith)
fine_digit Hexadecimal [] h = refl
fine_digit Hexadecimal (a ∷ []) h = each (λ a. fine Hexadecimal (a ∷ [])) refl a
fine_digit Hexadecimal (a ∷ b ∷ []) h = each (λ b. fine Hexadecimal (a ∷ b ∷ [])) (each (λ a. every (λ b. fine Hexadecimal (a ∷ b ∷ []))) refl a) b
fine_digit Hexadecimal (a ∷ b ∷ c ∷ []) h =
    each (λ c. fine Hexadecimal (a ∷ b ∷ c ∷ [])) (each (λ b. every (λ c. fine Hexadecimal (a ∷ b ∷ c ∷ []))) (each (λ a. every (λ b. every (λ c. fine Hexadecimal (a ∷ b ∷ c ∷ [])))) refl a) b) c
fine_digit Hexadecimal (a ∷ b ∷ c ∷ d ∷ []) h =
    each (λ d. fine Hexadecimal (a ∷ b ∷ c ∷ d ∷ []))
    (each (λ c. every (λ d. fine Hexadecimal (a ∷ b ∷ c ∷ d ∷ [])))
    (each (λ b. every (λ c. every (λ d. fine Hexadecimal (a ∷ b ∷ c ∷ d ∷ []))))
    (each (λ a. every (λ b. every (λ c. every (λ d. fine Hexadecimal (a ∷ b ∷ c ∷ d ∷ []))))) refl a) b) c) d
fine_digit Hexadecimal (a ∷ b ∷ c ∷ d ∷ e ∷ bs) h = absurd (omega arith)

times_more : (k n : ℕ) → k * suc n ≡ k + k * n
times_more k n = omega arith

fine_digits : (f : Radix) (n : ℕ) (bits : List Bool) → length bits ≤ digit_width f * n → list_all (is_fine f) (digits_text (digit_width f) n bits) ≡ true
fine_digits f zero bits most = refl
fine_digits f (suc n) bits most =
    let k = digit_width f in
    let m = times_more k n in
    let front = length bits - k * n in
    let in_front : length (take front bits) ≡ front = length-take-le front bits (omega (arith, m)) in
    both (is_fine f (digit_of (number_from 0 (take front bits)))) (list_all (is_fine f) (digits_text k n (drop front bits)))
    (fine_digit f (take front bits) (omega (arith, in_front, m)))
    (fine_digits f n (drop front bits) (omega (arith, length-drop front bits)))

some_digits : (k n : ℕ) (bits : List Bool) → 0 < n → 0 < length (digits_text k n bits)
some_digits k zero bits h = absurd (omega arith)
some_digits k (suc n) bits h = omega arith

record Enough (k n count : ℕ) : Type 0 where
  most : n ≤ k * count
  some : 0 < count

enough : (f : Radix) (n : ℕ) → 0 < n → Enough (digit_width f) n ((n + (digit_width f - 1)) / digit_width f)
enough Binary n h = record { most = omega arith; some = omega arith }
enough Octal n h = record { most = omega arith; some = omega arith }
enough Hexadecimal n h = record { most = omega arith; some = omega arith }

first_of_both : (a b : ℕ → Bool) (s : List ℕ) → list_all (λ c. a c && b c) s ≡ true → list_all a s ≡ true
first_of_both a b [] h = refl
first_of_both a b (c ∷ cs) h = let p = and_parts (a c && b c) (list_all (λ c. a c && b c) cs) h in both (a c) (list_all a cs) (and_parts (a c) (b c) p.0).0 (first_of_both a b cs p.1)

second_of_both : (a b : ℕ → Bool) (s : List ℕ) → list_all (λ c. a c && b c) s ≡ true → list_all b s ≡ true
second_of_both a b [] h = refl
second_of_both a b (c ∷ cs) h = let p = and_parts (a c && b c) (list_all (λ c. a c && b c) cs) h in both (b c) (list_all b cs) (and_parts (a c) (b c) p.0).1 (second_of_both a b cs p.1)

read_digits : (f : Radix) (bits : List Bool) (line : ℕ) (rest : List ℕ) → 0 < length bits → is_letter_or_digit (slice_index rest 0) ≡ false
    → Reads (digits f) (record { token = token.Digits (bits_text f bits); line = line }) (at true line (bits_text f bits ++ rest)) (at true line rest)
unfolding digits code_of
read_digits f bits line rest some stops =
    let s = bits_text f bits in
    let e = enough f (length bits) some in
    let all = fine_digits f ((length bits + (digit_width f - 1)) / digit_width f) bits e.most in
    let there = some_digits (digit_width f) ((length bits + (digit_width f - 1)) / digit_width f) bits e.some in
    let here = takes true true line s rest (token.Digits s) there (digits_piece s rest there (second_of_both (is_digit f) is_hexadecimal s all) stops) refl in
    read_one form.Digits (λ t. fits (list_all (is_digit f) (text_of t))) (record { token = token.Digits s; line = line }) (at true line (s ++ rest)) (at true line rest) here refl
    (fits_step (list_all (is_digit f) s) (first_of_both (is_digit f) is_hexadecimal s all))

-- ---- values

question_piece : (rest : List ℕ) → piece_at true (63 ∷ rest) ≡ piece.Token (token.Sign sign.Question) 1
unfolding piece_at sign_at
question_piece rest = refl

star_piece : (rest : List ℕ) → piece_at true (42 ∷ rest) ≡ piece.Token (token.Sign sign.Star) 1
unfolding piece_at sign_at
star_piece rest = refl

value_end_piece : (rest : List ℕ) → piece_at true (59 ∷ rest) ≡ piece.Token (token.Sign sign.Semicolon) 1
unfolding piece_at sign_at
value_end_piece rest = refl

read_given : (d : Dir) (f : Radix) (bits : List Bool) (line : ℕ) (rest : List ℕ) → 0 < length bits → is_letter_or_digit (slice_index rest 0) ≡ false
    → Reads (value_of d f) (record { line = line; digits = Some (bits_text f bits) }) (at true line ((mark_text d ++ bits_text f bits) ++ rest)) (at true line rest)
unfolding value_of given expected wanted
read_given dir.In f bits line rest some stops =
    let v : ParsedValue = record { line = line; digits = Some (bits_text f bits) } in
    read_then (record { token = token.Digits (bits_text f bits); line = line }) v (read_digits f bits line rest some stops) (read_nothing v (at true line rest))
read_given dir.Out f bits line rest some stops =
    let v : ParsedValue = record { line = line; digits = Some (bits_text f bits) } in
    read_then (record { token = token.Sign sign.Question; line = line }) v (read_sign true true line 63 (bits_text f bits ++ rest) sign.Question (question_piece (bits_text f bits ++ rest)) refl)
    (read_right (read_then (record { token = token.Digits (bits_text f bits); line = line }) v (read_digits f bits line rest some stops) (read_nothing v (at true line rest))))

read_any : (d : Dir) (f : Radix) (line : ℕ) (rest : List ℕ) → d ≡ dir.Out → Reads (value_of d f) (record { line = line; digits = None }) (at true line (codes "?*" ++ rest)) (at true line rest)
unfolding value_of expected anything
read_any dir.In f line rest is = absurd cc
read_any dir.Out f line rest is =
    let v : ParsedValue = record { line = line; digits = None } in
    read_then (record { token = token.Sign sign.Question; line = line }) v (read_sign true true line 63 (42 ∷ rest) sign.Question (question_piece (42 ∷ rest)) refl)
    (read_left (read_then (record { token = token.Sign sign.Star; line = line }) v (read_sign true true line 42 rest sign.Star (star_piece rest) refl) (read_nothing v (at true line rest))))

some_names : (name : List ℕ) (r : Option BitRange) → 0 < length (names_of_range name r)
some_names name None = omega arith
some_names name (Some r) = let count = length_names name (written_range 0 (Some r)) in omega (arith, count)

read_value : (c : Column) (v : Value) (line : ℕ) (rest : List ℕ) → Fits c v → is_letter_or_digit (slice_index rest 0) ≡ false
    → Reads (value_of c.dir c.format) (record { line = line; digits = written_digits c v }) (at true line (value_text c v ++ rest)) (at true line rest)
read_value c (Digits bits) line rest fit stops =
    let some = some_names c.name c.range in
    let width : length bits ≡ length (names_of_range c.name c.range) = fit in
    read_given c.dir c.format bits line rest (omega (arith, some, width)) stops
read_value c Any line rest fit stops = read_any c.dir c.format line rest fit

value_stops : (cs : List Column) (vs : List Value) (rest : List ℕ) → is_letter_or_digit (slice_index (values_text cs vs ++ 59 ∷ rest) 0) ≡ false
value_stops [] vs rest = refl
value_stops (c ∷ cs) [] rest = refl
value_stops (c ∷ cs) (v ∷ vs) rest = refl

-- the columns may stand on any lines
pub read_values : (cs : List Column) (vs : List Value) (before line : ℕ) (rest : List ℕ) → FitsColumns cs vs
    → Reads (values (columns_from before cs)) (written_values line cs vs) (at true line (values_text cs vs ++ 59 ∷ rest)) (at false line rest)
unfolding values
read_values [] [] before line rest fit =
    read_then (record { token = token.Sign sign.Semicolon; line = line }) [] (read_sign true false line 59 rest sign.Semicolon (value_end_piece rest) refl) (read_nothing [] (at false line rest))
read_values [] (v ∷ vs) before line rest fit = absurd fit
read_values (c ∷ cs) [] before line rest fit = absurd fit
read_values (c ∷ cs) (v ∷ vs) before line rest fit =
    let behind = values_text cs vs ++ 59 ∷ rest in
    let first : ParsedValue = record { line = line; digits = written_digits c v } in
    read_from true line (ap (λ (t : List ℕ). 32 ∷ t) (append_assoc (value_text c v) (values_text cs vs) (59 ∷ rest)))
    (read_behind (blank true line (value_text c v ++ behind))
    (read_then first (first ∷ written_values line cs vs) (read_value c v line behind fit.0 (value_stops cs vs rest))
    (read_then (written_values line cs vs) (first ∷ written_values line cs vs) (read_values cs vs (line_behind before) line rest fit.1)
    (read_nothing (first ∷ written_values line cs vs) (at false line rest)))))
