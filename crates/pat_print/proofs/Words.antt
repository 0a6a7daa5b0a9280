-- Words, numbers and signs where the grammar asks for them.
use Rattle.std.proofs.Common.{◌≡◌, ℕ, ◌^◌, ◌<◌, Bool, true, false, List, [], ◌∷◌, ◌++◌, Option, None, Some, Ok, length, slice_index, refl, sym, ap, ◌∙◌, arith, bytes_eq, ◌⊎◌, inl, inr, if◌then◌else◌}
use Rattle.std.specs.Char.{is_ascii_digit}
use Rattle.std.specs.Fmt.{decimal}
use Rattle.std.proofs.lemmas.Slice.Eq.{bytes_eq-Decides}
use Rattle.vhdl_token.specs.Keyword.{keyword_text, keyword_among, keyword_of, keywords}
use Rattle.vhdl_token.specs.declared.keyword.Keyword.{Keyword}
use Rattle.vhdl_token.specs.declared.keyword.Keyword.TheVariants as word
use Rattle.vhdl_token.specs.declared.token.PlacedToken.{PlacedToken}
use Rattle.vhdl_token.specs.declared.token.Token.TheVariants as token
use Rattle.vhdl_token.specs.declared.token.Sign.{Sign}
use Rattle.lexer_base.specs.declared.piece.Piece.TheVariants as piece
use Rattle.lexer_base.specs.Bytes.{is_in_word}
use Rattle.pat_lexer.specs.Lexical.{word_token, piece_at, value_behind}
use Rattle.grammar_theory.specs.declared.form.Form.{Form}
use Rattle.grammar_theory.specs.declared.form.Form.TheVariants as form
use Rattle.grammar_theory.specs.Tokens.{code, code_of}
use Rattle.grammar_theory.specs.Marks.{plain, fits, step}
use Rattle.grammar_theory.specs.Grammar.{nothing, one}
use Rattle.vhdl_front.specs.Expression.{number}
use Rattle.pat_text.specs.Spelled.{text_in, text_of}
use Rattle.pat_text.specs.Patterns.{any_word, labelled, label}
use Rattle.pat_print.specs.WrittenAgain.{IsSmallWord}
use Rattle.pat_print.proofs.Places.{Place, at, Takes, takes}
use Rattle.pat_print.proofs.Sentences.{start, Reads, read_nothing, read_one, read_then, read_left, read_right}
use Rattle.pat_print.proofs.Letters.{word_piece, word_some, number_piece, decimal_is}

-- ---- marks

pub plain_step : step plain start ≡ Ok start
unfolding step
plain_step = refl

pub fits_step : (b : Bool) → b ≡ true → step (fits b) start ≡ Ok start
unfolding step
fits_step true h = refl
fits_step false h = absurd cc

-- a token of this kind
pub read_plain : (f : Form) (t : PlacedToken) (h k : Place) → Takes t h k → code_of t ≡ code f → Reads (one f) t h k
read_plain f t h k takes kind = read_one f (λ _. plain) t h k takes kind plain_step

-- a sentence without tokens whose value is equal
pub read_same : {A : Type 0} (x y : A) (h : Place) → y ≡ x → Reads (nothing x) y h h
read_same x y h same = record { items = []; tokens = refl; refusal = refl; sentence = (refl, same); calm = tt }

-- ---- signs

pub take_sign : (v v' : Bool) (line c : ℕ) (rest : List ℕ) (s : Sign) → piece_at v (c ∷ rest) ≡ piece.Token (token.Sign s) 1 → value_behind (piece.Token (token.Sign s) 1) v ≡ v'
    → Takes (record { token = token.Sign s; line = line }) (at v line (c ∷ rest)) (at v' line rest)
take_sign v v' line c rest s is behind = takes v v' line (c ∷ []) rest (token.Sign s) (omega arith) is behind

pub read_sign : (v v' : Bool) (line c : ℕ) (rest : List ℕ) (s : Sign) → piece_at v (c ∷ rest) ≡ piece.Token (token.Sign s) 1 → value_behind (piece.Token (token.Sign s) 1) v ≡ v'
    → Reads (one (form.Sign s)) (record { token = token.Sign s; line = line }) (at v line (c ∷ rest)) (at v' line rest)
unfolding code_of
read_sign v v' line c rest s is behind = read_plain (form.Sign s) (record { token = token.Sign s; line = line }) (at v line (c ∷ rest)) (at v' line rest) (take_sign v v' line c rest s is behind) refl

-- ---- numbers

pub read_number : (n line : ℕ) (rest : List ℕ) → n < 2 ^ 32 → is_ascii_digit (slice_index rest 0) ≡ false → Reads number n (at false line (decimal n ++ rest)) (at false line rest)
unfolding number code_of
read_number n line rest less stops =
    let t : PlacedToken = record { token = token.Number n; line = line } in
    let d = decimal_is n (omega arith) in
    let here = takes false false line (decimal n) rest (token.Number n) d.some (number_piece n rest less stops) refl in
    read_then t n (read_plain form.Number t (at false line (decimal n ++ rest)) (at false line rest) here refl) (read_nothing n (at false line rest))

-- ---- words

picked : (b : Bool) (x k : Keyword) (rest : Option Keyword) → (if b then Some x else rest) ≡ Some k → ((b ≡ true) × (x ≡ k)) ⊎ (rest ≡ Some k)
picked true x k rest h = inl (refl, cc)
picked false x k rest h = inr h

found : (w : List ℕ) (ks : List Keyword) (k : Keyword) → keyword_among w ks ≡ Some k → keyword_text k ≡ w
found w [] k h = absurd cc
found w (x ∷ xs) k h = elim (picked (bytes_eq (keyword_text x) w) x k (keyword_among w xs) h) [
  | inl is ↦ sym (ap keyword_text is.1) ∙ (bytes_eq-Decides (keyword_text x) w).0 is.0
  | inr later ↦ found w xs k later
]

behind_word : (o : Option Keyword) (name : List ℕ) (n : ℕ) → value_behind (piece.Token (word_token o name) n) false ≡ false
behind_word None name n = refl
behind_word (Some word.In) name n = refl
behind_word (Some word.Out) name n = refl
behind_word (Some word.Begin) name n = refl
behind_word (Some word.End) name n = refl
behind_word (Some _) name n = refl

abbrev pub token_of_word : List ℕ → ℕ → PlacedToken
token_of_word name line = record { token = word_token (keyword_of name) name; line = line }

text_by : (o : Option Keyword) (name : List ℕ) → keyword_of name ≡ o → text_in (word_token o name) ≡ name
unfolding keyword_of
text_by None name h = refl
text_by (Some word.In) name h = found name keywords word.In h
text_by (Some word.Out) name h = found name keywords word.Out h
text_by (Some word.Begin) name h = found name keywords word.Begin h
text_by (Some word.End) name h = found name keywords word.End h
text_by (Some _) name h = refl

pub word_text : (name : List ℕ) (line : ℕ) → text_of (token_of_word name line) ≡ name
word_text name line = text_by (keyword_of name) name refl

pub take_word : (name : List ℕ) (line : ℕ) (rest : List ℕ) → IsSmallWord name → is_in_word (slice_index rest 0) ≡ false → Takes (token_of_word name line) (at false line (name ++ rest)) (at false line rest)
take_word name line rest w stops = takes false false line name rest (word_token (keyword_of name) name) (word_some name w) (word_piece name rest w stops) (behind_word (keyword_of name) name (length name))

word_by : (o : Option Keyword) (name : List ℕ) (line : ℕ) (h k : Place) → Takes (record { token = word_token o name; line = line }) h k → Reads any_word (record { token = word_token o name; line = line }) h k
unfolding any_word code_of
word_by None name line h k takes = read_right (read_right (read_right (read_right (read_plain form.Identifier (record { token = token.Identifier name; line = line }) h k takes refl))))
word_by (Some word.In) name line h k takes = read_left (read_plain (form.Keyword word.In) (record { token = token.Keyword word.In; line = line }) h k takes refl)
word_by (Some word.Out) name line h k takes = read_right (read_left (read_plain (form.Keyword word.Out) (record { token = token.Keyword word.Out; line = line }) h k takes refl))
word_by (Some word.Begin) name line h k takes = read_right (read_right (read_left (read_plain (form.Keyword word.Begin) (record { token = token.Keyword word.Begin; line = line }) h k takes refl)))
word_by (Some word.End) name line h k takes = read_right (read_right (read_right (read_left (read_plain (form.Keyword word.End) (record { token = token.Keyword word.End; line = line }) h k takes refl))))
word_by (Some _) name line h k takes = read_right (read_right (read_right (read_right (read_plain form.Identifier (record { token = token.Identifier name; line = line }) h k takes refl))))

pub read_word : (name : List ℕ) (line : ℕ) (rest : List ℕ) → IsSmallWord name → is_in_word (slice_index rest 0) ≡ false → Reads any_word (token_of_word name line) (at false line (name ++ rest)) (at false line rest)
read_word name line rest w stops = word_by (keyword_of name) name line (at false line (name ++ rest)) (at false line rest) (take_word name line rest w stops)

-- ---- labels

labelled_by : (f : Form) (t : PlacedToken) (name : List ℕ) (h k : Place) → text_of t ≡ name → code_of t ≡ code f → Takes t h k → Reads (labelled f) (Some name) h k
unfolding labelled
labelled_by f t name h k same kind takes = read_then t (Some name) (read_plain f t h k takes kind) (read_same (Some (text_of t)) (Some name) k (ap Some (sym same)))

label_by : (o : Option Keyword) (name : List ℕ) (line : ℕ) (h k : Place) → text_in (word_token o name) ≡ name → Takes (record { token = word_token o name; line = line }) h k → Reads label (Some name) h k
unfolding label code_of
label_by None name line h k same takes = read_right (read_right (read_right (read_right (read_left (labelled_by form.Identifier (record { token = token.Identifier name; line = line }) name h k same refl takes)))))
label_by (Some word.In) name line h k same takes = read_left (labelled_by (form.Keyword word.In) (record { token = token.Keyword word.In; line = line }) name h k same refl takes)
label_by (Some word.Out) name line h k same takes = read_right (read_left (labelled_by (form.Keyword word.Out) (record { token = token.Keyword word.Out; line = line }) name h k same refl takes))
label_by (Some word.Begin) name line h k same takes = read_right (read_right (read_left (labelled_by (form.Keyword word.Begin) (record { token = token.Keyword word.Begin; line = line }) name h k same refl takes)))
label_by (Some word.End) name line h k same takes = read_right (read_right (read_right (read_left (labelled_by (form.Keyword word.End) (record { token = token.Keyword word.End; line = line }) name h k same refl takes))))
label_by (Some _) name line h k same takes = read_right (read_right (read_right (read_right (read_left (labelled_by form.Identifier (record { token = token.Identifier name; line = line }) name h k same refl takes)))))

pub read_label : (name : List ℕ) (line : ℕ) (rest : List ℕ) → IsSmallWord name → is_in_word (slice_index rest 0) ≡ false → Reads label (Some name) (at false line (name ++ rest)) (at false line rest)
read_label name line rest w stops = label_by (keyword_of name) name line (at false line (name ++ rest)) (at false line rest) (word_text name line) (take_word name line rest w stops)

pub read_no_label : (h : Place) → Reads label None h h
unfolding label
read_no_label h = read_right (read_right (read_right (read_right (read_right (read_nothing None h)))))
