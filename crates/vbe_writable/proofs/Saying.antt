-- What a grammar says of the names that it declares, where the identifiers of the text are words of at most 64 bytes and its numbers
-- have 32 bits.
use Rattle.std.proofs.Common.{◌≡◌, ◌+◌, ◌^◌, ◌<◌, ℕ, Bool, true, false, List, [], ◌∷◌, ◌++◌, inl, inr, sym, subst, arith, if◌then◌else◌}
use Rattle.std.specs.List.{list_all}
use Rattle.vlsi_base.specs.Member.{In, here, there}
use Rattle.vhdl_token.specs.Keyword.{keyword_number}
use Rattle.vhdl_token.specs.Signs.{sign_number}
use Rattle.vhdl_token.specs.declared.token.Token.{Token}
use Rattle.vhdl_token.specs.declared.token.Token.TheVariants as token
use Rattle.vhdl_token.specs.declared.token.PlacedToken.{PlacedToken}
use Rattle.grammar_theory.specs.declared.form.Form.{Form}
use Rattle.grammar_theory.specs.declared.form.Form.TheVariants as form
use Rattle.grammar_theory.specs.Tokens.{is_bit, is_digit_of, form_of, code, code_of}
use Rattle.grammar_theory.specs.Marks.{Mark, Item}
use Rattle.grammar_theory.specs.Grammar.{Grammar, nothing, marked, Then, ◌or◌, list}
use Rattle.grammar_theory.specs.Answers.{tokens_of}
use Rattle.vhdl_front.specs.Cursor.{identifier_in, name_of, number_in, number_of}
use Rattle.vbe_writable.proofs.Cut.{IsShortWord, IsNamed, AreNamed}

-- P of each
abbrev pub Every : {A : Type 0} → (A → Type 0) → List A → Type 0
Every P [] = Unit {0}
Every P (x ∷ xs) = P x × Every P xs

pub every_append : {A : Type 0} (P : A → Type 0) (xs ys : List A) → Every P xs → Every P ys → Every P (xs ++ ys)
every_append P [] ys h g = g
every_append P (x ∷ xs) ys h g = (h.0, every_append P xs ys h.1 g)

pub every_in : {A : Type 0} (P : A → Type 0) (xs : List A) (x : A) → Every P xs → In x xs → P x
every_in P [] x h i = elim i [ ]
every_in P (y ∷ xs) x h here = h.0
every_in P (y ∷ xs) x h (there i) = every_in P xs x h.1 i

-- ---- tokens of a sentence

abbrev pub Words : List Item → Type 0
Words [] = Unit {0}
Words (i ∷ items) = IsNamed i.token.token × Words items

words_split : (front back : List Item) → Words (front ++ back) → Words front × Words back
words_split [] back h = (tt, h)
words_split (i ∷ front) back h = let rest = words_split front back h.1 in ((h.0, rest.0), rest.1)

pub words_of : (items : List Item) (rest : List PlacedToken) → AreNamed (tokens_of items ++ rest) → Words items
words_of [] rest h = tt
words_of (i ∷ items) rest h = (h.0, words_of items rest h.1)

-- ---- grammars

-- where the identifiers are words, each value has P
pub record Says {A : Type 0} (G : Grammar A) (P : A → Type 0) : Type 0 where
  pub each : (items : List Item) (v : A) → Words items → G items v → P v

pub says_then : {A C : Type 0} {L : Grammar A} {M : A → Grammar C} {P : A → Type 0} {Q : C → Type 0} → Says L P → ((x : A) → P x → Says (M x) Q) → Says (Then L M) Q
says_then {A} {C} {L} {M} {P} {Q} one two = record {
  each = λ items v w h.
      let parts = words_split h.front h.back (subst Words h.parts w) in
      (two h.value (one.each h.front h.value parts.0 h.before)).each h.back v parts.1 h.behind;
}

-- the value of the first part doesn't matter
pub says_behind : {A C : Type 0} {L : Grammar A} {M : A → Grammar C} {Q : C → Type 0} → ((x : A) → Says (M x) Q) → Says (Then L M) Q
says_behind {A} {C} {L} {M} {Q} two = record {
  each = λ items v w h. let parts = words_split h.front h.back (subst Words h.parts w) in (two h.value).each h.back v parts.1 h.behind;
}

pub says_or : {A : Type 0} {L M : Grammar A} {P : A → Type 0} → Says L P → Says M P → Says (L or M) P
says_or {A} {L} {M} {P} one two = record { each = λ items v w h. elim h [ inl a ↦ one.each items v w a | inr b ↦ two.each items v w b ] }

pub says_nothing : {A : Type 0} (P : A → Type 0) (x : A) → P x → Says (nothing x) P
says_nothing P x p = record { each = λ items v w h. subst P (sym h.1) p }

list_each : {A : Type 0} (L : Grammar A) (P : A → Type 0) → Says L P → (items : List Item) (vs : List A) → Words items → list L items vs → Every P vs
list_each L P one items [] w h = tt
list_each L P one items (v ∷ vs) w h =
    let parts = words_split h.0 h.1 (subst Words h.2 w) in (one.each h.0 v parts.0 h.3, list_each L P one h.1 vs parts.1 h.4)

pub says_list : {A : Type 0} {L : Grammar A} {P : A → Type 0} → Says L P → Says (list L) (Every P)
says_list {A} {L} {P} one = record { each = λ items vs w h. list_each L P one items vs w h }

-- ---- names

not_either : (b : Bool) (f g : Form) → (code f ≡ 0 → ⊥) → (code g ≡ 0 → ⊥) → code (if b then f else g) ≡ 0 → ⊥
not_either true f g h k e = h e
not_either false f g h k e = k e

some : (m n : ℕ) → m ≡ n + 1 → m ≡ 0 → ⊥
some m n e f = absurd (omega (arith, e, f))

name_word : (t : Token) → IsNamed t → code (form_of t) ≡ 0 → IsShortWord (identifier_in t)
name_word (token.Identifier name) h e = h
name_word (token.Keyword k) h e = let never : 40 + keyword_number k ≡ 0 = e in absurd (omega (arith, never))
name_word (token.Number n) h e = absurd (some 1 0 (omega arith) e)
name_word (token.Bit b) h e = absurd (some 2 1 (omega arith) e)
name_word (token.Quoted text) h e = absurd (not_either (list_all is_bit text) form.BitText form.OtherText (some 3 2 (omega arith)) (some 4 3 (omega arith)) e)
name_word (token.BitString base digits) h e =
    absurd (not_either (list_all (is_digit_of base) digits) form.BitString form.OtherBitString (some 5 4 (omega arith)) (some 6 5 (omega arith)) e)
name_word (token.Digits digits) h e = absurd (some 7 6 (omega arith) e)
name_word (token.Sign s) h e = let never : 10 + sign_number s ≡ 0 = e in absurd (omega (arith, never))

token_word : (t : PlacedToken) → IsNamed t.token → code_of t ≡ code form.Identifier → IsShortWord (name_of t)
unfolding code_of
token_word t h e = name_word t.token h e

pub says_name : (m : PlacedToken → Mark) → Says (marked form.Identifier m) (λ t. IsShortWord (name_of t))
says_name m = record { each = λ items v w h. let alone = subst Words h.alone w in token_word v alone.0 h.kind }

-- ---- numbers

not_either_one : (b : Bool) (f g : Form) → (code f ≡ 1 → ⊥) → (code g ≡ 1 → ⊥) → code (if b then f else g) ≡ 1 → ⊥
not_either_one true f g h k e = h e
not_either_one false f g h k e = k e

number_small : (t : Token) → IsNamed t → code (form_of t) ≡ 1 → number_in t < 2 ^ 32
number_small (token.Number n) h e = h
number_small (token.Identifier name) h e = let never : 0 ≡ 1 = e in absurd (omega (arith, never))
number_small (token.Keyword k) h e = let never : 40 + keyword_number k ≡ 1 = e in absurd (omega (arith, never))
number_small (token.Bit b) h e = let never : 2 ≡ 1 = e in absurd (omega (arith, never))
number_small (token.Quoted text) h e =
    absurd (not_either_one (list_all is_bit text) form.BitText form.OtherText
    (λ (n : code form.BitText ≡ 1). let never : 3 ≡ 1 = n in omega (arith, never)) (λ (n : code form.OtherText ≡ 1). let never : 4 ≡ 1 = n in omega (arith, never)) e)
number_small (token.BitString base digits) h e =
    absurd (not_either_one (list_all (is_digit_of base) digits) form.BitString form.OtherBitString
    (λ (n : code form.BitString ≡ 1). let never : 5 ≡ 1 = n in omega (arith, never)) (λ (n : code form.OtherBitString ≡ 1). let never : 6 ≡ 1 = n in omega (arith, never)) e)
number_small (token.Digits digits) h e = let never : 7 ≡ 1 = e in absurd (omega (arith, never))
number_small (token.Sign s) h e = let never : 10 + sign_number s ≡ 1 = e in absurd (omega (arith, never))

token_small : (t : PlacedToken) → IsNamed t.token → code_of t ≡ code form.Number → number_of t < 2 ^ 32
unfolding code_of
token_small t h e = number_small t.token h e

pub says_number : (m : PlacedToken → Mark) → Says (marked form.Number m) (λ t. number_of t < 2 ^ 32)
says_number m = record { each = λ items v w h. let alone = subst Words h.alone w in token_small v alone.0 h.kind }
