-- How a line is split into a name, blanks and a word.
use Rattle.std.proofs.Common.{◌≡◌, ◌==◌, ℕ, suc, ◌+◌, Bool, true, false, not, ◌&&◌, List, [], ◌∷◌, ◌++◌, length, take, drop, refl, sym, ap, ◌∙◌, subst, arith, if◌then◌else◌, slice_index}
use Rattle.std.specs.List.{list_all, prefix_len}
use Rattle.std.specs.Char.{is_ascii_alphabetic, is_ascii_uppercase}
use Rattle.std.proofs.lemmas.Bool.{eqb-true}
use Rattle.std.proofs.lemmas.List.{take-append-drop, append-nil}
use Rattle.lexer_base.specs.Bytes.{is_blank, is_in_word}
use Rattle.catal.specs.Line.{is_identifier, is_run, IsSpelled}

-- ---- runs of bytes

pub both : (a b : Bool) → (a && b) ≡ true → (a ≡ true) × (b ≡ true)
both true b h = (refl, h)
both false b h = absurd cc

run_length : (p : ℕ → Bool) (a b : List ℕ) → list_all p a ≡ true → prefix_len p b ≡ 0 → prefix_len p (a ++ b) ≡ length a
run_length p [] b all stop = stop
run_length p (x ∷ a) b all stop = let h = both (p x) (list_all p a) all in let rest = run_length p a b h.1 stop in rw (h.0, rest) (omega arith)

run_all : (q : ℕ → Bool) (run : List ℕ) → is_run q run ≡ true → list_all q run ≡ true
run_all q run h = (both (not (length run == 0)) (list_all q run) h).1

stops : (p q : ℕ → Bool) → ((c : ℕ) → q c ≡ true → p c ≡ false) → (run rest : List ℕ) → is_run q run ≡ true → prefix_len p (run ++ rest) ≡ 0
stops p q apart [] rest h = absurd cc
stops p q apart (c ∷ cs) rest h = let one : q c ≡ true = (both (q c) (list_all q cs) (run_all q (c ∷ cs) h)).0 in rw (apart c one) refl

run_more : (p : ℕ → Bool) (x : ℕ) (xs : List ℕ) (e : Bool) → p x ≡ e → list_all p (take (prefix_len p xs) xs) ≡ true
    → list_all p (take (if e then 1 + prefix_len p xs else 0) (x ∷ xs)) ≡ true
run_more p x xs true is rest =
    let one : 1 + prefix_len p xs ≡ suc (prefix_len p xs) = omega arith in
    let all : list_all p (x ∷ take (prefix_len p xs) xs) ≡ true = rw (is) rest in
    subst (λ (n : ℕ). list_all p (take n (x ∷ xs)) ≡ true) (sym one) all
run_more p x xs false is rest = refl

run_is : (p : ℕ → Bool) (text : List ℕ) → list_all p (take (prefix_len p text) text) ≡ true
run_is p [] = refl
run_is p (x ∷ xs) = run_more p x xs (p x) refl (run_is p xs)

blank_apart : (c : ℕ) → is_blank c ≡ true → is_in_word c ≡ false
blank_apart c h = by (c == 32) refl where
  tab : (e : Bool) → (c == 9) ≡ e → e ≡ true → is_in_word c ≡ false
  tab true is k = subst (λ (x : ℕ). is_in_word x ≡ false) (sym (eqb-true c 9 is)) refl
  tab false is k = absurd cc

  by : (e : Bool) → (c == 32) ≡ e → is_in_word c ≡ false
  by true is = subst (λ (x : ℕ). is_in_word x ≡ false) (sym (eqb-true c 32 is)) refl
  by false is = tab (c == 9) refl (let k : is_blank c ≡ (c == 9) = rw (is) refl in sym k ∙ h)

capital_apart : (c : ℕ) → is_ascii_uppercase c ≡ true → is_blank c ≡ false
capital_apart c h = by (c == 32) (c == 9) refl refl where
  by : (e f : Bool) → (c == 32) ≡ e → (c == 9) ≡ f → is_blank c ≡ false
  by true f is other = let k : is_ascii_uppercase 32 ≡ true = subst (λ (x : ℕ). is_ascii_uppercase x ≡ true) (eqb-true c 32 is) h in absurd cc
  by false true is other = let k : is_ascii_uppercase 9 ≡ true = subst (λ (x : ℕ). is_ascii_uppercase x ≡ true) (eqb-true c 9 other) h in absurd cc
  by false false is other = rw (is, other) refl

-- ---- a line

take_front : (a b : List ℕ) → take (length a) (a ++ b) ≡ a
take_front [] b = refl
take_front (x ∷ a) b = ap (λ l. x ∷ l) (take_front a b)

drop_front : (a b : List ℕ) → drop (length a) (a ++ b) ≡ b
drop_front [] b = refl
drop_front (x ∷ a) b = drop_front a b

-- a text is cut behind the bytes of this kind at its front
abbrev pub IsCut : (ℕ → Bool) → List ℕ → List ℕ → List ℕ → Type 0
IsCut kind text front back = (front ≡ take (prefix_len kind text) text) × (back ≡ drop (prefix_len kind text) text)

pub cut_at : (kind : ℕ → Bool) (text front back : List ℕ) (n : ℕ) → n ≡ prefix_len kind text → front ≡ take n text → back ≡ drop n text → IsCut kind text front back
cut_at kind text front back n is f b = (f ∙ ap (λ k. take k text) is, b ∙ ap (λ k. drop k text) is)

cut_whole : (kind : ℕ → Bool) (text front back : List ℕ) → IsCut kind text front back → text ≡ front ++ back
cut_whole kind text front back c = sym (take-append-drop (prefix_len kind text) text) ∙ ap (λ (l : List ℕ). l ++ drop (prefix_len kind text) text) (sym c.0) ∙ ap (λ (l : List ℕ). front ++ l) (sym c.1)

-- where the front is all of the kind, and what is behind begins with none of it
cut_is : (kind : ℕ → Bool) (text front back a b : List ℕ) → IsCut kind text front back → text ≡ a ++ b → list_all kind a ≡ true → prefix_len kind b ≡ 0
    → (a ≡ front) × (b ≡ back)
cut_is kind text front back a b c is all stop =
    let n : prefix_len kind text ≡ length a = ap (prefix_len kind) is ∙ run_length kind a b all stop in (
      sym (c.0 ∙ ap (λ k. take k text) n ∙ ap (take (length a)) is ∙ take_front a b),
      sym (c.1 ∙ ap (λ k. drop k text) n ∙ ap (drop (length a)) is ∙ drop_front a b),
    )

-- the parts into which a line is cut are spelled in it
pub is_split : (line name rest gap word : List ℕ) → IsCut is_in_word line name rest → IsCut is_blank rest gap word → is_identifier name ≡ true
    → (length gap == 0) ≡ false → is_run is_ascii_uppercase word ≡ true → IsSpelled line name word
is_split line name rest gap word first second named some capital = record {
  blanks = gap;
  line_is = cut_whole is_in_word line name rest first ∙ ap (λ (l : List ℕ). name ++ l) (cut_whole is_blank rest gap word second);
  name_is = named;
  blanks_are = let all : list_all is_blank gap ≡ true = subst (λ (l : List ℕ). list_all is_blank l ≡ true) (sym second.0) (run_is is_blank rest) in rw (some) all;
  word_is = capital;
}

-- the parts that are spelled in a line are those into which it is cut
pub split_is : (line name rest gap word : List ℕ) → IsCut is_in_word line name rest → IsCut is_blank rest gap word → (n w : List ℕ) → IsSpelled line n w
    → (n ≡ name) × (w ≡ word) × (is_run is_blank gap ≡ true)
split_is line name rest gap word first second n w s =
    let named = both (is_ascii_alphabetic (slice_index n 0)) (list_all is_in_word n) s.name_is in
    let a = cut_is is_in_word line name rest n (s.blanks ++ w) first s.line_is named.1 (stops is_in_word is_blank blank_apart s.blanks w s.blanks_are) in
    let stop : prefix_len is_blank w ≡ 0 = ap (prefix_len is_blank) (sym (append-nil w)) ∙ stops is_blank is_ascii_uppercase capital_apart w [] s.word_is in
    let b = cut_is is_blank rest gap word s.blanks w second (sym a.1) (run_all is_blank s.blanks s.blanks_are) stop in
    (a.0, b.1, subst (λ (l : List ℕ). is_run is_blank l ≡ true) b.0 s.blanks_are)

pub some_of : (kind : ℕ → Bool) (text : List ℕ) → is_run kind text ≡ true → (length text == 0) ≡ false
some_of kind text h = by (length text == 0) refl where
  by : (e : Bool) → (length text == 0) ≡ e → (length text == 0) ≡ false
  by false is = is
  by true is = let k : not true ≡ true = sym (ap not is) ∙ (both (not (length text == 0)) (list_all kind text) h).0 in absurd cc

pub identifier_of : (line name rest gap word : List ℕ) → IsCut is_in_word line name rest → IsCut is_blank rest gap word → (n w : List ℕ) → IsSpelled line n w
    → is_identifier name ≡ true
identifier_of line name rest gap word first second n w s = subst (λ (l : List ℕ). is_identifier l ≡ true) (split_is line name rest gap word first second n w s).0 s.name_is

pub blanks_of : (line name rest gap word : List ℕ) → IsCut is_in_word line name rest → IsCut is_blank rest gap word → (n w : List ℕ) → IsSpelled line n w
    → (length gap == 0) ≡ false
blanks_of line name rest gap word first second n w s = some_of is_blank gap (split_is line name rest gap word first second n w s).2

pub word_of : (line name rest gap word : List ℕ) → IsCut is_in_word line name rest → IsCut is_blank rest gap word → (n w : List ℕ) → IsSpelled line n w
    → is_run is_ascii_uppercase word ≡ true
word_of line name rest gap word first second n w s =
    subst (λ (l : List ℕ). is_run is_ascii_uppercase l ≡ true) (split_is line name rest gap word first second n w s).1 s.word_is

-- a line spells one name and one word
pub one_spelling : (line a b v w : List ℕ) → IsSpelled line a v → IsSpelled line b w → (a ≡ b) × (v ≡ w)
one_spelling line a b v w s t =
    let name = take (prefix_len is_in_word line) line in
    let rest = drop (prefix_len is_in_word line) line in
    let gap = take (prefix_len is_blank rest) rest in
    let word = drop (prefix_len is_blank rest) rest in
    let x = split_is line name rest gap word (refl, refl) (refl, refl) a v s in
    let y = split_is line name rest gap word (refl, refl) (refl, refl) b w t in
    (x.0 ∙ sym y.0, x.1 ∙ sym y.1)
