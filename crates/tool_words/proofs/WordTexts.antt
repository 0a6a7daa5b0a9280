-- Words that are text, one by one.
use Rattle.std.proofs.Common.{◌≡◌, ℕ, suc, ◌<◌, ◌+◌, add-one, get_or, Bool, true, false, ◌&&◌, List, [], ◌∷◌, ◌++◌, length, map, drop, refl, sym, ap, ◌∙◌, append_assoc, drop-cons}
use Rattle.std.specs.Str.{IsUtf8, is_utf8}
use Rattle.std.specs.List.{list_all}
use Rattle.std.specs.Borrow.{Bor}
use Rattle.std.proofs.lemmas.List.{map-append}
use Rattle.std.proofs.lemmas.Str.{IsUtf8-from_is_utf8}

pub not_text : (word : List ℕ) → (IsUtf8 word → ⊥) → is_utf8 word ≡ false
not_text word wrong = by_test (is_utf8 word) refl
  where
    by_test : (b : Bool) → is_utf8 word ≡ b → is_utf8 word ≡ false
    by_test true e = absurd (wrong (IsUtf8-from_is_utf8 word e))
    by_test false e = e

-- the words from one on are it and those behind it
pub from_word : (words : List (List ℕ)) (i : ℕ) (word other : List ℕ) → i < length words → word ≡ get_or words i other → drop i words ≡ word ∷ drop (i + 1) words
from_word words i word other within is =
    drop-cons words i other within ∙ ap (λ (w : List ℕ). w ∷ drop (suc i) words) (sym is) ∙ ap (λ (n : ℕ). word ∷ drop n words) (sym (add-one i))

-- so they are all text where it is and those behind it are
pub text_here : (words : List (List ℕ)) (i : ℕ) (word : List ℕ) → drop i words ≡ word ∷ drop (i + 1) words → is_utf8 word ≡ true → list_all is_utf8 (drop (i + 1) words) ≡ list_all is_utf8 (drop i words)
text_here words i word at is =
    sym (ap (list_all is_utf8) at ∙ ap (λ (b : Bool). b && list_all is_utf8 (drop (i + 1) words)) is)

pub none_here : (words : List (List ℕ)) (i : ℕ) (word : List ℕ) → drop i words ≡ word ∷ drop (i + 1) words → is_utf8 word ≡ false → list_all is_utf8 (drop i words) ≡ false
none_here words i word at wrong = ap (list_all is_utf8) at ∙ ap (λ (b : Bool). b && list_all is_utf8 (drop (i + 1) words)) wrong

abbrev pub texts_of : List (Bor (List ℕ)) → List (List ℕ)
texts_of texts = map (λ (text : Bor (List ℕ)). text.now) texts

-- one text more, and one word less behind them
pub one_more : (texts now : List (Bor (List ℕ))) (text : Bor (List ℕ)) (words : List (List ℕ)) (i : ℕ) (word : List ℕ) → now ≡ texts ++ text ∷ [] → text.now ≡ word
    → drop i words ≡ word ∷ drop (i + 1) words → texts_of texts ++ drop i words ≡ words → texts_of now ++ drop (i + 1) words ≡ words
one_more texts now text words i word pushed is at before =
    ap (λ (xs : List (Bor (List ℕ))). texts_of xs ++ drop (i + 1) words) pushed
    ∙ ap (λ (xs : List (List ℕ)). xs ++ drop (i + 1) words) (map-append (λ (x : Bor (List ℕ)). x.now) texts (text ∷ []))
    ∙ append_assoc (texts_of texts) (text.now ∷ []) (drop (i + 1) words)
    ∙ ap (λ (w : List ℕ). texts_of texts ++ (w ∷ drop (i + 1) words)) is
    ∙ ap (λ (ws : List (List ℕ)). texts_of texts ++ ws) (sym at)
    ∙ before
