-- The names of registers that hold a code: bits of one text, which is an identifier and that of no port.
use Rattle.std.proofs.Common.{◌≡◌, ℕ, zero, suc, ◌+◌, ◌<◌, ◌≤◌, ◌^◌, Bool, true, false, not, cond, List, [], ◌∷◌, ◌++◌, map, length, codes, Option, None, Some, bytes_eq, slice_index, inl, inr, refl, sym, ap, subst, ◌∙◌, arith}
use Rattle.std.specs.Prelude.{slice_get}
use Rattle.std.specs.List.{All, list_all}
use Rattle.std.specs.Char.{is_ascii_digit}
use Rattle.std.specs.Fmt.{decimal}
use Rattle.std.proofs.lemmas.Bool.{and_parts, cases_lt, eq-eqb}
use Rattle.std.proofs.lemmas.Slice.Eq.{bytes_eq-Decides}
use Rattle.vlsi_base.specs.declared.name.Name.{Name}
use Rattle.vlsi_base.specs.declared.name.Port.{Port}
use Rattle.vlsi_base.specs.Member.{In, here, there}
use Rattle.vhdl_token.specs.declared.keyword.Keyword.{Keyword}
use Rattle.vhdl_token.specs.Keyword.{keyword_text, keyword_among, keyword_of, keywords}
use Rattle.spell_theory.specs.Words.{is_small_letter, is_in_small_word}
use Rattle.spell_theory.proofs.Letters.{both, by_bytes, small_digit, all_implied, decimal_is}
use Rattle.text_names.specs.Words.{is_word, IsIdentifier, GoesOn}
use Rattle.text_names.specs.Free.{is_free, candidate, IsFirstFree}
use Rattle.text_names.proofs.Enough.{last_is_free}
use Rattle.fsm_machine.specs.MachineOf.{up, code_names}
use Rattle.vbe_print.specs.Written.{as_port, as_ports}
use Rattle.vbe_print.specs.Writable.{AreDeclared}

-- ---- the text

same_text : (a b : List ℕ) → bytes_eq a b ≡ true → a ≡ b
same_text a b e = (bytes_eq-Decides a b).0 e

-- a text with a digit as its third letter is none of these words
none_among : (w : List ℕ) (ks : List Keyword) → list_all (λ k. not (is_ascii_digit (slice_index (keyword_text k) 2))) ks ≡ true → is_ascii_digit (slice_index w 2) ≡ true → keyword_among w ks ≡ None
none_among w [] all digit = refl
none_among w (k ∷ ks) all digit = by (none_among w ks parts.1 digit) (bytes_eq (keyword_text k) w) refl where
  parts : (not (is_ascii_digit (slice_index (keyword_text k) 2)) ≡ true) × (list_all (λ k. not (is_ascii_digit (slice_index (keyword_text k) 2))) ks ≡ true)
  parts = and_parts (not (is_ascii_digit (slice_index (keyword_text k) 2))) (list_all (λ k. not (is_ascii_digit (slice_index (keyword_text k) 2))) ks) all

  by : keyword_among w ks ≡ None → (b : Bool) → bytes_eq (keyword_text k) w ≡ b → cond b (Some k) (keyword_among w ks) ≡ None
  by rest false e = rest
  by rest true e =
      let d : is_ascii_digit (slice_index (keyword_text k) 2) ≡ true = ap (λ (t : List ℕ). is_ascii_digit (slice_index t 2)) (same_text (keyword_text k) w e) ∙ digit in
      let no : false ≡ true = sym (ap not d) ∙ parts.0 in absurd cc

first_digit : (ds : List ℕ) → list_all is_ascii_digit ds ≡ true → 0 < length ds → is_ascii_digit (slice_index ds 0) ≡ true
first_digit [] all some = absurd (omega arith)
first_digit (d ∷ ds) all some = (and_parts (is_ascii_digit d) (list_all is_ascii_digit ds) all).0

digit_in_word : (c : ℕ) → is_ascii_digit c ≡ true → is_in_small_word c ≡ true
digit_in_word c h = by_bytes is_ascii_digit is_in_small_word refl c (small_digit c h) h

-- of 115 and 116, `st`, and a number behind it
numbered_word : (k : ℕ) → k < 2 ^ 64 → IsIdentifier (115 ∷ 116 ∷ decimal k)
unfolding keyword_of
numbered_word k few =
    let d = decimal_is k few in (
      both (is_small_letter 115) (list_all is_in_small_word (115 ∷ 116 ∷ decimal k)) refl
          (both (is_in_small_word 115) (list_all is_in_small_word (116 ∷ decimal k)) refl
          (both (is_in_small_word 116) (list_all is_in_small_word (decimal k)) refl (all_implied is_ascii_digit is_in_small_word digit_in_word (decimal k) d.digits))),
      none_among (115 ∷ 116 ∷ decimal k) keywords refl (first_digit (decimal k) d.digits d.some),
    )

plain_word : IsIdentifier (codes "st")
unfolding keyword_of
plain_word = (refl, refl)

candidate_word : (k : ℕ) → k < 2 ^ 64 → IsIdentifier (candidate (codes "st") k)
candidate_word zero few = plain_word
candidate_word (suc k) few = numbered_word k (omega arith)

-- no more texts are tried than are taken
place_few : (taken : List (List ℕ)) (st : List ℕ) (h : IsFirstFree (codes "st") taken st) → length taken < 2 ^ 63 → h.place ≤ length taken
place_few taken st h few = elim (cases_lt (length taken) h.place) [
  | inl less ↦
      let free = last_is_free (codes "st") taken few (λ k l. h.earlier k (omega arith)) in
      let never : false ≡ true = sym (h.earlier (length taken) less) ∙ free in absurd cc
  | inr fits ↦ fits
]

pub register_word : (taken : List (List ℕ)) (st : List ℕ) → IsFirstFree (codes "st") taken st → length taken < 2 ^ 63 → IsIdentifier st
register_word taken st h few =
    let below = place_few taken st h few in
    subst IsIdentifier (sym h.is) (candidate_word h.place (omega arith))

-- ---- the bits

abbrev pub bit_of : List ℕ → ℕ → Name
bit_of st k = record { text = st; bit = Some k }

bit_got : (st : List ℕ) (j n k : ℕ) (p : Port) → slice_get (as_ports (map (bit_of st) (up j n))) k ≡ Some p → p ≡ as_port (bit_of st (j + k))
bit_got st j zero k p e = absurd cc
bit_got st j (suc n) zero p e =
    let same : as_port (bit_of st j) ≡ p = cc in sym same ∙ ap (λ i. as_port (bit_of st i)) (omega arith)
bit_got st j (suc n) (suc k) p e = bit_got st (suc j) n k p e ∙ ap (λ i. as_port (bit_of st i)) (omega arith)

bits_words : (st : List ℕ) (j n : ℕ) → IsIdentifier st → All (λ p. IsIdentifier p.name.text) (as_ports (map (bit_of st) (up j n)))
bits_words st j zero word k d l = absurd (omega arith)
bits_words st j (suc n) word zero d l = word
bits_words st j (suc n) word (suc k) d l = bits_words st (suc j) n word k d (omega arith)

goes_on : (st : List ℕ) (k : ℕ) (p q : Port) → p ≡ as_port (bit_of st (0 + k)) → q ≡ as_port (bit_of st (0 + (k + 1))) → GoesOn p q
goes_on st k p q e f =
    let P : Port → Type 0 = λ x. GoesOn x q in
    let Q : Port → Type 0 = λ y. GoesOn (as_port (bit_of st (0 + k))) y in
    subst P (sym e) (subst Q (sym f) (record { bit = eq-eqb (0 + (k + 1)) (0 + k + 1) (omega arith); dir = refl }))

pub bits_declared : (st : List ℕ) (width : ℕ) → IsIdentifier st → AreDeclared (as_ports (code_names st width))
bits_declared st width word = record {
  words = bits_words st 0 width word;
  runs = λ k p q e f same. goes_on st k p q (bit_got st 0 width k p e) (bit_got st 0 width (k + 1) q f);
}

bit_text : (st : List ℕ) (j n : ℕ) (x : Name) → In x (map (bit_of st) (up j n)) → x.text ≡ st
bit_text st j zero x i = elim i [ ]
bit_text st j (suc n) x here = refl
bit_text st j (suc n) x (there i) = bit_text st (suc j) n x i

pub code_text : (st : List ℕ) (width : ℕ) (x : Name) → In x (code_names st width) → x.text ≡ st
code_text st width x i = bit_text st 0 width x i
