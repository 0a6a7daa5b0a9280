-- What is written is read again: identifiers, names and contacts.
use Rattle.std.proofs.Common.{◌≡◌, ℕ, ◌-◌, ◌^◌, ◌<◌, ◌≤◌, Bool, true, false, ◌==◌, ◌&&◌, ◌||◌, List, [], ◌∷◌, ◌++◌, length, take, drop, refl, sym, ap, ◌∙◌, arith, length-append, bytes_eq, codes, Option, None, Some, if◌then◌else◌}
use Rattle.std.specs.Prelude.{slice_index, IfSome, nat_lt, nat_eq}
use Rattle.std.specs.List.{list_all, prefix_len, ends_with}
use Rattle.std.specs.Option.{option_map}
use Rattle.std.specs.Char.{is_ascii_digit, is_ascii_alphabetic}
use Rattle.std.specs.Fmt.{decimal}
use Rattle.std.proofs.Math.Seq.{take-append_seam, drop-append_seam}
use Rattle.std.proofs.lemmas.Bool.Decides.{nat_tests}
use Rattle.std.proofs.lemmas.List.{append-nil}
use Rattle.std.proofs.lemmas.List.Sums.{list_all-from_AllPass}
use Rattle.vlsi_base.specs.Number.{value_of}
use Rattle.vlsi_base.specs.declared.name.Name.{Name}
use Rattle.ap_io.specs.declared.limits.TheConstants.{MOST_NAME_BYTES}
use Rattle.ap_io.specs.Spelling.{name_text, bit_text}
use Rattle.ap_io.specs.Fields.{is_digits, is_in_word, is_identifier, lower, word_of, behind_word, bit_digits, is_bit_of, is_label, label_of}
use Rattle.ap_io.specs.LineFaults.{long_name}
use Rattle.ap_io.specs.ApText.{is_word_byte, is_field_byte, IsWord, IsLabel, IsShort, IsShortLabel}
use Rattle.ap_io.proofs.Bytes.{both, letter_in_word, letter_begins, letter_no_star, word_byte_in_word, word_byte_in_field, digit_in_field, all_implied, all_append, all_same, prefix_all}
use Rattle.ap_io.proofs.NumbersAgain.{decimal_is, digits_some}

-- ---- identifiers

-- a word is an identifier, and the same in lower case
pub record IsWordAgain (w : List ℕ) : Type 0 where
  pub begins : is_ascii_alphabetic (slice_index w 0) ≡ true
  pub no_star : (slice_index w 0 == 42) ≡ false
  pub some : 0 < length w
  pub in_word : list_all is_in_word w ≡ true
  pub same : lower w ≡ w
  pub bytes : list_all is_field_byte w ≡ true

pub word_again : (w : List ℕ) → IsWord w → IsWordAgain w
word_again [] word = absurd word
word_again (c ∷ cs) word =
    let all : list_all is_word_byte (c ∷ cs) ≡ true = both (is_word_byte c) (list_all is_word_byte cs) (letter_in_word c word.0) (list_all-from_AllPass is_word_byte cs word.1) in
    record {
      begins = letter_begins c word.0;
      no_star = letter_no_star c word.0;
      some = omega arith;
      in_word = all_implied is_word_byte is_in_word word_byte_in_word (c ∷ cs) all;
      same = all_same (c ∷ cs) all;
      bytes = all_implied is_word_byte is_field_byte word_byte_in_field (c ∷ cs) all;
    }

pub identifier_again : (w : List ℕ) → IsWord w → is_identifier w ≡ true
identifier_again w word = let a = word_again w word in both (is_ascii_alphabetic (slice_index w 0)) (list_all is_in_word w) a.begins a.in_word

short_by : (n : ℕ) → n ≤ MOST_NAME_BYTES → (if nat_lt MOST_NAME_BYTES n then Some n else None) ≡ None
short_by n h = ap (λ (b : Bool). if b then Some n else None) (within n h) where
  within : (n : ℕ) → n ≤ MOST_NAME_BYTES → nat_lt MOST_NAME_BYTES n ≡ false
  within n h = grind (arith, nat_tests)

long_by : (text : List ℕ) → prefix_len is_in_word text ≤ MOST_NAME_BYTES → long_name text ≡ None
unfolding long_name
long_by text h = short_by (prefix_len is_in_word text) h

-- a word, and what isn't of it behind
word_before : (w rest : List ℕ) → IsWord w → is_in_word (slice_index rest 0) ≡ false → prefix_len is_in_word (w ++ rest) ≡ length w
word_before w rest word stops = prefix_all is_in_word w rest (word_again w word).in_word stops

pub word_short : (w : List ℕ) → IsWord w → IsShort w → long_name w ≡ None
word_short w word short =
    let n = word_before w [] word refl in
    ap long_name (sym (append-nil w)) ∙ long_by (w ++ []) (omega (arith, n, short))

-- ---- the number of a bit

digits_between : (xs rest : List ℕ) → rest ≡ 40 ∷ xs ++ 41 ∷ [] → bit_digits rest ≡ Some xs
unfolding bit_digits
digits_between xs rest is =
    let n : length (40 ∷ xs ++ 41 ∷ []) - 1 ≡ length (40 ∷ xs) = omega (arith, length-append xs (41 ∷ [])) in
    let some : nat_lt 1 (length (40 ∷ xs ++ 41 ∷ [])) ≡ true = over (length (40 ∷ xs ++ 41 ∷ [])) (omega (arith, length-append xs (41 ∷ []))) in
    let last : drop (length (40 ∷ xs ++ 41 ∷ []) - 1) (40 ∷ xs ++ 41 ∷ []) ≡ 41 ∷ [] = ap (λ k. drop k (40 ∷ xs ++ 41 ∷ [])) n ∙ drop-append_seam (40 ∷ xs) (41 ∷ []) in
    let ends : ends_with nat_eq (40 ∷ xs ++ 41 ∷ []) (codes ")") ≡ true = ap (λ (t : List ℕ). bytes_eq (codes ")") t) last in
    let inner : drop 1 (take (length (40 ∷ xs ++ 41 ∷ []) - 1) (40 ∷ xs ++ 41 ∷ [])) ≡ xs = ap (λ k. drop 1 (take k (40 ∷ xs ++ 41 ∷ []))) n ∙ ap (drop 1) (take-append_seam (40 ∷ xs) (41 ∷ [])) in
    rw (is) (ap (λ (b : Bool). if b then Some (drop 1 (take (length (40 ∷ xs ++ 41 ∷ []) - 1) (40 ∷ xs ++ 41 ∷ []))) else None) (both (nat_lt 1 (length (40 ∷ xs ++ 41 ∷ []))) (ends_with nat_eq (40 ∷ xs ++ 41 ∷ []) (codes ")")) some ends)
    ∙ ap Some inner) where
      over : (n : ℕ) → 1 < n → nat_lt 1 n ≡ true
      over n h = grind (arith, nat_tests)

no_bit : bit_digits [] ≡ None
unfolding bit_digits
no_bit = refl

record IsBitAgain (bit : Option ℕ) : Type 0 where
  pub stops : is_in_word (slice_index (bit_text bit) 0) ≡ false
  pub right : is_bit_of (bit_digits (bit_text bit)) (bit_text bit) ≡ true
  pub value : option_map value_of (bit_digits (bit_text bit)) ≡ bit
  pub bytes : list_all is_field_byte (bit_text bit) ≡ true

bit_again : (bit : Option ℕ) → IfSome bit (λ k. k < 2 ^ 32) → IsBitAgain bit
bit_again None small = record {
  stops = refl;
  right = ap (λ (o : Option (List ℕ)). is_bit_of o []) no_bit;
  value = ap (option_map value_of) no_bit;
  bytes = refl;
}
bit_again (Some k) small =
    let d = decimal_is k (omega (arith, small)) in
    let text = bit_text (Some k) in
    let found : bit_digits text ≡ Some (decimal k) = digits_between (decimal k) text refl in
    let under : nat_lt (value_of (decimal k)) (2 ^ 32) ≡ true = ap (λ n. nat_lt n (2 ^ 32)) d.value ∙ below k small in
    record {
      stops = refl;
      right = ap (λ (o : Option (List ℕ)). is_bit_of o text) found ∙ both (is_digits (decimal k)) (nat_lt (value_of (decimal k)) (2 ^ 32)) (digits_some (decimal k) d.some d.digits) under;
      value = ap (option_map value_of) found ∙ ap Some d.value;
      bytes = both (is_field_byte 40) (list_all is_field_byte (decimal k ++ 41 ∷ [])) refl
          (all_append is_field_byte (decimal k) (41 ∷ []) (all_implied is_ascii_digit is_field_byte digit_in_field (decimal k) d.digits) refl);
    } where
      below : (n : ℕ) → n < 2 ^ 32 → nat_lt n (2 ^ 32) ≡ true
      below n h = grind (arith, nat_tests)

-- ---- names

pub record IsLabelAgain (n : Option Name) (text : List ℕ) : Type 0 where
  pub right : is_label text ≡ true
  pub name : n ≡ label_of text
  pub short : long_name text ≡ None
  pub bytes : list_all is_field_byte text ≡ true

star_again : IsLabelAgain None (codes "*")
unfolding is_label label_of long_name
star_again = record { right = refl; name = refl; short = refl; bytes = refl }

no_star : (w rest : List ℕ) → IsWord w → bytes_eq (w ++ rest) (codes "*") ≡ false
no_star [] rest word = absurd word
no_star (c ∷ cs) rest word = ap (λ (b : Bool). b && bytes_eq (cs ++ rest) []) (letter_no_star c word.0)

begins_so : (w rest : List ℕ) → IsWord w → is_ascii_alphabetic (slice_index (w ++ rest) 0) ≡ true
begins_so [] rest word = absurd word
begins_so (c ∷ cs) rest word = letter_begins c word.0

some_again : (name : Name) → IsLabel (Some name) → IsShortLabel (Some name) → IsLabelAgain (Some name) (name.text ++ bit_text name.bit)
unfolding is_label label_of
some_again name label short =
    let rest = bit_text name.bit in
    let text = name.text ++ rest in
    let w = word_again name.text label.0 in
    let b = bit_again name.bit label.1 in
    let star = no_star name.text rest label.0 in
    let n = word_before name.text rest label.0 b.stops in
    let front : word_of text ≡ name.text = ap (λ k. take k text) n ∙ take-append_seam name.text rest in
    let behind : behind_word text ≡ rest = ap (λ k. drop k text) n ∙ drop-append_seam name.text rest in
    let named : List ℕ → Option ℕ → Option Name = λ t k. Some (record { text = t; bit = k }) in
    record {
      right = ap (λ (s : Bool). s || (is_ascii_alphabetic (slice_index text 0) && is_bit_of (bit_digits (behind_word text)) (behind_word text))) star
          ∙ both (is_ascii_alphabetic (slice_index text 0)) (is_bit_of (bit_digits (behind_word text)) (behind_word text)) (begins_so name.text rest label.0)
          (ap (λ (t : List ℕ). is_bit_of (bit_digits t) t) behind ∙ b.right);
      name = sym (ap (λ (s : Bool). if s then None else named (lower (word_of text)) (option_map value_of (bit_digits (behind_word text)))) star
          ∙ ap (λ (t : List ℕ). named (lower t) (option_map value_of (bit_digits (behind_word text)))) front
          ∙ ap (λ (t : List ℕ). named t (option_map value_of (bit_digits (behind_word text)))) w.same
          ∙ ap (λ (t : List ℕ). named name.text (option_map value_of (bit_digits t))) behind ∙ ap (named name.text) b.value);
      short = long_by text (omega (arith, n, short));
      bytes = all_append is_field_byte name.text rest w.bytes b.bytes;
    }

pub label_again : (n : Option Name) → IsLabel n → IsShortLabel n → IsLabelAgain n (name_text n)
label_again None label short = star_again
label_again (Some name) label short = some_again name label short
