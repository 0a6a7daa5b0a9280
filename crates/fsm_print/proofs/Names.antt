-- The names of a text are words, and they differ.
use Rattle.std.proofs.Common.{◌≡◌, inl, inr, ℕ, zero, suc, ◌<◌, ◌≤◌, ◌^◌, ◌==◌, Bool, true, false, not, cond, ◌&&◌, List, [], ◌∷◌, ◌++◌, drop, length, None, Some, bytes_eq, slice_index, refl, sym, ap, subst, ◌∙◌, arith, codes, length-append, append-nil}
use Rattle.std.specs.List.{list_all}
use Rattle.std.specs.Char.{is_ascii_digit}
use Rattle.std.specs.Fmt.{decimal}
use Rattle.std.proofs.str.Laws.{order}
use Rattle.std.proofs.lemmas.Bool.{and_parts, eq-eqb}
use Rattle.std.proofs.lemmas.Fmt.{length-decimal-le}
use Rattle.vhdl_token.specs.declared.keyword.Keyword.{Keyword}
use Rattle.vhdl_token.specs.Keyword.{keyword_text, keyword_among, keyword_of, keywords}
use Rattle.spell_theory.specs.Words.{is_small_letter, is_in_small_word}
use Rattle.spell_theory.proofs.Letters.{by_bytes, small_digit, all_implied, all_append, decimal_is}
use Rattle.net_core.proofs.Lookups.{same_of}
use Rattle.text_names.specs.Free.{is_free, candidate, IsFirstFree}
use Rattle.text_names.proofs.Enough.{last_is_free}
use Rattle.vhdl_print.specs.EntityAgain.{IsName}

-- ---- no reserved word begins with these two bytes

abbrev begins_other : ℕ → ℕ → Keyword → Bool
begins_other a b k = not (slice_index (keyword_text k) 0 == a && slice_index (keyword_text k) 1 == b)

plain_among : (w : List ℕ) (a b : ℕ) → slice_index w 0 ≡ a → slice_index w 1 ≡ b → (ks : List Keyword) → list_all (begins_other a b) ks ≡ true → keyword_among w ks ≡ None
plain_among w a b first second [] all = refl
plain_among w a b first second (k ∷ ks) all = by (plain_among w a b first second ks parts.1) (bytes_eq (keyword_text k) w) refl where
  parts : (begins_other a b k ≡ true) × (list_all (begins_other a b) ks ≡ true)
  parts = and_parts (begins_other a b k) (list_all (begins_other a b) ks) all

  by : keyword_among w ks ≡ None → (c : Bool) → bytes_eq (keyword_text k) w ≡ c → cond c (Some k) (keyword_among w ks) ≡ None
  by rest false e = rest
  by rest true e =
      let same : keyword_text k ≡ w = same_of (keyword_text k) w e in
      let f : (slice_index (keyword_text k) 0 == a) ≡ true = eq-eqb _ a (ap (λ (t : List ℕ). slice_index t 0) same ∙ first) in
      let g : (slice_index (keyword_text k) 1 == b) ≡ true = eq-eqb _ b (ap (λ (t : List ℕ). slice_index t 1) same ∙ second) in
      let no : begins_other a b k ≡ false = ap (λ (x : Bool). not (x && (slice_index (keyword_text k) 1 == b))) f ∙ ap not g in
      let never : false ≡ true = sym no ∙ parts.0 in
      absurd cc

-- ---- a stem with a number

-- a stem with which no reserved word begins
record IsLead (stem : List ℕ) (a b : ℕ) : Type 0 where
  rest : List ℕ
  is : stem ≡ a ∷ b ∷ rest
  letter : is_small_letter a ≡ true
  letters : list_all is_in_small_word stem ≡ true
  short : length stem ≤ 32
  apart : list_all (begins_other a b) keywords ≡ true

digit_in_word : (c : ℕ) → is_ascii_digit c ≡ true → is_in_small_word c ≡ true
digit_in_word c h = by_bytes is_ascii_digit is_in_small_word refl c (small_digit c h) h

name_with : (stem : List ℕ) (a b : ℕ) → IsLead stem a b → (ds : List ℕ) → list_all is_in_small_word ds ≡ true → length ds ≤ 32 → IsName (stem ++ ds)
unfolding keyword_of
name_with stem a b l ds digits short =
    let first : slice_index (stem ++ ds) 0 ≡ a = ap (λ (t : List ℕ). slice_index (t ++ ds) 0) l.is in
    let second : slice_index (stem ++ ds) 1 ≡ b = ap (λ (t : List ℕ). slice_index (t ++ ds) 1) l.is in
    let few = l.short in (
      record {
        begins = ap is_small_letter first ∙ l.letter;
        letters = all_append is_in_small_word stem ds l.letters digits;
        short = omega (arith, length-append stem ds, few, short);
      },
      plain_among (stem ++ ds) a b first second keywords l.apart,
    )

name_at : (stem : List ℕ) (a b : ℕ) → IsLead stem a b → (place : ℕ) → place ≤ 2 ^ 32 → IsName (candidate stem place)
name_at stem a b l zero small = subst IsName (append-nil stem) (name_with stem a b l [] refl (omega arith))
name_at stem a b l (suc k) small =
    let d = decimal_is k (omega (arith, small)) in
    let n = length-decimal-le 10 k (omega arith) (omega (arith, small)) (omega (arith, small)) in
    name_with stem a b l (decimal k) (all_implied is_ascii_digit is_in_small_word digit_in_word (decimal k) d.digits) (omega (arith, n))

-- the first free text stands no farther than there are taken ones
place_within : (stem : List ℕ) (taken : List (List ℕ)) (text : List ℕ) → length taken < 2 ^ 63 → (f : IsFirstFree stem taken text) → f.place ≤ length taken
place_within stem taken text few f = elim (order (length taken) f.place) [
  | inl past ↦
      let never : is_free taken (candidate stem (length taken)) ≡ false = f.earlier (length taken) past in
      let yes : is_free taken (candidate stem (length taken)) ≡ true = last_is_free stem taken few (λ k l. f.earlier k (omega (arith, l, past))) in
      let no : true ≡ false = sym yes ∙ never in
      absurd cc
  | inr within ↦ within
]

first_name : (stem : List ℕ) (a b : ℕ) → IsLead stem a b → (taken : List (List ℕ)) (text : List ℕ) → length taken ≤ 2 ^ 32 → IsFirstFree stem taken text → IsName text
first_name stem a b l taken text few f =
    let within = place_within stem taken text (omega (arith, few)) f in
    subst IsName (sym f.is) (name_at stem a b l f.place (omega (arith, within, few)))

candidate_first : (stem : List ℕ) (a b : ℕ) → IsLead stem a b → (place : ℕ) → slice_index (candidate stem place) 0 ≡ a
candidate_first stem a b l zero = ap (λ (t : List ℕ). slice_index t 0) l.is
candidate_first stem a b l (suc k) = ap (λ (t : List ℕ). slice_index (t ++ decimal k) 0) l.is

first_byte_of : (stem : List ℕ) (a b : ℕ) → IsLead stem a b → (taken : List (List ℕ)) (text : List ℕ) → IsFirstFree stem taken text → slice_index text 0 ≡ a
first_byte_of stem a b l taken text f = ap (λ (t : List ℕ). slice_index t 0) f.is ∙ candidate_first stem a b l f.place

lead_state : IsLead (codes "state") 115 116
lead_state = record { rest = drop 2 (codes "state"); is = refl; letter = refl; letters = refl; short = omega arith; apart = refl }

lead_current : IsLead (codes "current_state") 99 117
lead_current = record { rest = drop 2 (codes "current_state"); is = refl; letter = refl; letters = refl; short = omega arith; apart = refl }

lead_next : IsLead (codes "next_state") 110 101
lead_next = record { rest = drop 2 (codes "next_state"); is = refl; letter = refl; letters = refl; short = omega arith; apart = refl }

-- a name that a text adds: it is a word, begins with this byte, and none of the taken texts is it
pub record IsAdded (taken : List (List ℕ)) (byte : ℕ) (text : List ℕ) : Type 0 where
  pub name : IsName text
  pub begins : slice_index text 0 ≡ byte
  pub free : is_free taken text ≡ true

added : (stem : List ℕ) (a b : ℕ) → IsLead stem a b → (taken : List (List ℕ)) (text : List ℕ) → length taken ≤ 2 ^ 32 → IsFirstFree stem taken text → IsAdded taken a text
added stem a b l taken text few f = record {
  name = first_name stem a b l taken text few f;
  begins = first_byte_of stem a b l taken text f;
  free = f.free;
}

pub added_type : (taken : List (List ℕ)) (text : List ℕ) → length taken ≤ 2 ^ 32 → IsFirstFree (codes "state") taken text → IsAdded taken 115 text
added_type taken text few f = added (codes "state") 115 116 lead_state taken text few f

pub added_current : (taken : List (List ℕ)) (text : List ℕ) → length taken ≤ 2 ^ 32 → IsFirstFree (codes "current_state") taken text → IsAdded taken 99 text
added_current taken text few f = added (codes "current_state") 99 117 lead_current taken text few f

pub added_next : (taken : List (List ℕ)) (text : List ℕ) → length taken ≤ 2 ^ 32 → IsFirstFree (codes "next_state") taken text → IsAdded taken 110 text
added_next taken text few f = added (codes "next_state") 110 101 lead_next taken text few f
