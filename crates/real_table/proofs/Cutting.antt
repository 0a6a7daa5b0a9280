-- The first field of a text, and the fields behind it.
use Rattle.std.proofs.Common.{◌≡◌, ℕ, suc, zero, ◌+◌, ◌-◌, ◌<◌, Bool, true, false, not, ◌==◌, List, [], ◌∷◌, length, take, drop, refl, sym, ap, ◌∙◌, arith, if◌then◌else◌}
use Rattle.std.specs.List.{prefix_len, count_by}
use Rattle.std.proofs.lemmas.List.Recursion.{is_count_by}
use Rattle.vlsi_base.specs.Lines.{put_before}
use Rattle.real_table.specs.Fields.{fields_of, at, is_in_field}

abbrev IsCut : List ℕ → Type 0
IsCut text = (i : ℕ) → at (fields_of text) (suc i) ≡ at (fields_of (drop (prefix_len is_in_field text + 1) text)) i

put_at : (b : ℕ) (fields : List (List ℕ)) (i : ℕ) → at (put_before b fields) (suc i) ≡ at fields (suc i)
put_at b [] i = refl
put_at b (f ∷ fs) i = refl

-- behind the first blank stand the fields from the second on
cut_before : (b : ℕ) (bs : List ℕ) (e : Bool) → IsCut bs → (i : ℕ)
    → at (if e then [] ∷ fields_of bs else put_before b (fields_of bs)) (suc i) ≡ at (fields_of (drop ((if not e then 1 + prefix_len is_in_field bs else 0) + 1) (b ∷ bs))) i
cut_before b bs true cut i = refl
cut_before b bs false cut i =
    let more : suc (prefix_len is_in_field bs + 1) ≡ 1 + prefix_len is_in_field bs + 1 = omega arith in
    put_at b (fields_of bs) i ∙ cut i ∙ ap (λ k. at (fields_of (drop k (b ∷ bs))) i) more

none_at : (i : ℕ) → at (fields_of []) i ≡ []
unfolding fields_of
none_at zero = refl
none_at (suc i) = refl

pub next_fields : (text : List ℕ) → IsCut text
unfolding fields_of
next_fields [] i = sym (none_at i)
next_fields (b ∷ bs) i = cut_before b bs (b == 32) (next_fields bs) i

first_before : (b : ℕ) (bs : List ℕ) (e : Bool) → at (fields_of bs) 0 ≡ take (prefix_len is_in_field bs) bs → (0 < length (fields_of bs))
    → at (if e then [] ∷ fields_of bs else put_before b (fields_of bs)) 0 ≡ take (if not e then 1 + prefix_len is_in_field bs else 0) (b ∷ bs)
first_before b bs true first some = refl
first_before b bs false first some =
    let one : suc (prefix_len is_in_field bs) ≡ 1 + prefix_len is_in_field bs = omega arith in
    put_first (fields_of bs) some ∙ ap (λ t. b ∷ t) first ∙ ap (λ k. take k (b ∷ bs)) one where
      put_first : (fields : List (List ℕ)) → 0 < length fields → at (put_before b fields) 0 ≡ b ∷ at fields 0
      put_first [] no_bytes = absurd (omega arith)
      put_first (f ∷ fs) some_bytes = refl

some_put : (b : ℕ) (fields : List (List ℕ)) → 0 < length (put_before b fields)
some_put b [] = omega arith
some_put b (f ∷ fs) = omega arith

pub some_fields : (text : List ℕ) → 0 < length (fields_of text)
unfolding fields_of
some_fields [] = omega arith
some_fields (b ∷ bs) = by_blank (b == 32) where
  by_blank : (e : Bool) → 0 < length (if e then [] ∷ fields_of bs else put_before b (fields_of bs))
  by_blank true = omega arith
  by_blank false = some_put b (fields_of bs)

-- the first field ends before the first blank
pub first_field : (text : List ℕ) → at (fields_of text) 0 ≡ take (prefix_len is_in_field text) text
unfolding fields_of
first_field [] = refl
first_field (b ∷ bs) = first_before b bs (b == 32) (first_field bs) (some_fields bs)

put_length : (b : ℕ) (fields : List (List ℕ)) → 0 < length fields → length (put_before b fields) ≡ length fields
put_length b [] none = absurd (omega arith)
put_length b (f ∷ fs) some = refl

blanks_step : (b : ℕ) (bs : List ℕ) (e : Bool)
    → length (if e then [] ∷ fields_of bs else put_before b (fields_of bs)) - 1 ≡ (if e then 1 + (length (fields_of bs) - 1) else length (fields_of bs) - 1)
blanks_step b bs true = omega (arith, some_fields bs)
blanks_step b bs false = ap (λ n. n - 1) (put_length b (fields_of bs) (some_fields bs))

none_more : length (fields_of []) - 1 ≡ 0
unfolding fields_of
none_more = refl

blanks_cons : (b : ℕ) (bs : List ℕ) → length (fields_of (b ∷ bs)) - 1 ≡ (if b == 32 then 1 + (length (fields_of bs) - 1) else length (fields_of bs) - 1)
unfolding fields_of
blanks_cons b bs = blanks_step b bs (b == 32)

-- there is one field more than blanks
pub count_fields : (text : List ℕ) → 1 + count_by (λ b. b == 32) text ≡ length (fields_of text)
count_fields text =
    let same = is_count_by (λ t. length (fields_of t) - 1) (λ b. b == 32) none_more blanks_cons text in omega (arith, same, some_fields text)

-- ---- going over fields

pub at_start : (text : List ℕ) (fields : List (List ℕ)) (n : ℕ) → fields_of text ≡ fields → at (fields_of text) (n - 0) ≡ at fields n
at_start text fields n same = let e : n - 0 ≡ n = omega arith in ap (at (fields_of text)) e ∙ ap (λ (fs : List (List ℕ)). at fs n) same

pub at_more : (text rest value : List ℕ) (n k : ℕ) → k < n → rest ≡ drop (prefix_len is_in_field text + 1) text → at (fields_of text) (n - k) ≡ value
    → at (fields_of rest) (n - (k + 1)) ≡ value
at_more text rest value n k less is so =
    let e : suc (n - (k + 1)) ≡ n - k = omega arith in
    ap (λ (t : List ℕ). at (fields_of t) (n - (k + 1))) is ∙ sym (next_fields text (n - (k + 1))) ∙ ap (at (fields_of text)) e ∙ so

pub at_end : (text value : List ℕ) (n k length : ℕ) → n - k ≡ 0 → length ≡ prefix_len is_in_field text → at (fields_of text) (n - k) ≡ value → take length text ≡ value
at_end text value n k length none is so = ap (λ m. take m text) is ∙ sym (first_field text) ∙ sym (ap (at (fields_of text)) none) ∙ so
