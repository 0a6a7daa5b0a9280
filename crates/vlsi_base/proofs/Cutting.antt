-- The first line of a text, and the lines behind it.
use Rattle.std.proofs.Common.{◌≡◌, ℕ, suc, ◌+◌, ◌<◌, ◌≤◌, Bool, true, false, not, ◌==◌, List, [], ◌∷◌, length, take, drop, refl, sym, ap, ◌∙◌, arith, if◌then◌else◌}
use Rattle.std.specs.Prelude.{IsTrue, ◌↔◌}
use Rattle.std.proofs.lemmas.Bool.{eqb-false, eqb-true, eq-eqb}
use Rattle.std.specs.List.{prefix_len}
use Rattle.vlsi_base.specs.LineBytes.{is_on_line}
use Rattle.vlsi_base.specs.Lines.{lines_of, put_before}

-- of a text that begins with b and goes on with bs, the first line ends before the first line feed
abbrev IsCut : List ℕ → Type 0
IsCut text = lines_of text ≡ take (prefix_len is_on_line text) text ∷ lines_of (drop (prefix_len is_on_line text + 1) text)

cut_alone : (b : ℕ) (e : Bool)
    → (if e then [] ∷ lines_of [] else put_before b (lines_of [])) ≡ take (if not e then 1 + 0 else 0) (b ∷ []) ∷ lines_of (drop ((if not e then 1 + 0 else 0) + 1) (b ∷ []))
unfolding lines_of
cut_alone b true = refl
cut_alone b false = refl

cut_before : (b : ℕ) (bs : List ℕ) (e : Bool) → IsCut bs
    → (if e then [] ∷ lines_of bs else put_before b (lines_of bs))
    ≡ take (if not e then 1 + prefix_len is_on_line bs else 0) (b ∷ bs) ∷ lines_of (drop ((if not e then 1 + prefix_len is_on_line bs else 0) + 1) (b ∷ bs))
cut_before b bs true cut = refl
cut_before b bs false cut =
    let n = prefix_len is_on_line bs in
    let one : suc n ≡ 1 + n = omega arith in
    let more : suc (n + 1) ≡ 1 + n + 1 = omega arith in
    ap (put_before b) cut ∙ ap (λ k. take k (b ∷ bs) ∷ lines_of (drop (n + 1) bs)) one ∙ ap (λ k. take (1 + n) (b ∷ bs) ∷ lines_of (drop k (b ∷ bs))) more

pub first_line : (text : List ℕ) → 0 < length text → IsCut text
unfolding lines_of
first_line [] some = absurd (omega arith)
first_line (b ∷ []) some = cut_alone b (b == 10)
first_line (b ∷ c ∷ cs) some = cut_before b (c ∷ cs) (b == 10) (first_line (c ∷ cs) (omega arith))

-- only a text of no bytes has no lines
pub no_lines : (text : List ℕ) → lines_of text ≡ [] → text ≡ []
unfolding lines_of
no_lines [] none = refl
no_lines (b ∷ bs) none = absurd (let both : take (prefix_len is_on_line (b ∷ bs)) (b ∷ bs) ∷ lines_of (drop (prefix_len is_on_line (b ∷ bs) + 1) (b ∷ bs)) ≡ [] = sym (first_line (b ∷ bs) (omega arith)) ∙ none in cc)

pub cut_at : (text rest : List ℕ) (n : ℕ) (seen : List (List ℕ)) → lines_of text ≡ seen → 0 < length text → n ≡ prefix_len is_on_line text → rest ≡ drop (n + 1) text
    → seen ≡ take n text ∷ lines_of rest
cut_at text rest n seen is some count left = sym is ∙ first_line text some ∙ rw (left, count) refl

pub lines_of_none : (text : List ℕ) → length text ≡ 0 → lines_of text ≡ []
unfolding lines_of
lines_of_none [] none = refl
lines_of_none (b ∷ bs) none = absurd (omega arith)

-- whether there are bytes
pub some_bytes : (text : List ℕ) (e : Bool) → e ≡ (length text == 0) → e ≡ false → 0 < length text
some_bytes text e is has = let not_zero = eqb-false (length text) 0 (sym is ∙ has) in omega (arith, not_zero)

pub lines_end : (text : List ℕ) (e : Bool) → e ≡ (length text == 0) → e ≡ true → lines_of text ≡ []
lines_end text e is ends = lines_of_none text (eqb-true (length text) 0 (sym is ∙ ends))

pub ends_exactly : (text : List ℕ) (e : Bool) (seen : List (List ℕ)) → lines_of text ≡ seen → e ≡ (length text == 0) → IsTrue e ↔ (seen ≡ [])
ends_exactly text e seen view is = (
  λ ends. sym view ∙ lines_end text e is ends,
  λ none. is ∙ eq-eqb (length text) 0 (ap length (no_lines text (view ∙ none))),
)

-- ---- lengths

put_length : (b : ℕ) (lines : List (List ℕ)) (n : ℕ) → length lines ≤ n → length (put_before b lines) ≤ suc n
put_length b [] n few = omega arith
put_length b (line ∷ lines) n few = omega (arith, few)

count_by_end : (b : ℕ) (bs : List ℕ) (e : Bool) → length (lines_of bs) ≤ length bs → length (if e then [] ∷ lines_of bs else put_before b (lines_of bs)) ≤ suc (length bs)
count_by_end b bs true few = omega (arith, few)
count_by_end b bs false few = put_length b (lines_of bs) (length bs) few

-- there are no more lines than bytes
pub count_lines : (text : List ℕ) → length (lines_of text) ≤ length text
unfolding lines_of
count_lines [] = omega arith
count_lines (b ∷ bs) = count_by_end b bs (b == 10) (count_lines bs)
