-- The first placement, step by step.
use Rattle.std.proofs.Common.{◌≡◌, ◌⊎◌, inl, inr, ℕ, zero, suc, ◌+◌, ◌-◌, ◌*◌, ◌/◌, ◌≤◌, ◌<◌, ◌==◌, Bool, true, false, cond, All, List, [], ◌∷◌, ◌++◌, map, length, get_or, set, drop, slice_index, replicate, nat_le, sum, refl, sym, ap, ap₂, ◌∙◌, subst, add-one, leb-true, leb-false, eq-eqb, ne_eqb, lt_of_mul-lt-mul_right, arith, flat_map, append-nil, append_assoc}
use Rattle.std.proofs.lemmas.Bool.{cond-true, cond-false, cases_eq}
use Rattle.std.proofs.lemmas.List.{map-set, length-set, length-replicate, get_or-set_same, get_or-set_other, drop_all}
use Rattle.std.proofs.lemmas.List.Elements.{All-head, All-tail, All-nil, All-cons}
use Rattle.std.proofs.lemmas.List.Sums.{sum_by-cons, sum_by_push, sum_by-set, sum_by-drop_more}
use Rattle.std.specs.Global.{Vec}
use Rattle.std.proofs.Math.Nat.{lt-div-mul-add}
use Rattle.row_meaning.specs.Rows.{row_at, row_width, times_in, times}
use Rattle.row_meaning.specs.First.{put_in, filled, share_of, numbers, widest}
use Rattle.row_meaning.proofs.Counting.{times_yes, times_no, times_rows}
use Rattle.row_fill.specs.Law.{IsGoodStart}

pub filled_more : (w : List ℕ) (share r wide c : ℕ) (cells : List ℕ) (rows : List (List ℕ)) (r' wide' : ℕ) → r' ≡ cond (nat_le share wide) (r + 1) r
    → wide' ≡ cond (nat_le share wide) (slice_index w c) (wide + slice_index w c)
    → filled w share r' wide' cells (put_in rows r' c) ≡ filled w share r wide (c ∷ cells) rows
unfolding filled
filled_more w share r wide c cells rows r' wide' re we =
    ap₂ (λ (q x : ℕ). filled w share q x cells (put_in rows q c)) re we ∙ by (nat_le share wide) where
      by : (t : Bool) → filled w share (cond t (r + 1) r) (cond t (slice_index w c) (wide + slice_index w c)) cells (put_in rows (cond t (r + 1) r) c)
          ≡ cond t (filled w share (r + 1) (slice_index w c) cells (put_in rows (r + 1) c)) (filled w share r (wide + slice_index w c) cells (put_in rows r c))
      by true = refl
      by false = refl

pub numbers_more : (n k : ℕ) → k < n → numbers k (n - k) ≡ k ∷ numbers (k + 1) (n - (k + 1))
numbers_more n k l =
    ap (λ (j : ℕ). numbers k j) (let e : n - k ≡ suc (n - (k + 1)) = omega arith in e)
    ∙ ap (λ (j : ℕ). k ∷ numbers j (n - (k + 1))) (sym (add-one k))

-- nothing is left
pub filled_none : (w : List ℕ) (share r wide k n : ℕ) (rows : List (List ℕ)) → n ≤ k → filled w share r wide (numbers k (n - k)) rows ≡ rows
unfolding filled
filled_none w share r wide k n rows l =
    let e : n - k ≡ 0 = omega arith in
    ap (λ (j : ℕ). filled w share r wide (numbers k j) rows) e

-- ---- room

-- the row that takes the next cell is there, and there is room for the cells behind
pub record HasRoom (share many r wide left : ℕ) : Type 0 where
  pub row : r < many
  pub room : r * share + wide + left ≤ many * share

pub room_more : (share many r wide width left r' wide' : ℕ) → 0 < width → r' ≡ cond (nat_le share wide) (r + 1) r
    → wide' ≡ cond (nat_le share wide) width (wide + width) → HasRoom share many r wide (width + left) → HasRoom share many r' wide' left
room_more share many r wide width left r' wide' some re we h = by (nat_le share wide) refl where
  by : (t : Bool) → nat_le share wide ≡ t → HasRoom share many r' wide' left
  by true e =
      let l : share ≤ wide = leb-true share wide e in
      let a : r' ≡ r + 1 = re ∙ cond-true (nat_le share wide) (r + 1) r e in
      let b : wide' ≡ width = we ∙ cond-true (nat_le share wide) width (wide + width) e in
      let room = h.room in
      let times : (r + 1) * share ≡ r * share + share = grind arith in
      let less : (r + 1) * share < many * share = omega arith in
      let row : r + 1 < many = lt_of_mul-lt-mul_right share less in
      let same : r' * share ≡ (r + 1) * share = ap (λ (q : ℕ). q * share) a in
      record { row = omega arith; room = omega arith }
  by false e =
      let a : r' ≡ r = re ∙ cond-false (nat_le share wide) (r + 1) r e in
      let b : wide' ≡ wide + width = we ∙ cond-false (nat_le share wide) width (wide + width) e in
      let room = h.room in
      let row = h.row in
      let same : r' * share ≡ r * share = ap (λ (q : ℕ). q * share) a in
      record { row = omega arith; room = omega arith }

-- ---- the view of rows in memory

abbrev pub items : Vec ℕ → List ℕ
items v = v.items

pub at_map : (rows : List (Vec ℕ)) (i : ℕ) (d : Vec ℕ) → i < length rows → row_at (map items rows) i ≡ (get_or rows i d).items
at_map [] i d l = absurd (omega arith)
at_map (row ∷ rows) zero d l = refl
at_map (row ∷ rows) (suc i) d l = at_map rows i d (omega arith)

pub put_view : (rows : List (Vec ℕ)) (r c : ℕ) (old new : Vec ℕ) → r < length rows → old ≡ get_or rows r old → new.items ≡ (get_or rows r old).items ++ c ∷ []
    → map items (set rows r new) ≡ put_in (map items rows) r c
put_view rows r c old new l is e =
    map-set items rows r new ∙ ap (λ (row : List ℕ). set (map items rows) r row) (e ∙ ap (λ (row : List ℕ). row ++ c ∷ []) (sym (at_map rows r old l)))

-- ---- the share

pub share_enough : (total many : ℕ) → 0 < many → total ≤ many * ((total + (many - 1)) / many)
share_enough total many l =
    let share = (total + (many - 1)) / many in
    let a : total + (many - 1) < share * many + many = lt-div-mul-add l in
    let e : share * many ≡ many * share = grind arith in
    omega arith

-- ---- each cell once

times_put : (rows : List (List ℕ)) (r c d : ℕ) → r < length rows → times (put_in rows r c) d ≡ times rows d + times_in (c ∷ []) d
times_put rows r c d l =
    let f : List ℕ → ℕ = λ row. times_in row d in
    let a = sum_by-set f rows r (row_at rows r ++ c ∷ []) [] l in
    let b = sum_by_push (λ (x : ℕ). cond (x == d) 1 0) (row_at rows r) c in
    let e = sum_by-cons (λ (x : ℕ). cond (x == d) 1 0) c [] in
    omega arith

pub record IsFilled (w cells : List ℕ) (rows new : List (List ℕ)) : Type 0 where
  pub many : length new ≡ length rows
  pub times : (d : ℕ) → times new d ≡ times rows d + times_in cells d

abbrev HasWidth : List ℕ → ℕ → Type 0
HasWidth w c = 0 < slice_index w c

next_row : ℕ → ℕ → ℕ → ℕ
next_row share r wide = cond (nat_le share wide) (r + 1) r

next_wide : ℕ → ℕ → ℕ → ℕ
next_wide share wide width = cond (nat_le share wide) width (wide + width)

room_next : (w : List ℕ) (share many r wide c : ℕ) (cells : List ℕ) → HasWidth w c → HasRoom share many r wide (row_width w (c ∷ cells))
    → HasRoom share many (next_row share r wide) (next_wide share wide (slice_index w c)) (row_width w cells)
unfolding next_row next_wide
room_next w share many r wide c cells some h =
    let P : ℕ → Type 0 = λ left. HasRoom share many r wide left in
    room_more share many r wide (slice_index w c) (row_width w cells) (next_row share r wide) (next_wide share wide (slice_index w c)) some refl refl
    (subst P (sum_by-cons (slice_index w) c cells) h)

filled_next : (w : List ℕ) (share r wide c : ℕ) (cells : List ℕ) (rows : List (List ℕ))
    → filled w share r wide (c ∷ cells) rows ≡ filled w share (next_row share r wide) (next_wide share wide (slice_index w c)) cells (put_in rows (next_row share r wide) c)
unfolding next_row next_wide
filled_next w share r wide c cells rows = sym (filled_more w share r wide c cells rows (next_row share r wide) (next_wide share wide (slice_index w c)) refl refl)

pub filled_is : (w : List ℕ) (share r wide : ℕ) (cells : List ℕ) (rows : List (List ℕ)) → HasRoom share (length rows) r wide (row_width w cells) → All (HasWidth w) cells
    → IsFilled w cells rows (filled w share r wide cells rows)
unfolding filled
filled_is w share r wide [] rows h all = record { many = refl; times = λ d. omega arith }
filled_is w share r wide (c ∷ cells) rows h all =
    let q = next_row share r wide in
    let x = next_wide share wide (slice_index w c) in
    let rows' = put_in rows q c in
    let many' : length rows' ≡ length rows = length-set rows q (row_at rows q ++ c ∷ []) in
    let room = room_next w share (length rows) r wide c cells (All-head (HasWidth w) c cells all) h in
    let P : ℕ → Type 0 = λ n. HasRoom share n q x (row_width w cells) in
    let rest = filled_is w share q x cells rows' (subst P (sym many') room) (All-tail (HasWidth w) c cells all) in
    let Q : List (List ℕ) → Type 0 = λ new. IsFilled w (c ∷ cells) rows new in
    subst Q (sym (filled_next w share r wide c cells rows))
    (record {
      many = rest.many ∙ many';
      times = λ d.
          let a = rest.times d in
          let b = times_put rows q c d room.row in
          let f : ℕ → ℕ = λ y. cond (y == d) 1 0 in
          let e = sum_by-cons f c cells in
          let g = sum_by-cons f c [] in
          omega arith;
    })

-- ---- even

pub record IsEvenSo (w : List ℕ) (bound r wide : ℕ) (rows : List (List ℕ)) : Type 0 where
  pub each : (s : ℕ) → row_width w (row_at rows s) ≤ bound
  pub here : row_width w (row_at rows r) ≤ wide
  pub beyond : (s : ℕ) → r < s → row_width w (row_at rows s) ≡ 0

width_put : (w : List ℕ) (rows : List (List ℕ)) (q c : ℕ) → q < length rows → row_width w (row_at (put_in rows q c) q) ≡ row_width w (row_at rows q) + slice_index w c
width_put w rows q c l =
    ap (row_width w) (get_or-set_same rows q (row_at rows q ++ c ∷ []) [] l) ∙ sum_by_push (slice_index w) (row_at rows q) c

width_other : (w : List ℕ) (rows : List (List ℕ)) (q c s : ℕ) → (s ≡ q → ⊥) → row_width w (row_at (put_in rows q c) s) ≡ row_width w (row_at rows s)
width_other w rows q c s n = ap (row_width w) (get_or-set_other rows q s (row_at rows q ++ c ∷ []) [] n)

even_put : (w : List ℕ) (share big r wide c : ℕ) (rows : List (List ℕ)) (q x : ℕ) → slice_index w c ≤ big → q < length rows
    → q ≡ cond (nat_le share wide) (r + 1) r → x ≡ cond (nat_le share wide) (slice_index w c) (wide + slice_index w c)
    → IsEvenSo w (share + big) r wide rows → IsEvenSo w (share + big) q x (put_in rows q c)
even_put w share big r wide c rows q x small l qe xe h = by (nat_le share wide) refl where
  at_q : row_width w (row_at (put_in rows q c) q) ≡ row_width w (row_at rows q) + slice_index w c
  at_q = width_put w rows q c l

  each : row_width w (row_at (put_in rows q c) q) ≤ share + big → (s : ℕ) → row_width w (row_at (put_in rows q c) s) ≤ share + big
  each m s = here (cases_eq s q) where
    here : (s ≡ q) ⊎ (s ≡ q → ⊥) → row_width w (row_at (put_in rows q c) s) ≤ share + big
    here (inl e) = let a = ap (λ (k : ℕ). row_width w (row_at (put_in rows q c) k)) e in omega arith
    here (inr n) = let a = width_other w rows q c s n in let b = h.each s in omega arith

  beyond : r ≤ q → (s : ℕ) → q < s → row_width w (row_at (put_in rows q c) s) ≡ 0
  beyond m s n = width_other w rows q c s (λ e. absurd (omega arith)) ∙ h.beyond s (omega arith)

  by : (t : Bool) → nat_le share wide ≡ t → IsEvenSo w (share + big) q x (put_in rows q c)
  by true e =
      let a : q ≡ r + 1 = qe ∙ cond-true (nat_le share wide) (r + 1) r e in
      let b : x ≡ slice_index w c = xe ∙ cond-true (nat_le share wide) (slice_index w c) (wide + slice_index w c) e in
      let empty = h.beyond q (omega arith) in
      let at = at_q in
      record { each = λ s. each (omega arith) s; here = omega arith; beyond = λ s m. beyond (omega arith) s m }
  by false e =
      let under : wide < share = leb-false share wide e in
      let a : q ≡ r = qe ∙ cond-false (nat_le share wide) (r + 1) r e in
      let b : x ≡ wide + slice_index w c = xe ∙ cond-false (nat_le share wide) (slice_index w c) (wide + slice_index w c) e in
      let same = ap (λ (k : ℕ). row_width w (row_at rows k)) a in
      let was = h.here in
      let at = at_q in
      record { each = λ s. each (omega arith) s; here = omega arith; beyond = λ s m. beyond (omega arith) s m }

even_more : (w : List ℕ) (share big r wide c : ℕ) (rows : List (List ℕ)) → slice_index w c ≤ big → next_row share r wide < length rows → IsEvenSo w (share + big) r wide rows
    → IsEvenSo w (share + big) (next_row share r wide) (next_wide share wide (slice_index w c)) (put_in rows (next_row share r wide) c)
unfolding next_row next_wide
even_more w share big r wide c rows small l h =
    even_put w share big r wide c rows (next_row share r wide) (next_wide share wide (slice_index w c)) small l refl refl h

pub even_filled : (w : List ℕ) (share big r wide : ℕ) (cells : List ℕ) (rows : List (List ℕ)) → HasRoom share (length rows) r wide (row_width w cells) → All (HasWidth w) cells
    → ((d : ℕ) → slice_index w d ≤ big) → IsEvenSo w (share + big) r wide rows → (s : ℕ) → row_width w (row_at (filled w share r wide cells rows) s) ≤ share + big
unfolding filled
even_filled w share big r wide [] rows h all small even s = even.each s
even_filled w share big r wide (c ∷ cells) rows h all small even s =
    let q = next_row share r wide in
    let x = next_wide share wide (slice_index w c) in
    let rows' = put_in rows q c in
    let many' : length rows' ≡ length rows = length-set rows q (row_at rows q ++ c ∷ []) in
    let room = room_next w share (length rows) r wide c cells (All-head (HasWidth w) c cells all) h in
    let P : ℕ → Type 0 = λ n. HasRoom share n q x (row_width w cells) in
    let Q : List (List ℕ) → Type 0 = λ new. row_width w (row_at new s) ≤ share + big in
    subst Q (sym (filled_next w share r wide c cells rows))
    (even_filled w share big q x cells rows' (subst P (sym many') room) (All-tail (HasWidth w) c cells all) small (even_more w share big r wide c rows (small c) room.row even) s)

-- ---- in order

abbrev all : List (List ℕ) → List ℕ
all rows = flat_map (λ row. row) rows

none_left : (rows : List (List ℕ)) → ((s : ℕ) → row_at rows s ≡ []) → all rows ≡ []
none_left [] h = refl
none_left (row ∷ rows) h = ap (λ (xs : List ℕ). xs ++ all rows) (h 0) ∙ none_left rows (λ s. h (suc s))

all_put : (rows : List (List ℕ)) (q c : ℕ) → q < length rows → ((s : ℕ) → q < s → row_at rows s ≡ []) → all (put_in rows q c) ≡ all rows ++ c ∷ []
all_put [] q c l h = absurd (omega arith)
all_put (row ∷ rows) zero c l h =
    let none : all rows ≡ [] = none_left rows (λ s. h (suc s) (omega arith)) in
    ap (λ (xs : List ℕ). (row ++ c ∷ []) ++ xs) none ∙ append-nil (row ++ c ∷ [])
    ∙ sym (ap (λ (xs : List ℕ). (row ++ xs) ++ c ∷ []) none ∙ ap (λ (xs : List ℕ). xs ++ c ∷ []) (append-nil row))
all_put (row ∷ rows) (suc q) c l h =
    ap (λ (xs : List ℕ). row ++ xs) (all_put rows q c (omega arith) (λ s m. h (suc s) (omega arith))) ∙ sym (append_assoc row (all rows) (c ∷ []))

next_near : (share r wide : ℕ) → r ≤ next_row share r wide
unfolding next_row
next_near share r wide = by (nat_le share wide) where
  by : (t : Bool) → r ≤ cond t (r + 1) r
  by true = omega arith
  by false = omega arith

all_filled : (w : List ℕ) (share r wide : ℕ) (cells : List ℕ) (rows : List (List ℕ)) → HasRoom share (length rows) r wide (row_width w cells) → All (HasWidth w) cells
    → ((s : ℕ) → r < s → row_at rows s ≡ []) → all (filled w share r wide cells rows) ≡ all rows ++ cells
unfolding filled
all_filled w share r wide [] rows h wides empty = sym (append-nil (all rows))
all_filled w share r wide (c ∷ cells) rows h wides empty =
    let q = next_row share r wide in
    let x = next_wide share wide (slice_index w c) in
    let rows' = put_in rows q c in
    let near = next_near share r wide in
    let many' : length rows' ≡ length rows = length-set rows q (row_at rows q ++ c ∷ []) in
    let room = room_next w share (length rows) r wide c cells (All-head (HasWidth w) c cells wides) h in
    let P : ℕ → Type 0 = λ n. HasRoom share n q x (row_width w cells) in
    ap all (filled_next w share r wide c cells rows)
    ∙ all_filled w share q x cells rows' (subst P (sym many') room) (All-tail (HasWidth w) c cells wides)
    (λ s m. get_or-set_other rows q s (row_at rows q ++ c ∷ []) [] (λ e. absurd (omega arith)) ∙ empty s (omega arith))
    ∙ ap (λ (xs : List ℕ). xs ++ cells) (all_put rows q c room.row (λ s m. empty s (omega arith)))
    ∙ append_assoc (all rows) (c ∷ []) cells

all_empty : (many : ℕ) → all (replicate many []) ≡ []
all_empty zero = refl
all_empty (suc many) = all_empty many

no_row : (many s : ℕ) → row_at {X = ℕ} (replicate many []) s ≡ []
no_row zero s = refl
no_row (suc many) zero = refl
no_row (suc many) (suc s) = no_row many s

-- ---- all cells

numbers_width : (w : List ℕ) (k n : ℕ) → k + n ≡ length w → row_width w (numbers k n) ≡ sum (drop k w)
numbers_width w k zero e = let d = ap sum (drop_all k w (omega arith)) in sym d
numbers_width w k (suc n) e =
    let a = sum_by-cons (slice_index w) k (numbers (suc k) n) in
    let b = numbers_width w (suc k) n (omega arith) in
    let c = sum_by-drop_more (λ (x : ℕ). x) w k 0 (omega arith) in
    let d = ap (λ (j : ℕ). sum (drop j w)) (add-one k) in
    omega arith

numbers_wide : (w : List ℕ) (k n : ℕ) → k + n ≤ length w → All (λ x. 0 < x) w → All (HasWidth w) (numbers k n)
numbers_wide w k zero l all = All-nil (HasWidth w)
numbers_wide w k (suc n) l all = All-cons (HasWidth w) k (numbers (suc k) n) (all k 0 (omega arith)) (numbers_wide w (suc k) n (omega arith) all)

numbers_below : (k n c : ℕ) → c < k → times_in (numbers k n) c ≡ 0
numbers_below k zero c l = refl
numbers_below k (suc n) c l = times_no k (numbers (suc k) n) c (ne_eqb k c (omega arith)) ∙ numbers_below (suc k) n c (omega arith)

pub numbers_beyond : (k n c : ℕ) → k + n ≤ c → times_in (numbers k n) c ≡ 0
numbers_beyond k zero c l = refl
numbers_beyond k (suc n) c l = times_no k (numbers (suc k) n) c (ne_eqb k c (omega arith)) ∙ numbers_beyond (suc k) n c (omega arith)

pub numbers_within : (k n c : ℕ) → k ≤ c → c < k + n → times_in (numbers k n) c ≡ 1
numbers_within k zero c l m = absurd (omega arith)
numbers_within k (suc n) c l m = by (cases_eq k c) (λ d. numbers_within (suc k) n c d (omega arith)) where
  by : (k ≡ c) ⊎ (k ≡ c → ⊥) → (suc k ≤ c → times_in (numbers (suc k) n) c ≡ 1) → times_in (k ∷ numbers (suc k) n) c ≡ 1
  by (inl e) next = times_yes k (numbers (suc k) n) c (eq-eqb k c e) ∙ ap suc (numbers_below (suc k) n c (omega arith))
  by (inr d) next = times_no k (numbers (suc k) n) c (ne_eqb k c d) ∙ next (omega arith)

no_times : (many c : ℕ) → times (replicate many []) c ≡ 0
no_times zero c = refl
no_times (suc many) c = let a = times_rows [] (replicate many []) c in let b = no_times many c in omega arith

no_width : (w : List ℕ) (many s : ℕ) → row_width w (row_at (replicate many []) s) ≡ 0
no_width w zero s = refl
no_width w (suc many) zero = refl
no_width w (suc many) (suc s) = no_width w many s

widest_is : (w : List ℕ) (c : ℕ) → slice_index w c ≤ widest w
widest_is [] c = omega arith
widest_is (x ∷ w) zero = omega arith
widest_is (x ∷ w) (suc c) = let a = widest_is w c in omega arith

pub good_start : (widths : List ℕ) (many : ℕ) → 0 < many → All (λ w. 0 < w) widths → IsGoodStart widths many
good_start widths many l all =
    let n = length widths in
    let share = share_of widths many in
    let empty : List (List ℕ) = replicate many [] in
    let count : length empty ≡ many = length-replicate many [] in
    let fits = share_enough (sum widths) many l in
    let width : row_width widths (numbers 0 n) ≡ sum widths = numbers_width widths 0 n (omega arith) in
    let scaled : length empty * share ≡ many * share = ap (λ (k : ℕ). k * share) count in
    let none : 0 * share ≡ 0 = omega arith in
    let room : HasRoom share (length empty) 0 0 (row_width widths (numbers 0 n)) = record { row = omega arith; room = omega arith } in
    let wide = numbers_wide widths 0 n (omega arith) all in
    let done = filled_is widths share 0 0 (numbers 0 n) empty room wide in
    let even = even_filled widths share (widest widths) 0 0 (numbers 0 n) empty room wide (widest_is widths) (record {
      each = λ s. let a = no_width widths many s in omega arith;
      here = let a = no_width widths many 0 in omega arith;
      beyond = λ s m. no_width widths many s;
    }) in
    record {
      each = record {
        count = done.many ∙ count;
        once = λ c m. let a = done.times c in let b = no_times many c in let d = numbers_within 0 n c (omega arith) (omega arith) in omega arith;
        others = λ c m. let a = done.times c in let b = no_times many c in let d = numbers_beyond 0 n c (omega arith) in omega arith;
      };
      order =
          all_filled widths share 0 0 (numbers 0 n) empty room wide (λ s m. no_row many s) ∙ ap (λ (xs : List ℕ). xs ++ numbers 0 n) (all_empty many);
      even = record {
        each = λ s.
            let e = even s in
            let P : ℕ → Type 0 = λ k. row_width widths (row_at (filled widths share 0 0 (numbers 0 n) empty) s) ≤ share_of widths k + widest widths in
            subst P (sym (done.many ∙ count)) e;
      };
    }
