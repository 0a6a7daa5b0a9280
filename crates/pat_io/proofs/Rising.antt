-- Columns that list no bit twice.
use Rattle.std.proofs.Common.{◌≡◌, ℕ, zero, suc, ◌+◌, ◌<◌, ◌≤◌, ◌⊎◌, inl, inr, Bool, true, false, ◌&&◌, nat_le, bytes_eq, List, [], ◌∷◌, length, get_or, map, take, Bor, Option, Some, None, refl, sym, ap, subst, ◌∙◌, arith}
use Rattle.std.specs.List.{IsDistinct, list_any}
use Rattle.std.specs.List.Sorted.{IsPermutation}
use Rattle.std.specs.Ordering.{nat_cmp, is_lt, is_eq, ordering_then, ordering_reverse}
use Rattle.std.specs.Cmp.Lexicographic.{slice_cmp}
use Rattle.std.specs.declared.cmp.Ordering.{Ordering}
use Rattle.std.specs.declared.cmp.Ordering.TheVariants.{Less, Equal, Greater}
use Rattle.std.proofs.str.Laws.{order}
use Rattle.std.proofs.lemmas.Bool.{lt-leb}
use Rattle.std.proofs.lemmas.Bool.Decides.{nat_tests}
use Rattle.std.proofs.lemmas.Cmp.{nat_cmp_total, lists_total}
use Rattle.std.proofs.lemmas.Map.Keys.{IsDistinct-from_apart, apart_from_distinct, IsDistinct-IsPermutation}
use Rattle.std.proofs.lemmas.List.{get_or-map, get_or-take, length-map, length-take}
use Rattle.std.proofs.lemmas.List.Elements.{All-from_get_or}
use Rattle.std.proofs.lemmas.List.Folds.{list_any_none}
use Rattle.std.proofs.lemmas.List.Sorted.{IsPermutation-map, IsPermutation-sym}
use Rattle.std.proofs.lemmas.Map.Text.{is_eq-slice_cmp}
use Rattle.vlsi_base.specs.declared.range.Range.{Range}
use Rattle.vlsi_base.specs.Name.{name_cmp, bit_cmp}
use Rattle.vlsi_base.specs.Range.{least, greatest}
use Rattle.vlsi_base.proofs.NameOrder.{name_total}
use Rattle.pat_text.specs.declared.parsed.ParsedColumn.{ParsedColumn}
use Rattle.pat_io.specs.Apart.{overlap, share_bit, least_bit, greatest_bit, first_name, last_name, comes_before}
use Rattle.pat_io.proofs.Ranges.{ends_order}

-- ---- one column before another

no_overlap : (r s : Option Range) → is_lt (bit_cmp (greatest_bit r) (least_bit s)) ≡ true → overlap r s ≡ false
no_overlap None None h = absurd cc
no_overlap None (Some s) h = refl
no_overlap (Some r) None h = absurd cc
no_overlap (Some r) (Some s) h =
    let less : greatest r < least s = below (greatest r) (least s) h in
    both (nat_le (least r) (greatest s)) (nat_le (least s) (greatest r)) (lt-leb (least s) (greatest r) less) where
      below : (a b : ℕ) → is_lt (nat_cmp a b) ≡ true → a < b
      below a b h = grind (arith, nat_tests)

      both : (p q : Bool) → q ≡ false → (p && q) ≡ false
      both true q e = e
      both false q e = refl

no_shared : (c d : ParsedColumn) → comes_before c d ≡ true → share_bit c d ≡ false
no_shared c d h = by (slice_cmp nat_cmp c.name d.name) refl h where
  apart : (p : Bool) → overlap c.range d.range ≡ false → (p && overlap c.range d.range) ≡ false
  apart true e = e
  apart false e = refl

  by : (o : Ordering) → slice_cmp nat_cmp c.name d.name ≡ o → is_lt (ordering_then o (bit_cmp (greatest_bit c.range) (least_bit d.range))) ≡ true → share_bit c d ≡ false
  by Less is h = ap (λ b. b && overlap c.range d.range) (sym (is_eq-slice_cmp c.name d.name) ∙ ap is_eq is)
  by Greater is h = absurd cc
  by Equal is h = apart (bytes_eq c.name d.name) (no_overlap c.range d.range h)

is_less : (o : Ordering) → is_lt o ≡ true → o ≡ Less
is_less Less e = refl
is_less Equal e = absurd cc
is_less Greater e = absurd cc

same_text : (t : List ℕ) → slice_cmp nat_cmp t t ≡ Equal
same_text t = level (slice_cmp nat_cmp t t) ((lists_total nat_cmp_total).antisymm t t) where
  level : (o : Ordering) → o ≡ ordering_reverse o → o ≡ Equal
  level Less e = absurd cc
  level Equal e = refl
  level Greater e = absurd cc

-- the first bit is the last one, or comes before it
ends : (text : List ℕ) (r : Option Range) → (least_bit r ≡ greatest_bit r) ⊎ (name_cmp (record { text = text; bit = least_bit r }) (record { text = text; bit = greatest_bit r }) ≡ Less)
ends text None = inl refl
ends text (Some r) = elim (order (least r) (greatest r)) [
  | inl less ↦ inr (ap (λ o. ordering_then o (nat_cmp (least r) (greatest r))) (same_text text) ∙ lower (least r) (greatest r) less)
  | inr more ↦ let e = ends_order r in let same : least r ≡ greatest r = omega arith in inl (ap Some same)
] where
  lower : (a b : ℕ) → a < b → nat_cmp a b ≡ Less
  lower a b h = grind (arith, nat_tests)

before_far : (c d e : ParsedColumn) → comes_before c d ≡ true → comes_before d e ≡ true → comes_before c e ≡ true
before_far c d e h k =
    let a = is_less (name_cmp (last_name c) (first_name d)) h in
    let b = is_less (name_cmp (last_name d) (first_name e)) k in
    ap is_lt (elim (ends d.name d.range) [
      | inl same ↦ name_total.trans (last_name c) (last_name d) (first_name e) (subst (λ (x : Option ℕ). name_cmp (last_name c) (record { text = d.name; bit = x }) ≡ Less) same a) b
      | inr less ↦ name_total.trans (last_name c) (last_name d) (first_name e) (name_total.trans (last_name c) (first_name d) (last_name d) a less) b
    ])

-- ---- columns of which each comes before the next

pub distinct_rising : (cs : List ParsedColumn) → ((k : ℕ) (d : ParsedColumn) → k + 1 < length cs → comes_before (get_or cs k d) (get_or cs (k + 1) d) ≡ true) → IsDistinct share_bit cs
distinct_rising cs next = IsDistinct-from_apart share_bit cs (λ i j d a b. no_shared (get_or cs i d) (get_or cs j d) (far i j d a b)) where
  far : (i j : ℕ) (d : ParsedColumn) → i < j → j < length cs → comes_before (get_or cs i d) (get_or cs j d) ≡ true
  far i zero d a b = absurd (omega arith)
  far i (suc j) d a b =
      let here : comes_before (get_or cs j d) (get_or cs (suc j) d) ≡ true = subst (λ n. comes_before (get_or cs j d) (get_or cs n d) ≡ true) (omega arith) (next j d (omega arith)) in
      elim (order i j) [
        | inl less ↦ before_far (get_or cs i d) (get_or cs j d) (get_or cs (suc j) d) (far i j d less (omega arith)) here
        | inr more ↦ let same : j ≡ i = omega arith in subst (λ n. comes_before (get_or cs n d) (get_or cs (suc j) d) ≡ true) same here
      ]

pub distinct_none : IsDistinct share_bit []
distinct_none = distinct_rising [] (λ j d h. absurd (omega arith))

-- the same of references to them
pub distinct_references : (refs : List (Bor ParsedColumn)) (k : ℕ) → length refs ≤ k → ((j : ℕ) (d : Bor ParsedColumn) → j + 1 < k → comes_before (get_or refs j d).now (get_or refs (j + 1) d).now ≡ true) → IsDistinct share_bit (map (λ r. r.now) refs)
distinct_references refs k past next = by refs past next where
  by : (rs : List (Bor ParsedColumn)) → length rs ≤ k → ((j : ℕ) (d : Bor ParsedColumn) → j + 1 < k → comes_before (get_or rs j d).now (get_or rs (j + 1) d).now ≡ true) → IsDistinct share_bit (map (λ r. r.now) rs)
  by [] past next = distinct_none
  by (r ∷ rs) past next =
      let all = r ∷ rs in
      distinct_rising (map (λ (x : Bor ParsedColumn). x.now) all) (λ j d h.
      let count : length (map (λ (x : Bor ParsedColumn). x.now) all) ≡ length all = length-map all (λ (x : Bor ParsedColumn). x.now) in
      let first = get_or-map (λ (x : Bor ParsedColumn). x.now) all j r d (omega arith) in
      let second = get_or-map (λ (x : Bor ParsedColumn). x.now) all (j + 1) r d (omega arith) in
      ap (λ (c : ParsedColumn). comes_before c (get_or (map (λ (x : Bor ParsedColumn). x.now) all) (j + 1) d)) first ∙ ap (λ (c : ParsedColumn). comes_before (get_or all j r).now c) second ∙ next j r (omega arith))

-- ---- columns in another order

same_either : (a b : List ℕ) → bytes_eq a b ≡ bytes_eq b a
same_either a b = sym (is_eq-slice_cmp a b) ∙ ap is_eq ((lists_total nat_cmp_total).antisymm a b) ∙ turned (slice_cmp nat_cmp b a) ∙ is_eq-slice_cmp b a where
  turned : (o : Ordering) → is_eq (ordering_reverse o) ≡ is_eq o
  turned Less = refl
  turned Equal = refl
  turned Greater = refl

either : (r s : Option Range) → overlap r s ≡ overlap s r
either None None = refl
either None (Some s) = refl
either (Some r) None = refl
either (Some r) (Some s) = swap (nat_le (least r) (greatest s)) (nat_le (least s) (greatest r)) where
  swap : (p q : Bool) → (p && q) ≡ (q && p)
  swap true true = refl
  swap true false = refl
  swap false true = refl
  swap false false = refl

flips : (c d : ParsedColumn) → share_bit c d ≡ share_bit d c
flips c d = ap (λ b. b && overlap c.range d.range) (same_either c.name d.name) ∙ ap (λ b. bytes_eq d.name c.name && b) (either c.range d.range)

pub distinct_moved : (columns : List ParsedColumn) (before after : List (Bor ParsedColumn)) → map (λ r. r.now) before ≡ columns → IsPermutation before after → IsDistinct share_bit (map (λ r. r.now) after) → IsDistinct share_bit columns
distinct_moved columns before after is moved h =
    let back = IsPermutation-sym before after moved in
    subst (IsDistinct share_bit) is (IsDistinct-IsPermutation share_bit flips (map (λ (r : Bor ParsedColumn). r.now) after) (map (λ (r : Bor ParsedColumn). r.now) before) (IsPermutation-map (λ (r : Bor ParsedColumn). r.now) after before back) h)

-- a column among those that are apart lists no bit that one before it lists
pub none_before : (columns : List ParsedColumn) (count place : ℕ) (c : ParsedColumn) → place < count → place < length columns → c ≡ get_or columns place c → IsDistinct share_bit (take count columns) → list_any (share_bit c) (take place columns) ≡ false
none_before columns count place c a b is h =
    list_any_none (share_bit c) (take place columns)
    (All-from_get_or (λ (x : ParsedColumn). share_bit c x ≡ false) (take place columns) c (λ i within.
    let low : i < place = omega (arith, length-take place columns) in
    let all : place < length (take count columns) = omega (arith, length-take count columns) in
    let here : get_or (take count columns) place c ≡ c = get_or-take count columns place c a ∙ sym is in
    let there : get_or (take count columns) i c ≡ get_or (take place columns) i c = get_or-take count columns i c (omega arith) ∙ sym (get_or-take place columns i c low) in
    flips c (get_or (take place columns) i c)
    ∙ ap (λ (x : ParsedColumn). share_bit x c) (sym there) ∙ ap (share_bit (get_or (take count columns) i c)) (sym here)
    ∙ apart_from_distinct share_bit (take count columns) i place c h low all))
