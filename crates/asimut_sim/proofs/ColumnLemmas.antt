-- Bits of ranges, and columns from one of them on.
use Rattle.std.proofs.Common.{◌≡◌, ℕ, suc, ◌+◌, ◌-◌, ◌<◌, ◌≤◌, true, false, List, [], ◌∷◌, ◌++◌, length, drop, Some, refl, sym, ◌∙◌, ap, add-one, drop-cons, append_assoc, append-nil, arith, rules, nat_le}
use Rattle.std.specs.List.{slice_index_or}
use Rattle.vlsi_base.specs.declared.name.Name.{Name}
use Rattle.vlsi_base.specs.Range.{rising, falling}
use Rattle.vlsi_base.proofs.Ranges.{length_of_rising, length_of_falling}
use Rattle.pat_meaning.specs.declared.patterns.BitRange.{BitRange}
use Rattle.pat_meaning.specs.declared.patterns.Column.{Column}
use Rattle.pat_meaning.specs.Columns.{range_bits, bits_named, column_names, listed}

pub length-bits_named : (text : List ℕ) (ks : List ℕ) → length (bits_named text ks) ≡ length ks
length-bits_named text [] = refl
length-bits_named text (k ∷ ks) = ap suc (length-bits_named text ks)

-- the next of n numbers that rise
pub rising-step : (first count step : ℕ) → step < count
    → rising (first + step) (count - step) ≡ (first + step) ∷ rising (first + (step + 1)) (count - (step + 1))
rising-step first count step h =
    let e : count - step ≡ suc (count - (step + 1)) = omega arith in
    let f : first + step + 1 ≡ first + (step + 1) = omega arith in
    ap (rising (first + step)) e ∙ ap (λ k. (first + step) ∷ rising k (count - (step + 1))) f

pub falling-step : (last count step : ℕ) → step < count
    → falling last (count - step) ≡ (last + (count - 1 - step)) ∷ falling last (count - (step + 1))
falling-step last count step h =
    let e : count - step ≡ suc (count - (step + 1)) = omega arith in
    let f : last + (count - (step + 1)) ≡ last + (count - 1 - step) = omega arith in
    ap (falling last) e ∙ ap (λ k. k ∷ falling last (count - (step + 1))) f

abbrev pub Rises : List Name → List Name → List ℕ → ℕ → ℕ → ℕ → Type 0
Rises start names text first count step =
    names ++ bits_named text (rising (first + step) (count - step)) ≡ start ++ bits_named text (rising first count)

pub rises-begin : (start : List Name) (text : List ℕ) (first count : ℕ) → Rises start start text first count 0
rises-begin start text first count =
    let e : first + 0 ≡ first = omega arith in let f : count - 0 ≡ count = omega arith in
    ap (λ k. start ++ bits_named text (rising k (count - 0))) e ∙ ap (λ k. start ++ bits_named text (rising first k)) f

pub rises-next : (start names : List Name) (text : List ℕ) (first count step : ℕ) → step < count → Rises start names text first count step
    → Rises start (names ++ record { text = text; bit = Some (first + step) } ∷ []) text first count (step + 1)
rises-next start names text first count step h r =
    append_assoc names (record { text = text; bit = Some (first + step) } ∷ []) (bits_named text (rising (first + (step + 1)) (count - (step + 1))))
    ∙ sym (ap (λ x. names ++ bits_named text x) (rising-step first count step h)) ∙ r

pub rises-end : (start names : List Name) (text : List ℕ) (first count step : ℕ) → count ≤ step → Rises start names text first count step
    → names ≡ start ++ bits_named text (rising first count)
rises-end start names text first count step h r =
    let e : count - step ≡ 0 = omega arith in
    sym (append-nil names) ∙ sym (ap (λ k. names ++ bits_named text (rising (first + step) k)) e) ∙ r

abbrev pub Falls : List Name → List Name → List ℕ → ℕ → ℕ → ℕ → Type 0
Falls start names text last count step =
    names ++ bits_named text (falling last (count - step)) ≡ start ++ bits_named text (falling last count)

pub falls-begin : (start : List Name) (text : List ℕ) (last count : ℕ) → Falls start start text last count 0
falls-begin start text last count =
    let f : count - 0 ≡ count = omega arith in ap (λ k. start ++ bits_named text (falling last k)) f

pub falls-next : (start names : List Name) (text : List ℕ) (last count step : ℕ) → step < count → Falls start names text last count step
    → Falls start (names ++ record { text = text; bit = Some (last + (count - 1 - step)) } ∷ []) text last count (step + 1)
falls-next start names text last count step h r =
    append_assoc names (record { text = text; bit = Some (last + (count - 1 - step)) } ∷ []) (bits_named text (falling last (count - (step + 1))))
    ∙ sym (ap (λ x. names ++ bits_named text x) (falling-step last count step h)) ∙ r

pub falls-end : (start names : List Name) (text : List ℕ) (last count step : ℕ) → count ≤ step → Falls start names text last count step
    → names ≡ start ++ bits_named text (falling last count)
falls-end start names text last count step h r =
    let e : count - step ≡ 0 = omega arith in
    sym (append-nil names) ∙ sym (ap (λ k. names ++ bits_named text (falling last k)) e) ∙ r

pub columns-cons : (columns : List Column) (k : ℕ) (c : Column) → k < length columns → c ≡ slice_index_or columns k c
    → drop k columns ≡ c ∷ drop (k + 1) columns
columns-cons columns k c h is =
    drop-cons columns k c h ∙ ap (λ x. x ∷ drop (suc k) columns) (sym is) ∙ ap (λ j. c ∷ drop j columns) (sym (add-one k))

abbrev pub Lists : List Column → List Name → ℕ → Type 0
Lists columns names k = names ++ listed (drop k columns) ≡ listed columns

pub lists-next : (columns : List Column) (names : List Name) (k : ℕ) (c : Column) → k < length columns → c ≡ slice_index_or columns k c
    → Lists columns names k → Lists columns (names ++ column_names c) (k + 1)
lists-next columns names k c h is l =
    append_assoc names (column_names c) (listed (drop (k + 1) columns))
    ∙ sym (ap (λ x. names ++ listed x) (columns-cons columns k c h is)) ∙ l

pub range-up : (r : BitRange) → r.left ≤ r.right → range_bits r ≡ rising r.left (r.right - r.left + 1)
range-up r h = let e : nat_le r.left r.right ≡ true = search rules in rw e refl

pub range-down : (r : BitRange) → r.right < r.left → range_bits r ≡ falling r.right (r.left - r.right + 1)
range-down r h = let e : nat_le r.left r.right ≡ false = search rules in rw e refl

pub length-up : (r : BitRange) → r.left ≤ r.right → length (range_bits r) ≡ r.right - r.left + 1
length-up r h = ap length (range-up r h) ∙ length_of_rising r.left (r.right - r.left + 1)

pub length-down : (r : BitRange) → r.right < r.left → length (range_bits r) ≡ r.left - r.right + 1
length-down r h = ap length (range-down r h) ∙ length_of_falling r.right (r.left - r.right + 1)

pub length-column : (c : Column) (r : BitRange) → c.range ≡ Some r → length (column_names c) ≡ length (range_bits r)
length-column c r e = rw e (length-bits_named c.name (range_bits r))
