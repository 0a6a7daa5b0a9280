-- Loops over what is written.
use Rattle.std.proofs.Common.{◌≡◌, ℕ, suc, ◌+◌, ◌-◌, ◌<◌, ◌≤◌, Bool, true, ◌&&◌, List, [], ◌∷◌, ◌++◌, length, drop, get_or, min, Option, Some, None, refl, sym, ap, ◌∙◌, ◌⊎◌, inl, inr, append-nil, arith}
use Rattle.std.proofs.str.Laws.{order}
use Rattle.std.proofs.lemmas.List.{at_drop_more, drop_all}
use Rattle.std.specs.List.{list_all}
use Rattle.vlsi_base.specs.Range.{rising}
use Rattle.pat_meaning.specs.declared.patterns.Value.{Value}
use Rattle.pat_text.specs.declared.parsed.ParsedColumn.{ParsedColumn}
use Rattle.pat_text.specs.declared.parsed.ParsedValue.{ParsedValue}
use Rattle.pat_io.specs.Digits.{values_for}
use Rattle.pat_io.specs.Fitting.{value_faults}
use Rattle.pat_io.specs.PatternText.{first_line}

-- the first of two, if there is one
abbrev pub or_first : {A : Type 0} → Option A → Option A → Option A
or_first None o = o
or_first (Some x) o = Some x

pub first_line_append : (xs ys : List ℕ) → first_line (xs ++ ys) ≡ or_first (first_line xs) (first_line ys)
first_line_append [] ys = refl
first_line_append (x ∷ xs) ys = refl

-- what is next
pub at_next : {X A : Type 0} (f : List X → A) (xs : List X) (i : ℕ) (x : X) → i < length xs → x ≡ get_or xs i x → f (drop i xs) ≡ f (x ∷ drop (i + 1) xs)
at_next {X} {A} f xs i x within is = at_drop_more f xs i x within ∙ ap (λ (y : X). f (y ∷ drop (i + 1) xs)) (sym is)

-- the first line that is found: in x, or behind it
pub turn : {X : Type 0} (look : X → List ℕ) (all : List X → List ℕ) (unfolds : (x : X) (xs : List X) → all (x ∷ xs) ≡ look x ++ all xs)
    (xs : List X) (i : ℕ) (x : X) (total : Option ℕ) → i < length xs → x ≡ get_or xs i x → first_line (all (drop i xs)) ≡ total
    → (first : Option ℕ) → first ≡ first_line (look x) → or_first first (first_line (all (drop (i + 1) xs))) ≡ total
turn {X} look all unfolds xs i x total within is so_far first here =
    let rest = drop (i + 1) xs in
    ap (λ (o : Option ℕ). or_first o (first_line (all rest))) here ∙ sym (first_line_append (look x) (all rest)) ∙ ap first_line (sym (unfolds x rest))
    ∙ sym (at_next (λ (ys : List X). first_line (all ys)) xs i x within is) ∙ so_far

pub turn_end : {X : Type 0} (all : List X → List ℕ) → all [] ≡ [] → (xs : List X) (i : ℕ) (total : Option ℕ) → length xs ≤ i → first_line (all (drop i xs)) ≡ total → None ≡ total
turn_end {X} all none xs i total past so_far = sym (ap (λ (ys : List X). first_line (all ys)) (drop_all i xs past) ∙ ap first_line none) ∙ so_far

-- ---- columns and values together

no_faults : (cs : List ParsedColumn) → value_faults cs [] ≡ []
no_faults [] = refl
no_faults (c ∷ cs) = refl

no_values : (cs : List ParsedColumn) → values_for cs [] ≡ []
no_values [] = refl
no_values (c ∷ cs) = refl

pub faults_past : (cs : List ParsedColumn) (vs : List ParsedValue) (k : ℕ) → min (length cs) (length vs) ≤ k → value_faults (drop k cs) (drop k vs) ≡ []
faults_past cs vs k past = by_case (order k (length cs)) where
  by_case : (k < length cs) ⊎ (length cs ≤ k) → value_faults (drop k cs) (drop k vs) ≡ []
  by_case (inl more) = ap (value_faults (drop k cs)) (drop_all k vs (omega arith)) ∙ no_faults (drop k cs)
  by_case (inr less) = ap (λ (x : List ParsedColumn). value_faults x (drop k vs)) (drop_all k cs less)

pub values_past : (cs : List ParsedColumn) (vs : List ParsedValue) (k : ℕ) → min (length cs) (length vs) ≤ k → values_for (drop k cs) (drop k vs) ≡ []
values_past cs vs k past = by_case (order k (length cs)) where
  by_case : (k < length cs) ⊎ (length cs ≤ k) → values_for (drop k cs) (drop k vs) ≡ []
  by_case (inl more) = ap (values_for (drop k cs)) (drop_all k vs (omega arith)) ∙ no_values (drop k cs)
  by_case (inr less) = ap (λ (x : List ParsedColumn). values_for x (drop k vs)) (drop_all k cs less)

pub made_all : (cs : List ParsedColumn) (vs : List ParsedValue) (k : ℕ) (done total : List Value) → min (length cs) (length vs) ≤ k → done ++ values_for (drop k cs) (drop k vs) ≡ total → done ≡ total
made_all cs vs k done total past so_far = sym (append-nil done) ∙ ap (λ (ys : List Value). done ++ ys) (sym (values_past cs vs k past)) ∙ so_far

-- ---- bits of a range

rising_next : (p : ℕ → Bool) (first count step : ℕ) → step < count → list_all p (rising (first + step) (count - step)) ≡ (p (first + step) && list_all p (rising (first + (step + 1)) (count - (step + 1))))
rising_next p first count step within =
    let e : count - step ≡ suc (count - (step + 1)) = omega arith in
    let f : first + step + 1 ≡ first + (step + 1) = omega arith in
    ap (λ n. list_all p (rising (first + step) n)) e ∙ ap (λ n. p (first + step) && list_all p (rising n (count - (step + 1)))) f

pub bit_there : (p : ℕ → Bool) (first count step : ℕ) (total : Bool) → step < count → list_all p (rising (first + step) (count - step)) ≡ total → p (first + step) ≡ true → list_all p (rising (first + (step + 1)) (count - (step + 1))) ≡ total
bit_there p first count step total within so_far there =
    sym (ap (λ (b : Bool). b && list_all p (rising (first + (step + 1)) (count - (step + 1)))) there) ∙ sym (rising_next p first count step within) ∙ so_far
