-- Counting by numbers what is counted by names.
use Rattle.std.proofs.Common.{◌≡◌, ◌≢◌, ℕ, zero, suc, ◌+◌, ◌≤◌, ◌<◌, nat_lt, Bool, true, false, cond, List, [], ◌∷◌, ◌++◌, length, get_or, set, drop, map, replicate, Option, None, Some, refl, sym, ap, subst, ◌∙◌, bytes_eq, arith}
use Rattle.std.specs.Prelude.{filter, ◌||◌}
use Rattle.std.specs.List.{list_any}
use Rattle.std.proofs.lemmas.List.{length-set, length-replicate, get_or-replicate, get_or-set_same, get_or-set_other}
use Rattle.std.proofs.lemmas.Bool.Decides.{nat_tests}
use Rattle.vlsi_base.specs.Member.{In, here, there, AllDifferent}
use Rattle.vlsi_base.specs.declared.name.Name.{Name}
use Rattle.grammar_theory.specs.declared.limits.TheConstants.{CHAIN}
use Rattle.machine_core.specs.Named.{is_same_name}
use Rattle.machine_core.proofs.Names.{same_name-true, same_name-itself, same_name-false}
use Rattle.source_checks.specs.declared.statement.Target.{Target}
use Rattle.source_checks.specs.declared.symbol_table.Symbol.{Symbol}
use Rattle.source_checks.specs.Symbols.{all_names}
use Rattle.source_checks.specs.Drivers.{is_among, target_names}
use Rattle.source_checks.specs.Formula.{place}
use Rattle.source_checks.specs.Checks.{first_repeated}
use Rattle.source_checks.proofs.Lookups.{itself}
use Rattle.fsm_text.specs.Chains.{times, taken, counted_bits, IsTally}

-- ---- where no name is declared again, the texts are different

abbrev pub texts : List Symbol → List (List ℕ)
texts known = map (λ s. s.text) known

any_of : (t : List ℕ) (before : List (List ℕ)) → In t before → list_any (bytes_eq t) before ≡ true
any_of t (b ∷ before) here = ap (λ x. x || list_any (bytes_eq t) before) (itself t)
any_of t (b ∷ before) (there h) = by (any_of t before h) (bytes_eq t b) where
  by : list_any (bytes_eq t) before ≡ true → (x : Bool) → (x || list_any (bytes_eq t) before) ≡ true
  by rest true = refl
  by rest false = rest
any_of t [] h = elim h [ ]

not_repeated : (before : List (List ℕ)) (known : List Symbol) → first_repeated before known ≡ None → AllDifferent (texts known) × ((t : List ℕ) → In t before → In t (texts known) → ⊥)
not_repeated before [] e = (tt, λ t h g. elim g [ ])
not_repeated before (s ∷ known) e = by (list_any (bytes_eq s.text) before) refl e (not_repeated (s.text ∷ before) known) where
  apart_from : (list_any (bytes_eq s.text) before ≡ false) → ((t : List ℕ) → In t (s.text ∷ before) → In t (texts known) → ⊥) → (t : List ℕ) → In t before → In t (s.text ∷ texts known) → ⊥
  apart_from none apart t h here = let both : true ≡ false = sym (any_of t before h) ∙ none in absurd cc
  apart_from none apart t h (there g) = apart t (there h) g

  by : (b : Bool) → list_any (bytes_eq s.text) before ≡ b → cond b (Some s) (first_repeated (s.text ∷ before) known) ≡ None
      → (first_repeated (s.text ∷ before) known ≡ None → AllDifferent (texts known) × ((t : List ℕ) → In t (s.text ∷ before) → In t (texts known) → ⊥))
      → AllDifferent (texts (s ∷ known)) × ((t : List ℕ) → In t before → In t (texts (s ∷ known)) → ⊥)
  by true is e rest = absurd cc
  by false is e rest = let r = rest e in ((λ h. r.1 s.text here h, r.0), apart_from is r.1)

pub different_texts : (known : List Symbol) → first_repeated [] known ≡ None → AllDifferent (texts known)
different_texts known e = (not_repeated [] known e).0

-- ---- numbers of names

-- a name among others stands at a place of theirs
place_within : (names : List Name) (n : Name) → is_among names n ≡ true → place names n < length names
place_within [] n e = absurd cc
place_within (m ∷ names) n e = by (place_within names n) (is_same_name m n) e where
  by : (is_among names n ≡ true → place names n < length names) → (b : Bool) → (b || is_among names n) ≡ true → cond b 0 (place names n + 1) < suc (length names)
  by rest true e = omega arith
  by rest false e = let less : place names n < length names = rest e in omega arith

-- another stands behind them all
place_behind : (names : List Name) (n : Name) → is_among names n ≡ false → length names ≤ place names n
place_behind [] n e = omega arith
place_behind (m ∷ names) n e = by (place_behind names n) (is_same_name m n) e where
  by : (is_among names n ≡ false → length names ≤ place names n) → (b : Bool) → (b || is_among names n) ≡ false → suc (length names) ≤ cond b 0 (place names n + 1)
  by rest true e = absurd cc
  by rest false e = let more : length names ≤ place names n = rest e in omega arith

-- two names at one place are one
place_tells : (names : List Name) (n m : Name) → place names n < length names → place names n ≡ place names m → n ≡ m
place_tells [] n m h e = absurd (omega arith)
place_tells (x ∷ names) n m h e = by (place_tells names n m) (is_same_name x n) (is_same_name x m) refl refl h e where
  by : (place names n < length names → place names n ≡ place names m → n ≡ m) → (a b : Bool) → is_same_name x n ≡ a → is_same_name x m ≡ b
      → cond a 0 (place names n + 1) < suc (length names) → cond a 0 (place names n + 1) ≡ cond b 0 (place names m + 1) → n ≡ m
  by rest true true p q h e = sym (same_name-true x n p) ∙ same_name-true x m q
  by rest true false p q h e = absurd (omega arith)
  by rest false true p q h e = absurd (omega arith)
  by rest false false p q h e = rest (omega arith) (omega arith)

-- ---- counting

pub no_counts : (known : List Symbol) (counts : List ℕ) (n : ℕ) → n ≡ length (all_names known) → counts ≡ replicate n 0 → IsTally known counts []
no_counts known counts n e same = record {
  each = ap (λ (xs : List ℕ). length xs) same ∙ length-replicate {A = ℕ} n 0 ∙ e;
  counted = λ m h.
      let within : place (all_names known) m < n = omega (arith, ap (λ (xs : List ℕ). length xs) same, length-replicate {A = ℕ} n 0) in
      ap (λ (xs : List ℕ). get_or xs (place (all_names known) m) 0) same ∙ get_or-replicate n (place (all_names known) m) 0 0 within;
}

one_more : (known : List Symbol) (counts : List ℕ) (before : List Name) (n : Name) → IsTally known counts before → place (all_names known) n < length counts
    → IsTally known (set counts (place (all_names known) n) (get_or counts (place (all_names known) n) 0 + 1)) (n ∷ before)
one_more known counts before n tally within = record { each = length-set counts p (old + 1) ∙ tally.each; counted = counted } where
  p : ℕ
  p = place (all_names known) n

  old : ℕ
  old = get_or counts p 0

  same_place : (m : Name) → n ≡ m → get_or (set counts p (old + 1)) (place (all_names known) m) 0 ≡ cond (is_same_name n m) (times m before + 1) (times m before)
  same_place m e =
      let at : get_or (set counts p (old + 1)) (place (all_names known) n) 0 ≡ old + 1 = get_or-set_same counts p (old + 1) 0 within in
      let was : old ≡ times n before = tally.counted n within in
      let test : is_same_name n n ≡ true = same_name-itself n in
      let all : get_or (set counts p (old + 1)) (place (all_names known) n) 0 ≡ cond (is_same_name n n) (times n before + 1) (times n before) =
      at ∙ ap (λ k. k + 1) was ∙ sym (ap (λ b. cond b (times n before + 1) (times n before)) test) in
      subst (λ (x : Name). get_or (set counts p (old + 1)) (place (all_names known) x) 0 ≡ cond (is_same_name n x) (times x before + 1) (times x before)) e all

  other_place : (m : Name) → n ≢ m → place (all_names known) m < length counts → get_or (set counts p (old + 1)) (place (all_names known) m) 0 ≡ cond (is_same_name n m) (times m before + 1) (times m before)
  other_place m e h =
      let apart : place (all_names known) m ≢ p = λ same. e (place_tells (all_names known) n m (omega (arith, tally.each, within)) (sym same)) in
      get_or-set_other counts p (place (all_names known) m) (old + 1) 0 apart ∙ tally.counted m h
      ∙ sym (ap (λ b. cond b (times m before + 1) (times m before)) (same_name-false n m e))

  by_test : (m : Name) (b : Bool) → is_same_name n m ≡ b → place (all_names known) m < length counts → get_or (set counts p (old + 1)) (place (all_names known) m) 0 ≡ cond (is_same_name n m) (times m before + 1) (times m before)
  by_test m true e h = same_place m (same_name-true n m e)
  by_test m false e h = other_place m (λ same. let both : true ≡ false = sym (same_name-itself n) ∙ subst (λ (x : Name). is_same_name n x ≡ false) (sym same) e in absurd cc) h

  counted : (m : Name) → place (all_names known) m < length (set counts p (old + 1)) → get_or (set counts p (old + 1)) (place (all_names known) m) 0 ≡ times m (n ∷ before)
  counted m h = by_test m (is_same_name n m) refl (omega (arith, length-set counts p (old + 1)))

-- ---- the bits of a target, one after another

-- what the loop over them keeps: those before the index are counted
pub record Taking (known : List Symbol) (before all : List Name) (index : ℕ) (counts : List ℕ) : Type 0 where
  pub so_far : List Name
  pub tally : IsTally known counts so_far
  pub same : taken before (filter (is_among (all_names known)) all) ≡ taken so_far (filter (is_among (all_names known)) (drop index all))

pub takes_none : (known : List Symbol) (before all : List Name) (counts : List ℕ) → IsTally known counts before → Taking known before all 0 counts
takes_none known before all counts tally = record { so_far = before; tally = tally; same = refl }

at_suc : (f : Name → ℕ) (all : List Name) (i : ℕ) → i < length (map f all) → (n : Name) × (drop i all ≡ n ∷ drop (suc i) all) × (get_or (map f all) i 0 ≡ f n)
at_suc f [] i h = absurd (omega arith)
at_suc f (x ∷ all) zero h = (x, refl, refl)
at_suc f (x ∷ all) (suc i) h = at_suc f all i (omega arith)

-- the bit at an index, and its number
at_index : (f : Name → ℕ) (all : List Name) (i : ℕ) → i < length (map f all) → (n : Name) × (drop i all ≡ n ∷ drop (i + 1) all) × (get_or (map f all) i 0 ≡ f n)
at_index f all i h =
    let at = at_suc f all i h in
    let next : suc i ≡ i + 1 = omega arith in
    (at.0, at.1 ∙ ap (λ k. at.0 ∷ drop k all) next, at.2)

-- where the bit of this number is counted or isn't
head_of : (known : List Symbol) (so_far : List Name) (n : Name) (more : List Name) (b : Bool) → is_among (all_names known) n ≡ b
    → taken so_far (filter (is_among (all_names known)) (n ∷ more)) ≡ cond b (taken so_far (n ∷ filter (is_among (all_names known)) more)) (taken so_far (filter (is_among (all_names known)) more))
head_of known so_far n more true e = ap (λ b. taken so_far (cond b (n ∷ filter (is_among (all_names known)) more) (filter (is_among (all_names known)) more))) e
head_of known so_far n more false e = ap (λ b. taken so_far (cond b (n ∷ filter (is_among (all_names known)) more) (filter (is_among (all_names known)) more))) e

is_counted : (names : List Name) (n : Name) → place names n < length names → is_among names n ≡ true
is_counted names n h = by (is_among names n) refl where
  by : (b : Bool) → is_among names n ≡ b → b ≡ true
  by true e = refl
  by false e = absurd (omega (arith, place_behind names n e, h))

pub not_counted : (names : List Name) (n : Name) → (place names n < length names → ⊥) → is_among names n ≡ false
not_counted names n apart = by (is_among names n) refl where
  by : (b : Bool) → is_among names n ≡ b → b ≡ false
  by true e = absurd (apart (place_within names n e))
  by false e = refl

-- a bit that isn't counted
pub steps_over : (known : List Symbol) (before all : List Name) (i : ℕ) (counts : List ℕ) → Taking known before all i counts → i < length (map (place (all_names known)) all)
    → (get_or (map (place (all_names known)) all) i 0 < length counts → ⊥) → Taking known before all (i + 1) counts
steps_over known before all i counts kept within beyond =
    let at = at_index (place (all_names known)) all i within in
    let apart : place (all_names known) at.0 < length (all_names known) → ⊥ = λ h. beyond (omega (arith, h, at.2, kept.tally.each)) in
    let first : taken kept.so_far (filter (is_among (all_names known)) (at.0 ∷ drop (i + 1) all)) ≡ taken kept.so_far (filter (is_among (all_names known)) (drop (i + 1) all)) =
    head_of known kept.so_far at.0 (drop (i + 1) all) false (not_counted (all_names known) at.0 apart) in
    record { so_far = kept.so_far; tally = kept.tally; same = kept.same ∙ ap (λ (ns : List Name). taken kept.so_far (filter (is_among (all_names known)) ns)) at.1 ∙ first }

-- a bit that is counted
first_taken : (known : List Symbol) (before all : List Name) (i : ℕ) (counts : List ℕ) (kept : Taking known before all i counts) (n : Name) → drop i all ≡ n ∷ drop (i + 1) all
    → place (all_names known) n < length counts → (b : Bool) → nat_lt (get_or counts (place (all_names known) n) 0) CHAIN ≡ b
    → taken before (filter (is_among (all_names known)) all) ≡ cond b (taken (n ∷ kept.so_far) (filter (is_among (all_names known)) (drop (i + 1) all))) None
first_taken known before all i counts kept n at within b test =
    let among : is_among (all_names known) n ≡ true = is_counted (all_names known) n (omega (arith, within, kept.tally.each)) in
    let first = head_of known kept.so_far n (drop (i + 1) all) true among in
    let more = filter (is_among (all_names known)) (drop (i + 1) all) in
    let count : get_or counts (place (all_names known) n) 0 ≡ times n kept.so_far = kept.tally.counted n within in
    let tested : nat_lt (times n kept.so_far) CHAIN ≡ b = ap (λ k. nat_lt k CHAIN) (sym count) ∙ test in
    kept.same ∙ ap (λ (ns : List Name). taken kept.so_far (filter (is_among (all_names known)) ns)) at ∙ first ∙ ap (λ (t : Bool). cond t (taken (n ∷ kept.so_far) more) None) tested

-- one that may not be assigned again
pub steps_full : (known : List Symbol) (before all : List Name) (i : ℕ) (counts : List ℕ) → Taking known before all i counts → i < length (map (place (all_names known)) all)
    → get_or (map (place (all_names known)) all) i 0 < length counts → CHAIN ≤ get_or counts (get_or (map (place (all_names known)) all) i 0) 0
    → taken before (filter (is_among (all_names known)) all) ≡ None
steps_full known before all i counts kept within few full =
    let at = at_index (place (all_names known)) all i within in
    let there : place (all_names known) at.0 < length counts = omega (arith, few, at.2) in
    let over : CHAIN ≤ get_or counts (place (all_names known) at.0) 0 = subst (λ (k : ℕ). CHAIN ≤ get_or counts k 0) at.2 full in
    let test : nat_lt (get_or counts (place (all_names known) at.0) 0) CHAIN ≡ false = grind (arith, nat_tests) in
    first_taken known before all i counts kept at.0 at.1 there false test

pub steps_on : (known : List Symbol) (before all : List Name) (i : ℕ) (counts : List ℕ) → Taking known before all i counts → i < length (map (place (all_names known)) all)
    → get_or (map (place (all_names known)) all) i 0 < length counts → get_or counts (get_or (map (place (all_names known)) all) i 0) 0 < CHAIN
    → Taking known before all (i + 1) (set counts (get_or (map (place (all_names known)) all) i 0) (get_or counts (get_or (map (place (all_names known)) all) i 0) 0 + 1))
steps_on known before all i counts kept within few less =
    let at = at_index (place (all_names known)) all i within in
    let there : place (all_names known) at.0 < length counts = omega (arith, few, at.2) in
    let under : get_or counts (place (all_names known) at.0) 0 < CHAIN = subst (λ (k : ℕ). get_or counts k 0 < CHAIN) at.2 less in
    let test : nat_lt (get_or counts (place (all_names known) at.0) 0) CHAIN ≡ true = grind (arith, nat_tests) in
    let made : Taking known before all (i + 1) (set counts (place (all_names known) at.0) (get_or counts (place (all_names known) at.0) 0 + 1)) =
    record {
      so_far = at.0 ∷ kept.so_far;
      tally = one_more known counts kept.so_far at.0 kept.tally there;
      same = first_taken known before all i counts kept at.0 at.1 there true test;
    } in
    subst (λ (k : ℕ). Taking known before all (i + 1) (set counts k (get_or counts k 0 + 1))) (sym at.2) made

past : (all : List Name) (i : ℕ) → length all ≤ i → drop i all ≡ []
past [] zero h = refl
past [] (suc i) h = refl
past (x ∷ all) zero h = absurd (omega arith)
past (x ∷ all) (suc i) h = past all i (omega arith)

-- behind the last
pub all_taken : (known : List Symbol) (before all : List Name) (i : ℕ) (counts : List ℕ) → length all ≤ i → (kept : Taking known before all i counts)
    → taken before (filter (is_among (all_names known)) all) ≡ Some kept.so_far
all_taken known before all i counts over kept = kept.same ∙ ap (λ (ns : List Name). taken kept.so_far (filter (is_among (all_names known)) ns)) (past all i over)

-- ---- the same by the list of numbers

pub over : (known : List Symbol) (before all : List Name) (i : ℕ) (counts ps : List ℕ) → ps ≡ map (place (all_names known)) all → Taking known before all i counts → i < length ps
    → (get_or ps i 0 < length counts → ⊥) → Taking known before all (i + 1) counts
over known before all i counts ps is kept within beyond =
    steps_over known before all i counts kept (subst (λ (xs : List ℕ). i < length xs) is within) (subst (λ (xs : List ℕ). get_or xs i 0 < length counts → ⊥) is beyond)

pub full : (known : List Symbol) (before all : List Name) (i : ℕ) (counts ps : List ℕ) → ps ≡ map (place (all_names known)) all → Taking known before all i counts → i < length ps
    → get_or ps i 0 < length counts → CHAIN ≤ get_or counts (get_or ps i 0) 0 → taken before (filter (is_among (all_names known)) all) ≡ None
full known before all i counts ps is kept within few most =
    steps_full known before all i counts kept (subst (λ (xs : List ℕ). i < length xs) is within) (subst (λ (xs : List ℕ). get_or xs i 0 < length counts) is few)
    (subst (λ (xs : List ℕ). CHAIN ≤ get_or counts (get_or xs i 0) 0) is most)

pub on : (known : List Symbol) (before all : List Name) (i : ℕ) (counts ps : List ℕ) → ps ≡ map (place (all_names known)) all → Taking known before all i counts → i < length ps
    → get_or ps i 0 < length counts → get_or counts (get_or ps i 0) 0 < CHAIN → Taking known before all (i + 1) (set counts (get_or ps i 0) (get_or counts (get_or ps i 0) 0 + 1))
on known before all i counts ps is kept within few less =
    subst (λ (xs : List ℕ). Taking known before all (i + 1) (set counts (get_or xs i 0) (get_or counts (get_or xs i 0) 0 + 1))) (sym is)
    (steps_on known before all i counts kept (subst (λ (xs : List ℕ). i < length xs) is within) (subst (λ (xs : List ℕ). get_or xs i 0 < length counts) is few)
    (subst (λ (xs : List ℕ). get_or counts (get_or xs i 0) 0 < CHAIN) is less))
