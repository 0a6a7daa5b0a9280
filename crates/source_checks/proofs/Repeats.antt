-- Looking for the first name that is declared twice, from left to right.
use Rattle.std.proofs.Common.{◌≡◌, ℕ, zero, suc, ◌+◌, ◌<◌, ◌≤◌, Bool, true, false, cond, eqb, List, [], ◌∷◌, length, get_or, Option, Some, None, refl, sym, ap, ◌∙◌, bytes_eq, arith}
use Rattle.std.specs.Prelude.{option_map, ◌||◌, not}
use Rattle.std.specs.Option.{option_eq}
use Rattle.std.proofs.lemmas.Bool.Decides.{nat_tests}
use Rattle.std.specs.List.{list_any}
use Rattle.source_checks.specs.declared.symbol_table.Symbol.{Symbol}
use Rattle.source_checks.specs.Checks.{first_repeated}
use Rattle.source_checks.specs.Known.{position_of}
use Rattle.source_checks.proofs.Lookups.{itself, turned}

-- what is found from the symbol at k on, where these names are declared before the first
abbrev pub repeated_from : List Symbol → List (List ℕ) → ℕ → Option Symbol
repeated_from known before zero = first_repeated before known
repeated_from [] before (suc k) = None
repeated_from (s ∷ known) before (suc k) = repeated_from known (s.text ∷ before) k

-- a symbol whose name is declared before is found
found_before : (known : List Symbol) (before : List (List ℕ)) (k : ℕ) (s : Symbol) → k < length known → s ≡ get_or known k s → list_any (bytes_eq s.text) before ≡ true → repeated_from known before k ≡ Some s
found_before [] before k s within is e = absurd (omega arith)
found_before (x ∷ known) before zero s within is e =
    ap (λ (y : Symbol). cond (list_any (bytes_eq y.text) before) (Some y) (first_repeated (y.text ∷ before) known)) (sym is) ∙ ap (λ b. cond b (Some s) (first_repeated (s.text ∷ before) known)) e
found_before (x ∷ known) before (suc k) s within is e = found_before known (x.text ∷ before) k s (omega arith) is (by (bytes_eq s.text x.text)) where
  by : (b : Bool) → (b || list_any (bytes_eq s.text) before) ≡ true
  by true = refl
  by false = e

none_there : (o : Option ℕ) (k : ℕ) → option_map suc o ≡ Some (suc k) → o ≡ Some k
none_there None k e = absurd cc
none_there (Some j) k e = cc

-- a symbol at its own place isn't what is looked for
pub passed : (known : List Symbol) (before : List (List ℕ)) (k : ℕ) (s : Symbol) → k < length known → s ≡ get_or known k s → list_any (bytes_eq s.text) before ≡ false
    → position_of known s.text ≡ Some k → repeated_from known before k ≡ repeated_from known before (suc k)
passed [] before k s within is e at = absurd (omega arith)
passed (x ∷ known) before zero s within is e at =
    ap (λ (y : Symbol). cond (list_any (bytes_eq y.text) before) (Some y) (first_repeated (y.text ∷ before) known)) (sym is) ∙ ap (λ b. cond b (Some s) (first_repeated (s.text ∷ before) known)) e
    ∙ ap (λ (y : Symbol). first_repeated (y.text ∷ before) known) is
passed (x ∷ known) before (suc k) s within is e at = by (passed known (x.text ∷ before) k s (omega arith) is) (bytes_eq x.text s.text) refl at where
  by : (list_any (bytes_eq s.text) (x.text ∷ before) ≡ false → position_of known s.text ≡ Some k → repeated_from known (x.text ∷ before) k ≡ repeated_from known (x.text ∷ before) (suc k))
      → (b : Bool) → bytes_eq x.text s.text ≡ b → cond b (Some 0) (option_map suc (position_of known s.text)) ≡ Some (suc k) → repeated_from known (x.text ∷ before) k ≡ repeated_from known (x.text ∷ before) (suc k)
  by rest true here at = let apart : zero ≡ suc k = cc in absurd (omega arith)
  by rest false here at =
      rest (ap (λ b. b || list_any (bytes_eq s.text) before) (turned s.text x.text ∙ here) ∙ e) (none_there (position_of known s.text) k at)

-- and one that is at another place is
pub caught : (known : List Symbol) (before : List (List ℕ)) (k : ℕ) (s : Symbol) → k < length known → s ≡ get_or known k s → list_any (bytes_eq s.text) before ≡ false
    → (position_of known s.text ≡ Some k → ⊥) → repeated_from known before k ≡ Some s
caught [] before k s within is e at = absurd (omega arith)
caught (x ∷ known) before zero s within is e at =
    let here : position_of (x ∷ known) s.text ≡ Some 0 = ap (λ (y : Symbol). cond (bytes_eq y.text s.text) (Some 0) (option_map suc (position_of known s.text))) (sym is) ∙ ap (λ b. cond b (Some 0) (option_map suc (position_of known s.text))) (itself s.text) in
    absurd (at here)
caught (x ∷ known) before (suc k) s within is e at = by (caught known (x.text ∷ before) k s (omega arith) is) (bytes_eq x.text s.text) refl where
  by : (list_any (bytes_eq s.text) (x.text ∷ before) ≡ false → (position_of known s.text ≡ Some k → ⊥) → repeated_from known (x.text ∷ before) k ≡ Some s)
      → (b : Bool) → bytes_eq x.text s.text ≡ b → repeated_from known (x.text ∷ before) k ≡ Some s
  by rest true here = found_before known (x.text ∷ before) k s (omega arith) is (ap (λ b. b || list_any (bytes_eq s.text) before) (turned s.text x.text ∙ here))
  by rest false here =
      rest (ap (λ b. b || list_any (bytes_eq s.text) before) (turned s.text x.text ∙ here) ∙ e)
      (λ p. at (ap (λ b. cond b (Some 0) (option_map suc (position_of known s.text))) here ∙ ap (option_map suc) p))

pub at_end : (known : List Symbol) (before : List (List ℕ)) (k : ℕ) → length known ≤ k → repeated_from known before k ≡ None
at_end [] before zero over = refl
at_end [] before (suc k) over = refl
at_end (s ∷ known) before zero over = absurd (omega arith)
at_end (s ∷ known) before (suc k) over = at_end known (s.text ∷ before) k (omega arith)

same_place : (o : Option ℕ) (k : ℕ) → false ≡ not (option_eq eqb o (Some k)) → o ≡ Some k
same_place None k e = absurd cc
same_place (Some j) k e = let same : j ≡ k = grind (arith, nat_tests) in ap Some same

other_place : (o : Option ℕ) (k : ℕ) → true ≡ not (option_eq eqb o (Some k)) → o ≡ Some k → ⊥
other_place o k e is =
    let h : true ≡ not (eqb k k) = e ∙ ap (λ (p : Option ℕ). not (option_eq eqb p (Some k))) is in grind (arith, nat_tests)

-- a turn of the loop: the symbol at k stands at its place, and the search goes on, or it is found
pub goes_on : (known symbols : List Symbol) (k : ℕ) (s : Symbol) (o : Option ℕ) (found : Option Symbol) → symbols ≡ known → k < length symbols → s ≡ get_or symbols k s → o ≡ position_of known s.text
    → false ≡ not (option_eq eqb o (Some k)) → repeated_from known [] k ≡ found → repeated_from known [] (k + 1) ≡ found
goes_on known symbols k s o found same within is at test so_far =
    let next : suc k ≡ k + 1 = omega arith in
    ap (repeated_from known []) (sym next)
    ∙ sym (passed known [] k s (omega (arith, ap (λ (xs : List Symbol). length xs) same)) (is ∙ ap (λ (xs : List Symbol). get_or xs k s) same) refl (sym at ∙ same_place o k test)) ∙ so_far

pub found_here : (known symbols : List Symbol) (k : ℕ) (s : Symbol) (o : Option ℕ) (found : Option Symbol) → symbols ≡ known → k < length symbols → s ≡ get_or symbols k s → o ≡ position_of known s.text
    → true ≡ not (option_eq eqb o (Some k)) → repeated_from known [] k ≡ found → Some s ≡ found
found_here known symbols k s o found same within is at test so_far =
    sym (caught known [] k s (omega (arith, ap (λ (xs : List Symbol). length xs) same)) (is ∙ ap (λ (xs : List Symbol). get_or xs k s) same) refl (λ p. other_place o k test (at ∙ p))) ∙ so_far
