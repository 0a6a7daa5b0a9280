-- The line of PATH on which a name stands.
use Rattle.std.proofs.Common.{◌≡◌, ◌↔◌, ℕ, suc, zero, ◌+◌, ◌-◌, ◌<◌, ◌≤◌, Bool, true, false, List, [], ◌∷◌, drop, length, get_or, bytes_eq, Some, refl, sym, ap, ◌∙◌, subst, arith, if◌then◌else◌}
use Rattle.net_core.specs.Places.{Stands}
use Rattle.net_core.proofs.Lookups.{same_of, itself}
use Rattle.path_io.specs.PathText.{Lists, ended, blank, named}
use Rattle.scapin_run.specs.Scapin.{line_or, line_among}

-- each name has a line
pub as_many : (k : ℕ) (lines names : List (List ℕ)) (numbers : List ℕ) → Lists k lines names numbers → length names ≡ length numbers
as_many k _ _ _ ended = refl
as_many k _ _ _ (blank {lines = lines} {names = names} {numbers = numbers} b rest) = as_many (k + 1) lines names numbers rest
as_many k _ _ _ (named {lines = lines} {names = names} {numbers = numbers} n rest) = ap suc (as_many (k + 1) lines names numbers rest)

-- ---- going over the names

-- what is left of the names from this place on
abbrev pub left_at : List (List ℕ) → List ℕ → ℕ → List ℕ → ℕ → ℕ → ℕ
left_at names numbers last text place left = line_among (drop place names) (drop place numbers) last text left

none_left : (names : List (List ℕ)) (last : ℕ) (text : List ℕ) (place left : ℕ) → line_among (drop place names) [] last text left ≡ last
none_left [] last text zero left = refl
none_left [] last text (suc place) left = refl
none_left (n ∷ names) last text zero left = refl
none_left (n ∷ names) last text (suc place) left = none_left names last text place left

pub step_at : (names : List (List ℕ)) (numbers : List ℕ) (last : ℕ) (text : List ℕ) (place left : ℕ) → place < length names
    → left_at names numbers last text place left
    ≡ (if bytes_eq (get_or names place []) text then line_or (get_or numbers place last) left (left_at names numbers last text (suc place)) else left_at names numbers last text (suc place) left)
step_at [] numbers last text place left low = absurd (omega (arith, low))
step_at (n ∷ names) [] last text zero left low = by (bytes_eq n text) left where
  by : (b : Bool) (k : ℕ) → last ≡ (if b then line_or last k (λ j. line_among names [] last text j) else line_among names [] last text k)
  by true zero = refl
  by true (suc k) = sym (none_left names last text 0 k)
  by false k = sym (none_left names last text 0 k)
step_at (n ∷ names) (l ∷ numbers) last text zero left low = refl
step_at (n ∷ names) [] last text (suc place) left low = none_left names last text place left ∙ by (bytes_eq (get_or names place []) text) left where
  by : (b : Bool) (k : ℕ)
      → last ≡ (if b then line_or last k (λ j. line_among (drop (suc place) names) [] last text j) else line_among (drop (suc place) names) [] last text k)
  by true zero = refl
  by true (suc k) = sym (none_left names last text (suc place) k)
  by false k = sym (none_left names last text (suc place) k)
step_at (n ∷ names) (l ∷ numbers) last text (suc place) left low = step_at names numbers last text place left (omega (arith, low))

-- where the name at the place is the text, and none of it is to be left out
pub found_at : (names : List (List ℕ)) (numbers : List ℕ) (last value : ℕ) (text : List ℕ) (place left : ℕ) → place < length names
    → bytes_eq (get_or names place []) text ≡ true → left ≡ 0 → left_at names numbers last text place left ≡ value → get_or numbers place last ≡ value
found_at names numbers last value text place left low same none so =
    sym (step_at names numbers last text place left low
    ∙ ap (λ (b : Bool). if b then line_or (get_or numbers place last) left (left_at names numbers last text (suc place)) else left_at names numbers last text (suc place) left) same
    ∙ ap (λ (k : ℕ). line_or (get_or numbers place last) k (left_at names numbers last text (suc place))) none) ∙ so

pub passed_at : (names : List (List ℕ)) (numbers : List ℕ) (last value : ℕ) (text : List ℕ) (place left : ℕ) → place < length names
    → bytes_eq (get_or names place []) text ≡ true → 0 < left → left_at names numbers last text place left ≡ value
    → left_at names numbers last text (place + 1) (left - 1) ≡ value
passed_at names numbers last value text place zero low same some so = absurd (omega (arith, some))
passed_at names numbers last value text place (suc left) low same some so =
    let next : place + 1 ≡ suc place = omega arith in
    let less : suc left - 1 ≡ left = omega arith in
    ap (λ (k : ℕ). left_at names numbers last text k (suc left - 1)) next ∙ ap (left_at names numbers last text (suc place)) less
    ∙ sym (step_at names numbers last text place (suc left) low
    ∙ ap (λ (b : Bool). if b then line_or (get_or numbers place last) (suc left) (left_at names numbers last text (suc place)) else left_at names numbers last text (suc place) (suc left)) same) ∙ so

pub other_at : (names : List (List ℕ)) (numbers : List ℕ) (last value : ℕ) (text : List ℕ) (place left : ℕ) → place < length names
    → bytes_eq (get_or names place []) text ≡ false → left_at names numbers last text place left ≡ value → left_at names numbers last text (place + 1) left ≡ value
other_at names numbers last value text place left low unlike so =
    let next : place + 1 ≡ suc place = omega arith in
    ap (λ (k : ℕ). left_at names numbers last text k left) next
    ∙ sym (step_at names numbers last text place left low
    ∙ ap (λ (b : Bool). if b then line_or (get_or numbers place last) left (left_at names numbers last text (suc place)) else left_at names numbers last text (suc place) left) unlike) ∙ so

pub end_at : (names : List (List ℕ)) (numbers : List ℕ) (last value : ℕ) (text : List ℕ) (place left : ℕ) → length names ≤ place
    → left_at names numbers last text place left ≡ value → last ≡ value
end_at [] numbers last value text zero left over so = so
end_at [] numbers last value text (suc place) left over so = so
end_at (n ∷ names) numbers last value text zero left over so = absurd (omega (arith, over))
end_at (n ∷ names) [] last value text (suc place) left over so = sym (none_left names last text place left) ∙ so
end_at (n ∷ names) (l ∷ numbers) last value text (suc place) left over so = end_at names numbers last value text place left (omega (arith, over)) so

-- whether two texts are one
pub told_same : (a b : List ℕ) (r : Bool) → ((r ≡ true) ↔ (a ≡ b)) → bytes_eq a b ≡ r
told_same a b r same = by r (bytes_eq a b) refl same where
  by : (r e : Bool) → bytes_eq a b ≡ e → ((r ≡ true) ↔ (a ≡ b)) → e ≡ r
  by true true is h = refl
  by false false is h = refl
  by true false is h =
      let one = h.0 refl in
      let yes = itself a in
      let no : bytes_eq a a ≡ false = subst (λ (x : List ℕ). bytes_eq a x ≡ false) (sym one) is in
      let never : true ≡ false = sym yes ∙ no in absurd cc
  by false true is h = let never : false ≡ true = h.1 (same_of a b is) in absurd cc

at_default : (xs : List (List ℕ)) (k : ℕ) (d e : List ℕ) → k < length xs → get_or xs k d ≡ get_or xs k e
at_default [] k d e low = absurd (omega (arith, low))
at_default (x ∷ xs) zero d e low = refl
at_default (x ∷ xs) (suc k) d e low = at_default xs k d e (omega (arith, low))

pub test_at : (names : List (List ℕ)) (place : ℕ) (x text : List ℕ) (r : Bool) → place < length names → x ≡ get_or names place x → ((r ≡ true) ↔ (x ≡ text))
    → bytes_eq (get_or names place []) text ≡ r
test_at names place x text r low is same = ap (λ (t : List ℕ). bytes_eq t text) (at_default names place [] x low ∙ sym is) ∙ told_same x text r same

-- ---- the line of the first name, and of the second

pub first_line : (names : List (List ℕ)) (numbers : List ℕ) (last : ℕ) (text : List ℕ) (place : ℕ) → length names ≡ length numbers → Stands names place text
    → ((j : ℕ) → j < place → Stands names j text → ⊥) → Stands numbers place (line_among names numbers last text 0)
first_line [] numbers last text place many at before = absurd cc
first_line (n ∷ names) [] last text place many at before = absurd (omega (arith, many))
first_line (n ∷ names) (l ∷ numbers) last text zero many at before =
    let same : n ≡ text = cc in
    ap (λ (b : Bool). Some (if b then l else line_among names numbers last text 0)) (sym (subst (λ (t : List ℕ). bytes_eq n t ≡ true) same (itself n)))
first_line (n ∷ names) (l ∷ numbers) last text (suc place) many at before =
    by (bytes_eq n text) refl (first_line names numbers last text place (omega (arith, many)) at (λ j low there. before (suc j) (omega (arith, low)) there)) where
      by : (b : Bool) → bytes_eq n text ≡ b → Stands numbers place (line_among names numbers last text 0)
          → Stands (l ∷ numbers) (suc place) (if b then l else line_among names numbers last text 0)
      by true e rest = absurd (before 0 (omega arith) (ap Some (same_of n text e)))
      by false e rest = rest

pub second_line : (names : List (List ℕ)) (numbers : List ℕ) (last : ℕ) (text : List ℕ) (place before : ℕ) → length names ≡ length numbers → Stands names place text
    → before < place → Stands names before text → ((i j : ℕ) (name : List ℕ) → i < j → j < place → Stands names i name → Stands names j name → ⊥)
    → Stands numbers place (line_among names numbers last text 1)
second_line [] numbers last text place before many at low stood first = absurd cc
second_line (n ∷ names) [] last text place before many at low stood first = absurd (omega (arith, many))
second_line (n ∷ names) (l ∷ numbers) last text zero before many at low stood first = absurd (omega (arith, low))
second_line (n ∷ names) (l ∷ numbers) last text (suc place) zero many at low stood first =
    let same : n ≡ text = cc in
    subst (λ (k : ℕ). Stands (l ∷ numbers) (suc place) k)
    (ap (λ (b : Bool). if b then line_among names numbers last text 0 else line_among names numbers last text 1) (sym (subst (λ (t : List ℕ). bytes_eq n t ≡ true) same (itself n))))
    (first_line names numbers last text place (omega (arith, many)) at (λ j l there. first 0 (suc j) text (omega arith) (omega (arith, l)) stood there))
second_line (n ∷ names) (l ∷ numbers) last text (suc place) (suc before) many at low stood first =
    by (bytes_eq n text) refl
    (second_line names numbers last text place before (omega (arith, many)) at (omega (arith, low)) stood
    (λ i j name a b p q. first (suc i) (suc j) name (omega (arith, a)) (omega (arith, b)) p q)) where
      by : (b : Bool) → bytes_eq n text ≡ b → Stands numbers place (line_among names numbers last text 1)
          → Stands (l ∷ numbers) (suc place) (if b then line_among names numbers last text 0 else line_among names numbers last text 1)
      by true e rest = absurd (first 0 (suc before) text (omega arith) low (ap Some (same_of n text e)) stood)
      by false e rest = rest
