-- Bits of ranges, and where they stand.
use Rattle.std.proofs.Common.{◌≡◌, ℕ, zero, suc, ◌+◌, ◌-◌, ◌<◌, ◌≤◌, Bool, true, false, cond, eqb, ◌&&◌, List, [], ◌∷◌, map, length, Option, Some, None, refl, sym, ap, subst, ◌∙◌, arith}
use Rattle.std.specs.List.{slice_get}
use Rattle.std.specs.Cmp.Lexicographic.{bytes_decides}
use Rattle.std.proofs.lemmas.Bool.Decides.{nat_tests}
use Rattle.vlsi_base.specs.declared.name.Name.{Name}
use Rattle.vlsi_base.specs.declared.range.Range.{Range}
use Rattle.machine_core.specs.Named.{is_same_name}
use Rattle.vlsi_base.specs.Range.{rising, falling, range_bits}
use Rattle.source_checks.specs.Symbols.{bit_name, names_in}
use Rattle.source_checks.specs.Formula.{place}
use Rattle.source_bits.specs.declared.ranges.Declared.{Declared}
use Rattle.source_bits.specs.Numbering.{named_bit, IsOffset, LiesWithin}
use Rattle.vlsi_base.proofs.Ranges.{length_of_range}
use Rattle.std.proofs.lemmas.List.{length-map}

pub coded : (text : List ℕ) (ks : List ℕ) → map (named_bit text) (map (λ (k : ℕ). Some k) ks) ≡ map (bit_name text) ks
coded text [] = refl
coded text (k ∷ ks) = ap (λ (ns : List Name). bit_name text k ∷ ns) (coded text ks)

same_bits : (text : List ℕ) (j k : ℕ) → is_same_name (bit_name text j) (bit_name text k) ≡ eqb j k
same_bits text j k = ap (λ b. b && eqb j k) ((bytes_decides text text).1 refl)

found : (j k : ℕ) → j ≡ k → eqb j k ≡ true
found j k e = grind (arith, nat_tests)

passed : (j k : ℕ) → (j ≡ k → ⊥) → eqb j k ≡ false
passed j k e = grind (arith, nat_tests)

first_here : (text : List ℕ) (j k : ℕ) (rest : List Name) → j ≡ k → place (bit_name text j ∷ rest) (bit_name text k) ≡ 0
first_here text j k rest e = ap (λ b. cond b 0 (place rest (bit_name text k) + 1)) (same_bits text j k ∙ found j k e)

not_here : (text : List ℕ) (j k : ℕ) (rest : List Name) → (j ≡ k → ⊥) → place (bit_name text j ∷ rest) (bit_name text k) ≡ place rest (bit_name text k) + 1
not_here text j k rest e = ap (λ b. cond b 0 (place rest (bit_name text k) + 1)) (same_bits text j k ∙ passed j k e)

is_or_not : (j k : ℕ) (P : Type 0) → (j ≡ k → P) → ((j ≡ k → ⊥) → P) → P
is_or_not j k P same_one other = by (eqb j k) refl where
  by : (b : Bool) → eqb j k ≡ b → P
  by true e = let same : j ≡ k = grind (arith, nat_tests) in same_one same
  by false e = let apart : j ≡ k → ⊥ = λ h. let t : eqb j k ≡ true = found j k h in absurd cc in other apart

pub place_falling : (text : List ℕ) (low n k : ℕ) → low ≤ k → k < low + n → place (map (bit_name text) (falling low n)) (bit_name text k) ≡ low + n - 1 - k
place_falling text low zero k over under = absurd (omega arith)
place_falling text low (suc n) k over under =
    let rest = map (bit_name text) (falling low n) in
    is_or_not (low + n) k (place (bit_name text (low + n) ∷ rest) (bit_name text k) ≡ low + suc n - 1 - k)
    (λ e. first_here text (low + n) k rest e ∙ omega arith)
    (λ e. let under' : k < low + n = omega arith in not_here text (low + n) k rest e ∙ omega (arith, place_falling text low n k over under'))

pub none_falling : (text : List ℕ) (low n k : ℕ) → (low ≤ k → k < low + n → ⊥) → place (map (bit_name text) (falling low n)) (bit_name text k) ≡ n
none_falling text low zero k out = refl
none_falling text low (suc n) k out =
    let rest = map (bit_name text) (falling low n) in
    not_here text (low + n) k rest (λ e. out (omega arith) (omega arith)) ∙ omega (arith, none_falling text low n k (λ p q. out p (omega arith)))

pub place_rising : (text : List ℕ) (low n k : ℕ) → low ≤ k → k < low + n → place (map (bit_name text) (rising low n)) (bit_name text k) ≡ k - low
place_rising text low zero k over under = absurd (omega arith)
place_rising text low (suc n) k over under =
    let rest = map (bit_name text) (rising (low + 1) n) in
    is_or_not low k (place (bit_name text low ∷ rest) (bit_name text k) ≡ k - low)
    (λ e. first_here text low k rest e ∙ omega arith)
    (λ e. let over' : low + 1 ≤ k = omega arith in let under' : k < low + 1 + n = omega arith in not_here text low k rest e ∙ omega (arith, place_rising text (low + 1) n k over' under'))

pub none_rising : (text : List ℕ) (low n k : ℕ) → (low ≤ k → k < low + n → ⊥) → place (map (bit_name text) (rising low n)) (bit_name text k) ≡ n
none_rising text low zero k out = refl
none_rising text low (suc n) k out =
    let rest = map (bit_name text) (rising (low + 1) n) in
    not_here text low k rest (λ e. out (omega arith) (omega arith)) ∙ omega (arith, none_rising text (low + 1) n k (λ p q. out (omega arith) (omega arith)))

pub no_bit : (text : List ℕ) (ks : List ℕ) → place (map (bit_name text) ks) (named_bit text None) ≡ length (map (bit_name text) ks)
no_bit text [] = refl
no_bit text (k ∷ ks) = ap (λ b. cond (b && false) 0 (place (map (bit_name text) ks) (named_bit text None) + 1)) ((bytes_decides text text).1 refl) ∙ omega (arith, no_bit text ks)

pub at_falling : (text : List ℕ) (low n k : ℕ) → k < n → slice_get (map (bit_name text) (falling low n)) k ≡ Some (bit_name text (low + n - 1 - k))
at_falling text low zero k under = absurd (omega arith)
at_falling text low (suc n) zero under = let e : low + n ≡ low + suc n - 1 - 0 = omega arith in ap (λ j. Some (bit_name text j)) e
at_falling text low (suc n) (suc k) under = let e : low + n - 1 - k ≡ low + suc n - 1 - suc k = omega arith in at_falling text low n k (omega arith) ∙ ap (λ j. Some (bit_name text j)) e

pub at_rising : (text : List ℕ) (low n k : ℕ) → k < n → slice_get (map (bit_name text) (rising low n)) k ≡ Some (bit_name text (low + k))
at_rising text low zero k under = absurd (omega arith)
at_rising text low (suc n) zero under = let e : low ≡ low + 0 = omega arith in ap (λ j. Some (bit_name text j)) e
at_rising text low (suc n) (suc k) under = let e : low + 1 + k ≡ low + suc k = omega arith in at_rising text (low + 1) n k (omega arith) ∙ ap (λ j. Some (bit_name text j)) e

abbrev pub count_of : Range → ℕ
count_of r = cond r.falls (r.left + 1 - r.right) (r.right + 1 - r.left)

-- the names of a vector
pub names_fall : (text : List ℕ) (r : Range) → r.falls ≡ true → names_in text (Some r) ≡ map (bit_name text) (falling r.right (r.left + 1 - r.right))
names_fall text r e = ap (λ b. map (bit_name text) (cond b (falling r.right (r.left + 1 - r.right)) (rising r.left (r.right + 1 - r.left)))) e

pub names_rise : (text : List ℕ) (r : Range) → r.falls ≡ false → names_in text (Some r) ≡ map (bit_name text) (rising r.left (r.right + 1 - r.left))
names_rise text r e = ap (λ b. map (bit_name text) (cond b (falling r.right (r.left + 1 - r.right)) (rising r.left (r.right + 1 - r.left)))) e

pub count_falls : (text : List ℕ) (r : Range) → r.falls ≡ true → length (names_in text (Some r)) ≡ r.left + 1 - r.right
count_falls text r e = length-map (range_bits r) (bit_name text) ∙ length_of_range r ∙ ap (λ b. cond b (r.left + 1 - r.right) (r.right + 1 - r.left)) e

pub count_rises : (text : List ℕ) (r : Range) → r.falls ≡ false → length (names_in text (Some r)) ≡ r.right + 1 - r.left
count_rises text r e = length-map (range_bits r) (bit_name text) ∙ length_of_range r ∙ ap (λ b. cond b (r.left + 1 - r.right) (r.right + 1 - r.left)) e

pub falls_in : (text : List ℕ) (r : Range) (k : ℕ) → r.falls ≡ true → r.right ≤ k → k ≤ r.left → IsOffset (names_in text (Some r)) (named_bit text (Some k)) (Some (r.left - k))
falls_in text r k e over under =
    let n = r.left + 1 - r.right in
    let below : k < r.right + n = omega arith in
    let there : r.right + n - 1 - k ≡ r.left - k = omega arith in
    (ap (λ (names : List Name). place names (bit_name text k)) (names_fall text r e) ∙ place_falling text r.right n k over below ∙ there, omega (arith, count_falls text r e))

pub falls_out : (text : List ℕ) (r : Range) (k : ℕ) → r.falls ≡ true → (r.right ≤ k → k ≤ r.left → ⊥) → IsOffset (names_in text (Some r)) (named_bit text (Some k)) None
falls_out text r k e out =
    let n = r.left + 1 - r.right in
    ap (λ (names : List Name). place names (bit_name text k)) (names_fall text r e) ∙ none_falling text r.right n k (λ p q. out p (omega arith)) ∙ sym (count_falls text r e)

pub rises_in : (text : List ℕ) (r : Range) (k : ℕ) → r.falls ≡ false → r.left ≤ k → k ≤ r.right → IsOffset (names_in text (Some r)) (named_bit text (Some k)) (Some (k - r.left))
rises_in text r k e over under =
    let n = r.right + 1 - r.left in
    let below : k < r.left + n = omega arith in
    (ap (λ (names : List Name). place names (bit_name text k)) (names_rise text r e) ∙ place_rising text r.left n k over below, omega (arith, count_rises text r e))

pub rises_out : (text : List ℕ) (r : Range) (k : ℕ) → r.falls ≡ false → (r.left ≤ k → k ≤ r.right → ⊥) → IsOffset (names_in text (Some r)) (named_bit text (Some k)) None
rises_out text r k e out =
    let n = r.right + 1 - r.left in
    ap (λ (names : List Name). place names (bit_name text k)) (names_rise text r e) ∙ none_rising text r.left n k (λ p q. out p (omega arith)) ∙ sym (count_rises text r e)

pub moved : (text : List ℕ) (o : Option Range) (b : Option ℕ) (r : Range) (k : ℕ) (made : Option ℕ) → o ≡ Some r → b ≡ Some k → IsOffset (names_in text (Some r)) (named_bit text (Some k)) made → IsOffset (names_in text o) (named_bit text b) made
moved text o b r k made at_range at_bit h =
    let first = subst (λ (x : Option Range). IsOffset (names_in text x) (named_bit text (Some k)) made) (sym at_range) h in
    subst (λ (x : Option ℕ). IsOffset (names_in text o) (named_bit text x) made) (sym at_bit) first

pub bitless : (text : List ℕ) (o : Option Range) (b : Option ℕ) (r : Range) → o ≡ Some r → b ≡ None → IsOffset (names_in text o) (named_bit text b) None
bitless text o b r at_range at_bit =
    let first = subst (λ (x : Option Range). IsOffset (names_in text x) (named_bit text None) None) (sym at_range) (no_bit text (range_bits r)) in
    subst (λ (x : Option ℕ). IsOffset (names_in text o) (named_bit text x) None) (sym at_bit) first

pub first_and_offset : (total k : ℕ) (o : Option Declared) (d : Declared) (b : Option ℕ) (made : Option ℕ) → LiesWithin total o → o ≡ Some d → ((text : List ℕ) → IsOffset (names_in text d.range) (named_bit text b) made) → made ≡ Some k → d.first + k ≤ total
first_and_offset total k o d b made within at here is =
    let lies = subst (LiesWithin total) at within in
    let offset = subst (IsOffset (names_in [] d.range) (named_bit [] b)) is (here []) in
    omega (arith, lies [], offset.1)

pub nth_falls : (text : List ℕ) (o : Option Range) (r : Range) (k : ℕ) → o ≡ Some r → r.falls ≡ true → k < length (names_in [] o) → (k ≤ r.left) × (slice_get (names_in text o) k ≡ Some (named_bit text (Some (r.left - k))))
nth_falls text o r k at e within =
    let below : k < length (names_in [] (Some r)) = subst (λ (x : Option Range). k < length (names_in [] x)) at within in
    let n = r.left + 1 - r.right in
    let few : k < n = omega (arith, count_falls [] r e) in
    let there : r.right + n - 1 - k ≡ r.left - k = omega arith in
    (omega arith, ap (λ (x : Option Range). slice_get (names_in text x) k) at ∙ ap (λ (names : List Name). slice_get names k) (names_fall text r e) ∙ at_falling text r.right n k few ∙ ap (λ j. Some (bit_name text j)) there)

pub nth_rises : (text : List ℕ) (o : Option Range) (r : Range) (k : ℕ) → o ≡ Some r → r.falls ≡ false → k < length (names_in [] o) → (r.left + k ≤ r.right) × (slice_get (names_in text o) k ≡ Some (named_bit text (Some (r.left + k))))
nth_rises text o r k at e within =
    let below : k < length (names_in [] (Some r)) = subst (λ (x : Option Range). k < length (names_in [] x)) at within in
    let n = r.right + 1 - r.left in
    let few : k < n = omega (arith, count_rises [] r e) in
    (omega arith, ap (λ (x : Option Range). slice_get (names_in text x) k) at ∙ ap (λ (names : List Name). slice_get names k) (names_rise text r e) ∙ at_rising text r.left n k few)

-- turns of the loops
