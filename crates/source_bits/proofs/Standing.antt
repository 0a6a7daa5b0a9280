-- Where names stand among those of all symbols.
use Rattle.std.proofs.Common.{◌≡◌, ℕ, zero, suc, ◌+◌, ◌-◌, ◌<◌, ◌≤◌, Bool, true, false, cond, ltb, ◌&&◌, List, [], ◌∷◌, ◌++◌, map, length, get_or, Option, Some, None, bytes_eq, refl, sym, ap, subst, ◌∙◌, arith}
use Rattle.std.specs.Prelude.{option_map}
use Rattle.std.specs.List.{slice_get}
use Rattle.std.specs.Cmp.Lexicographic.{bytes_decides}
use Rattle.std.proofs.lemmas.Bool.Decides.{nat_tests}
use Rattle.std.proofs.lemmas.List.{length-append}
use Rattle.vlsi_base.specs.declared.name.Name.{Name}
use Rattle.vlsi_base.specs.declared.range.Range.{Range}
use Rattle.machine_core.specs.Named.{is_same_text, is_same_name, is_same_bit}
use Rattle.machine_core.specs.Order.{In, here, there, AllDifferent}
use Rattle.source_checks.specs.declared.symbol_table.Symbol.{Symbol}
use Rattle.vlsi_base.specs.Range.{range_bits}
use Rattle.source_checks.specs.Symbols.{symbol_names, all_names, bit_name, names_in}
use Rattle.source_checks.specs.Formula.{place}
use Rattle.source_checks.specs.Known.{position_of}
use Rattle.source_checks.proofs.Lookups.{same_of, itself}
use Rattle.source_checks.proofs.Knowing.{not_behind}
use Rattle.source_bits.specs.declared.ranges.Declared.{Declared}
use Rattle.source_bits.specs.Numbering.{named_bit, starts_from, Begins, LiesWithin, number_in}

place_front : (xs ys : List Name) (n : Name) → place xs n < length xs → place (xs ++ ys) n ≡ place xs n
place_front [] ys n h = absurd (omega arith)
place_front (x ∷ xs) ys n h = by (place_front xs ys n) (is_same_name x n) h where
  by : (place xs n < length xs → place (xs ++ ys) n ≡ place xs n) → (b : Bool) → cond b 0 (place xs n + 1) < length (x ∷ xs) → cond b 0 (place (xs ++ ys) n + 1) ≡ cond b 0 (place xs n + 1)
  by rest true h = refl
  by rest false h = ap (λ k. k + 1) (rest (omega arith))

place_behind : (xs ys : List Name) (n : Name) → place xs n ≡ length xs → place (xs ++ ys) n ≡ length xs + place ys n
place_behind [] ys n h = omega arith
place_behind (x ∷ xs) ys n h = by (place_behind xs ys n) (is_same_name x n) h where
  by : (place xs n ≡ length xs → place (xs ++ ys) n ≡ length xs + place ys n) → (b : Bool) → cond b 0 (place xs n + 1) ≡ length (x ∷ xs) → cond b 0 (place (xs ++ ys) n + 1) ≡ length (x ∷ xs) + place ys n
  by rest true h = absurd (omega arith)
  by rest false h = omega (arith, rest (omega arith))

differs : (t text : List ℕ) → (t ≡ text → ⊥) → is_same_text t text ≡ false
differs t text apart = by (is_same_text t text) refl where
  by : (b : Bool) → is_same_text t text ≡ b → b ≡ false
  by true e = absurd (apart ((bytes_decides t text).0 e))
  by false e = refl

elsewhere : (t text : List ℕ) (bit : Option ℕ) (range : Option Range) → (t ≡ text → ⊥) → place (names_in t range) (named_bit text bit) ≡ length (names_in t range)
elsewhere t text bit None apart = ap (λ b. cond (b && is_same_bit None bit) 0 (0 + 1)) (differs t text apart)
elsewhere t text bit (Some r) apart = by (range_bits r) where
  by : (ks : List ℕ) → place (map (bit_name t) ks) (named_bit text bit) ≡ length (map (bit_name t) ks)
  by [] = refl
  by (k ∷ ks) = ap (λ b. cond (b && is_same_bit (Some k) bit) 0 (place (map (bit_name t) ks) (named_bit text bit) + 1)) (differs t text apart) ∙ omega (arith, by ks)

abbrev pub texts : List Symbol → List (List ℕ)
texts known = map (λ (s : Symbol). s.text) known

none_among : (known : List Symbol) (text : List ℕ) (bit : Option ℕ) → (In text (texts known) → ⊥) → place (all_names known) (named_bit text bit) ≡ length (all_names known)
none_among [] text bit out = refl
none_among (s ∷ rest) text bit out =
    place_behind (symbol_names s) (all_names rest) (named_bit text bit) (elsewhere s.text text bit s.range (λ e. out (subst (λ (x : List ℕ). In x (texts (s ∷ rest))) e here)))
    ∙ ap (λ k. length (symbol_names s) + k) (none_among rest text bit (λ h. out (there h))) ∙ sym (length-append (symbol_names s) (all_names rest))

-- a name whose text is that of the symbol at a place, among all names that are numbered from base on
pub record Stands (known : List Symbol) (base : ℕ) (n : Name) (i : ℕ) (d : Symbol) : Type 0 where
  pub inside : i < length known
  pub found : place (names_in n.text d.range) n < length (names_in n.text d.range) → base + place (all_names known) n ≡ get_or (starts_from base known) i 0 + place (names_in n.text d.range) n
  pub absent : place (names_in n.text d.range) n ≡ length (names_in n.text d.range) → place (all_names known) n ≡ length (all_names known)
  pub fits : (text : List ℕ) → get_or (starts_from base known) i 0 + length (names_in text d.range) ≤ base + length (all_names known)

pub same_count : (text other : List ℕ) (range : Option Range) → length (names_in text range) ≡ length (names_in other range)
same_count text other None = refl
same_count text other (Some r) = by (range_bits r) where
  by : (ks : List ℕ) → length (map (bit_name text) ks) ≡ length (map (bit_name other) ks)
  by [] = refl
  by (k ∷ ks) = omega (arith, by ks)

stands_first : (s : Symbol) (rest : List Symbol) (base : ℕ) (text : List ℕ) (bit : Option ℕ) → AllDifferent (texts (s ∷ rest)) → s.text ≡ text → Stands (s ∷ rest) base (named_bit text bit) 0 s
stands_first s rest base text bit different same =
    let n = named_bit text bit in
    let own : symbol_names s ≡ names_in text s.range = ap (λ (t : List ℕ). names_in t s.range) same in
    let out : In text (texts rest) → ⊥ = λ h. different.0 (subst (λ (t : List ℕ). In t (texts rest)) (sym same) h) in
    record {
      inside = omega arith;
      found = λ h.
          let h' : place (symbol_names s) n < length (symbol_names s) = subst (λ (names : List Name). place names n < length names) (sym own) h in
          omega (arith, place_front (symbol_names s) (all_names rest) n h', ap (λ (names : List Name). place names n) own);
      absent = λ h.
          let h' : place (symbol_names s) n ≡ length (symbol_names s) = subst (λ (names : List Name). place names n ≡ length names) (sym own) h in
          omega (arith, place_behind (symbol_names s) (all_names rest) n h', none_among rest text bit out, length-append (symbol_names s) (all_names rest));
      fits = λ t. omega (arith, same_count t s.text s.range, length-append (symbol_names s) (all_names rest));
    }

stands_later : (s : Symbol) (rest : List Symbol) (base : ℕ) (text : List ℕ) (bit : Option ℕ) (j : ℕ) (d : Symbol) → (s.text ≡ text → ⊥) → Stands rest (base + length (symbol_names s)) (named_bit text bit) j d → Stands (s ∷ rest) base (named_bit text bit) (suc j) d
stands_later s rest base text bit j d apart stands =
    let n = named_bit text bit in
    let before : place (symbol_names s ++ all_names rest) n ≡ length (symbol_names s) + place (all_names rest) n = place_behind (symbol_names s) (all_names rest) n (elsewhere s.text text bit s.range apart) in
    record {
      inside = omega (arith, stands.inside);
      found = λ h. omega (arith, before, stands.found h);
      absent = λ h. omega (arith, before, stands.absent h, length-append (symbol_names s) (all_names rest));
      fits = λ t. omega (arith, stands.fits t, length-append (symbol_names s) (all_names rest));
    }

apart_of : (a b : List ℕ) → bytes_eq a b ≡ false → a ≡ b → ⊥
apart_of a b e same = let h : bytes_eq a b ≡ true = itself_of a b same in absurd cc where
  itself_of : (a b : List ℕ) → a ≡ b → bytes_eq a b ≡ true
  itself_of a b same = subst (λ (x : List ℕ). bytes_eq a x ≡ true) same (itself a)

pub stands_at : (known : List Symbol) (base : ℕ) (text : List ℕ) (bit : Option ℕ) (i : ℕ) (d : Symbol) → AllDifferent (texts known) → position_of known text ≡ Some i → d ≡ get_or known i d → Stands known base (named_bit text bit) i d
stands_at [] base text bit i d different at is = absurd cc
stands_at (s ∷ rest) base text bit i d different at is = by (λ j d' at' is'. stands_at rest (base + length (symbol_names s)) text bit j d' different.1 at' is') (bytes_eq s.text text) refl at where
  first : 0 ≡ i → s.text ≡ text → Stands (s ∷ rest) base (named_bit text bit) i d
  first zeroth same =
      let own : d ≡ s = subst (λ (k : ℕ). d ≡ get_or (s ∷ rest) k d) (sym zeroth) is in
      subst (λ (k : ℕ). Stands (s ∷ rest) base (named_bit text bit) k d) zeroth (subst (λ (x : Symbol). Stands (s ∷ rest) base (named_bit text bit) 0 x) (sym own) (stands_first s rest base text bit different same))

  later : ((j : ℕ) (d' : Symbol) → position_of rest text ≡ Some j → d' ≡ get_or rest j d' → Stands rest (base + length (symbol_names s)) (named_bit text bit) j d') → (s.text ≡ text → ⊥) → (o : Option ℕ) → position_of rest text ≡ o → option_map suc o ≡ Some i → Stands (s ∷ rest) base (named_bit text bit) i d
  later below apart None at' e = absurd cc
  later below apart (Some j) at' e =
      let next : suc j ≡ i = cc in
      let is' : d ≡ get_or rest j d = subst (λ (k : ℕ). d ≡ get_or (s ∷ rest) k d) (sym next) is in
      subst (λ (k : ℕ). Stands (s ∷ rest) base (named_bit text bit) k d) next (stands_later s rest base text bit j d apart (below j d at' is'))

  by : ((j : ℕ) (d' : Symbol) → position_of rest text ≡ Some j → d' ≡ get_or rest j d' → Stands rest (base + length (symbol_names s)) (named_bit text bit) j d') → (b : Bool) → bytes_eq s.text text ≡ b → cond b (Some 0) (option_map suc (position_of rest text)) ≡ Some i → Stands (s ∷ rest) base (named_bit text bit) i d
  by below true e at = let zeroth : 0 ≡ i = cc in first zeroth (same_of s.text text e)
  by below false e at = later below (apart_of s.text text e) (position_of rest text) refl at

pub stands_nowhere : (known : List Symbol) (text : List ℕ) (bit : Option ℕ) → position_of known text ≡ None → place (all_names known) (named_bit text bit) ≡ length (all_names known)
stands_nowhere [] text bit at = refl
stands_nowhere (s ∷ rest) text bit at = by (stands_nowhere rest text bit) (bytes_eq s.text text) refl at where
  by : (position_of rest text ≡ None → place (all_names rest) (named_bit text bit) ≡ length (all_names rest)) → (b : Bool) → bytes_eq s.text text ≡ b → cond b (Some 0) (option_map suc (position_of rest text)) ≡ None
      → place (symbol_names s ++ all_names rest) (named_bit text bit) ≡ length (symbol_names s ++ all_names rest)
  by rest_says true e at = absurd cc
  by rest_says false e at =
      omega (arith, place_behind (symbol_names s) (all_names rest) (named_bit text bit) (elsewhere s.text text bit s.range (apart_of s.text text e)), rest_says (not_behind (position_of rest text) at), length-append (symbol_names s) (all_names rest))

below_test : (m n : ℕ) → m < n → ltb m n ≡ true
below_test m n h = grind (arith, nat_tests)

above_test : (m n : ℕ) → (m < n → ⊥) → ltb m n ≡ false
above_test m n h = grind (arith, nat_tests)

place_within : (xs : List Name) (n : Name) → place xs n ≤ length xs
place_within [] n = omega arith
place_within (x ∷ xs) n = by (place_within xs n) (is_same_name x n) where
  by : place xs n ≤ length xs → (b : Bool) → cond b 0 (place xs n + 1) ≤ length (x ∷ xs)
  by rest true = omega arith
  by rest false = omega arith

-- the number by the symbol at the place of a text
pub number_at : (known : List Symbol) (text : List ℕ) (bit : Option ℕ) (i : ℕ) (d : Symbol) (declared : Declared) → AllDifferent (texts known) → position_of known text ≡ Some i → d ≡ get_or known i d
    → declared.first ≡ get_or (starts_from 0 known) i 0 → declared.range ≡ d.range → number_in (length (all_names known)) (Some declared) (named_bit text bit) ≡ place (all_names known) (named_bit text bit)
number_at known text bit i d declared different at is first range =
    by (ltb (place names n) (length names)) refl where
      n : Name
      n = named_bit text bit

      names : List Name
      names = names_in text declared.range

      stands : Stands known 0 n i d
      stands = stands_at known 0 text bit i d different at is

      own : names ≡ names_in text d.range
      own = ap (names_in text) range

      by : (b : Bool) → ltb (place names n) (length names) ≡ b → cond b (declared.first + place names n) (length (all_names known)) ≡ place (all_names known) n
      by true e =
          let h : place names n < length names = grind (arith, nat_tests) in
          let h' : place (names_in text d.range) n < length (names_in text d.range) = subst (λ (x : List Name). place x n < length x) own h in
          omega (arith, first, stands.found h', ap (λ (x : List Name). place x n) own)
      by false e =
          let h : length names ≤ place names n = grind (arith, nat_tests) in
          let h' : place names n ≡ length names = omega (arith, h, place_within names n) in
          sym (stands.absent (subst (λ (x : List Name). place x n ≡ length x) own h'))

pub lies_within : (known : List Symbol) (text : List ℕ) (i : ℕ) (d : Symbol) (declared : Declared) → AllDifferent (texts known) → position_of known text ≡ Some i → d ≡ get_or known i d
    → declared.first ≡ get_or (starts_from 0 known) i 0 → declared.range ≡ d.range → LiesWithin (length (all_names known)) (Some declared)
lies_within known text i d declared different at is first range =
    λ t. let stands = stands_at known 0 text None i d different at is in omega (arith, first, stands.fits t, ap (λ (r : Option Range). length (names_in t r)) range)

pub length_starts : (base : ℕ) (known : List Symbol) → length (starts_from base known) ≡ length known
length_starts base [] = refl
length_starts base (s ∷ rest) = omega (arith, length_starts (base + length (symbol_names s)) rest)

starts_over : (base : ℕ) (known : List Symbol) (i : ℕ) → i < length known → base ≤ get_or (starts_from base known) i 0
starts_over base [] i h = absurd (omega arith)
starts_over base (s ∷ rest) zero h = omega arith
starts_over base (s ∷ rest) (suc i) h = omega (arith, starts_over (base + length (symbol_names s)) rest i (omega arith))

get_front : (xs ys : List Name) (k : ℕ) → k < length xs → slice_get (xs ++ ys) k ≡ slice_get xs k
get_front [] ys k h = absurd (omega arith)
get_front (x ∷ xs) ys zero h = refl
get_front (x ∷ xs) ys (suc k) h = get_front xs ys k (omega arith)

get_behind : (xs ys : List Name) (k : ℕ) → slice_get (xs ++ ys) (length xs + k) ≡ slice_get ys k
get_behind [] ys k = let e : 0 + k ≡ k = omega arith in ap (slice_get ys) e
get_behind (x ∷ xs) ys k = let e : length (x ∷ xs) + k ≡ suc (length xs + k) = omega arith in ap (slice_get (x ∷ (xs ++ ys))) e ∙ get_behind xs ys k

-- the name with a number, where the bits of the symbol at a place begin last below it
pub record Nth (known : List Symbol) (base number i : ℕ) (d : Symbol) : Type 0 where
  pub inside : number - get_or (starts_from base known) i 0 < length (symbol_names d)
  pub there_is : slice_get (all_names known) (number - base) ≡ slice_get (symbol_names d) (number - get_or (starts_from base known) i 0)

pub nth_name : (known : List Symbol) (base number i : ℕ) (d : Symbol) → Begins (starts_from base known) number i → number < base + length (all_names known) → d ≡ get_or known i d → Nth known base number i d
nth_name [] base number i d begins within is = absurd (omega (arith, begins.inside))
nth_name (s ∷ rest) base number zero d begins within is =
    let few : number - base < length (symbol_names s) = by rest begins.above within in
    subst (λ (x : Symbol). Nth (s ∷ rest) base number 0 x) (sym is) (record { inside = few; there_is = get_front (symbol_names s) (all_names rest) (number - base) few }) where
      by : (rest : List Symbol) → (0 + 1 < length (starts_from base (s ∷ rest)) → number < get_or (starts_from base (s ∷ rest)) (0 + 1) 0) → number < base + length (all_names (s ∷ rest)) → number - base < length (symbol_names s)
      by [] above within = omega (arith, begins.below, length-append (symbol_names s) [])
      by (s' ∷ rest) above within = omega (arith, begins.below, above (omega arith))
nth_name (s ∷ rest) base number (suc i) d begins within is =
    let next = base + length (symbol_names s) in
    let inside : i < length (starts_from next rest) = omega (arith, begins.inside) in
    let over : next ≤ get_or (starts_from next rest) i 0 = starts_over next rest i (omega (arith, inside, length_starts next rest)) in
    let above : i + 1 < length (starts_from next rest) → number < get_or (starts_from next rest) (i + 1) 0 = λ h. let e : suc i + 1 ≡ suc (i + 1) = omega arith in subst (λ (k : ℕ). number < get_or (starts_from base (s ∷ rest)) k 0) e (begins.above (omega arith)) in
    let later = nth_name rest next number i d (record { inside = inside; below = begins.below; above = above }) (omega (arith, within, length-append (symbol_names s) (all_names rest))) is in
    let split : number - base ≡ length (symbol_names s) + (number - next) = omega (arith, over, begins.below) in
    record {
      inside = later.inside;
      there_is = ap (slice_get (symbol_names s ++ all_names rest)) split ∙ get_behind (symbol_names s) (all_names rest) (number - next) ∙ later.there_is;
    }

other_default : (xs : List ℕ) (i a b : ℕ) → i < length xs → get_or xs i a ≡ get_or xs i b
other_default [] i a b h = absurd (omega arith)
other_default (x ∷ xs) zero a b h = refl
other_default (x ∷ xs) (suc i) a b h = other_default xs i a b (omega arith)

pub first_at : (starts : List ℕ) (known : List Symbol) (i x : ℕ) → starts ≡ starts_from 0 known → i < length known → x ≡ get_or starts i x → x ≡ get_or (starts_from 0 known) i 0
first_at starts known i x are inside is =
    is ∙ ap (λ (s : List ℕ). get_or s i x) are ∙ other_default (starts_from 0 known) i x 0 (omega (arith, length_starts 0 known))

pub some_known : (known : List Symbol) (k : ℕ) → k < length (all_names known) → 0 < length known
some_known [] k h = absurd (omega arith)
some_known (s ∷ rest) k h = omega arith

pub first_zero : (known : List Symbol) → get_or (starts_from 0 known) 0 0 ≡ 0
first_zero [] = refl
first_zero (s ∷ rest) = refl
