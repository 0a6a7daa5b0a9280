-- A target's range without bits that aren't declared, of which none is counted.
use Rattle.std.proofs.Common.{◌≡◌, ℕ, zero, suc, ◌+◌, ◌-◌, ◌<◌, ◌≤◌, nat_le, Bool, true, false, cond, ◌&&◌, ◌||◌, List, [], ◌∷◌, ◌++◌, map, length, Option, None, Some, bytes_eq, refl, sym, ap, subst, ◌∙◌, arith}
use Rattle.std.specs.Prelude.{filter, min, max}
use Rattle.std.proofs.lemmas.List.{length-append, length-map}
use Rattle.std.proofs.lemmas.Bool.Decides.{nat_tests}
use Rattle.vlsi_base.specs.Member.{In, here, there, AllDifferent}
use Rattle.vlsi_base.specs.declared.name.Name.{Name}
use Rattle.vlsi_base.specs.declared.range.Range.{Range}
use Rattle.vlsi_base.specs.Range.{rising, falling, range_bits, range_width}
use Rattle.vlsi_base.proofs.Ranges.{length_of_range}
use Rattle.machine_core.specs.Named.{is_same_bit}
use Rattle.source_checks.specs.declared.statement.Target.{Target}
use Rattle.source_checks.specs.declared.statement.Selection.{Selection}
use Rattle.source_checks.specs.declared.statement.Selection.TheVariants as selection
use Rattle.source_checks.specs.declared.symbol_table.Symbol.{Symbol}
use Rattle.source_checks.specs.Symbols.{all_names, symbol_names, names_in, bit_name, find, has_bit}
use Rattle.source_checks.specs.Formula.{place, names_of_found}
use Rattle.source_checks.specs.Drivers.{is_among, target_names}
use Rattle.source_checks.proofs.Lookups.{itself, same_of}
use Rattle.source_checks.proofs.Names.{is_among-append}
use Rattle.source_bits.proofs.Ranging.{falls_out, rises_out}
use Rattle.fsm_text.specs.Chains.{counted_bits, range_found}
use Rattle.fsm_text.proofs.Tally.{texts, not_counted}

-- ---- what is kept of a range

-- none is kept
none_rising : (Q : ℕ → Bool) (a n : ℕ) → ((k : ℕ) → a ≤ k → k < a + n → Q k ≡ false) → filter Q (rising a n) ≡ []
none_rising Q a zero out = refl
none_rising Q a (suc n) out =
    ap (λ b. cond b (a ∷ filter Q (rising (a + 1) n)) (filter Q (rising (a + 1) n))) (out a (omega arith) (omega arith)) ∙ none_rising Q (a + 1) n (λ k p q. out k (omega arith) (omega arith))

-- the first m are left out
rising_front : (Q : ℕ → Bool) (a m n c : ℕ) → c ≡ m + n → ((k : ℕ) → a ≤ k → k < a + m → Q k ≡ false) → filter Q (rising a c) ≡ filter Q (rising (a + m) n)
rising_front Q a zero n c e out = let same : c ≡ n = omega (arith, e) in let first : a ≡ a + 0 = omega arith in ap (λ j. filter Q (rising a j)) same ∙ ap (λ j. filter Q (rising j n)) first
rising_front Q a (suc m) n zero e out = absurd (omega (arith, e))
rising_front Q a (suc m) n (suc c) e out =
    let next : a + 1 + m ≡ a + suc m = omega arith in
    ap (λ b. cond b (a ∷ filter Q (rising (a + 1) c)) (filter Q (rising (a + 1) c))) (out a (omega arith) (omega arith))
    ∙ rising_front Q (a + 1) m n c (omega (arith, e)) (λ k p q. out k (omega arith) (omega arith)) ∙ ap (λ j. filter Q (rising j n)) next

-- those behind the first m are
rising_back : (Q : ℕ → Bool) (a m c : ℕ) → m ≤ c → ((k : ℕ) → a + m ≤ k → k < a + c → Q k ≡ false) → filter Q (rising a c) ≡ filter Q (rising a m)
rising_back Q a zero c h out = none_rising Q a c (λ k p q. out k (omega arith) q)
rising_back Q a (suc m) zero h out = absurd (omega arith)
rising_back Q a (suc m) (suc c) h out =
    ap (λ (ks : List ℕ). cond (Q a) (a ∷ ks) ks) (rising_back Q (a + 1) m c (omega arith) (λ k p q. out k (omega arith) (omega arith)))

none_falling : (Q : ℕ → Bool) (a n : ℕ) → ((k : ℕ) → a ≤ k → k < a + n → Q k ≡ false) → filter Q (falling a n) ≡ []
none_falling Q a zero out = refl
none_falling Q a (suc n) out =
    ap (λ b. cond b ((a + n) ∷ filter Q (falling a n)) (filter Q (falling a n))) (out (a + n) (omega arith) (omega arith)) ∙ none_falling Q a n (λ k p q. out k p (omega arith))

-- the first n, down to the last m
falling_front : (Q : ℕ → Bool) (a m n c : ℕ) → c ≡ n + m → ((k : ℕ) → a + m ≤ k → k < a + c → Q k ≡ false) → filter Q (falling a c) ≡ filter Q (falling a m)
falling_front Q a m zero c e out = let same : c ≡ m = omega (arith, e) in ap (λ j. filter Q (falling a j)) same
falling_front Q a m (suc n) zero e out = absurd (omega (arith, e))
falling_front Q a m (suc n) (suc c) e out =
    ap (λ b. cond b ((a + c) ∷ filter Q (falling a c)) (filter Q (falling a c))) (out (a + c) (omega (arith, e)) (omega arith))
    ∙ falling_front Q a m n c (omega (arith, e)) (λ k p q. out k p (omega arith))

-- the last m
falling_back : (Q : ℕ → Bool) (a m n c : ℕ) → c ≡ m + n → ((k : ℕ) → a ≤ k → k < a + m → Q k ≡ false) → filter Q (falling a c) ≡ filter Q (falling (a + m) n)
falling_back Q a m zero c e out = none_falling Q a c (λ k p q. out k p (omega (arith, e)))
falling_back Q a m (suc n) zero e out = absurd (omega (arith, e))
falling_back Q a m (suc n) (suc c) e out =
    let first : a + c ≡ a + m + n = omega (arith, e) in
    ap (λ (ks : List ℕ). cond (Q (a + c)) ((a + c) ∷ ks) ks) (falling_back Q a m n c (omega (arith, e)) out)
    ∙ ap (λ j. cond (Q j) (j ∷ filter Q (falling (a + m) n)) (filter Q (falling (a + m) n))) first

-- ---- between bounds

-- nothing outside of these bounds passes
pub record Bounds (Q : ℕ → Bool) (low high : ℕ) : Type 0 where
  pub below : (k : ℕ) → k < low → Q k ≡ false
  pub above : (k : ℕ) → high < k → Q k ≡ false

rising_in : (Q : ℕ → Bool) (low high from to first last : ℕ) → Bounds Q low high → first ≡ max from low → last ≡ min to high
    → filter Q (rising first (last + 1 - first)) ≡ filter Q (rising from (to + 1 - from))
rising_in Q low high from to first last bounds f l = by (nat_le first last) refl where
  by : (b : Bool) → nat_le first last ≡ b → filter Q (rising first (last + 1 - first)) ≡ filter Q (rising from (to + 1 - from))
  by true e =
      let some : first ≤ last = grind (arith, nat_tests) in
      let before : from + (first - from) ≡ first = omega (arith, f) in
      sym (rising_front Q from (first - from) (to + 1 - first) (to + 1 - from) (omega (arith, some, f, l)) (λ k p q. bounds.below k (omega (arith, q, f)))
      ∙ ap (λ j. filter Q (rising j (to + 1 - first))) before
      ∙ rising_back Q first (last + 1 - first) (to + 1 - first) (omega (arith, l)) (λ k p q. bounds.above k (omega (arith, p, q, some, l))))
  by false e =
      let none : last < first = grind (arith, nat_tests) in
      let left : last + 1 - first ≡ 0 = omega (arith, none) in
      ap (λ n. filter Q (rising first n)) left ∙ sym (none_rising Q from (to + 1 - from) (λ k p q. outside k (omega (arith, p)) (omega (arith, q)) none)) where
        outside : (k : ℕ) → from ≤ k → k ≤ to → last < first → Q k ≡ false
        outside k p q none = at (nat_le low k) refl where
          at : (b : Bool) → nat_le low k ≡ b → Q k ≡ false
          at true over = let h : low ≤ k = grind (arith, nat_tests) in bounds.above k (omega (arith, p, q, none, f, l, h))
          at false under = bounds.below k (grind (arith, nat_tests))

falling_in : (Q : ℕ → Bool) (low high from to first last : ℕ) → Bounds Q low high → first ≡ min from high → last ≡ max to low
    → filter Q (falling last (first + 1 - last)) ≡ filter Q (falling to (from + 1 - to))
falling_in Q low high from to first last bounds f l = by (nat_le last first) refl where
  by : (b : Bool) → nat_le last first ≡ b → filter Q (falling last (first + 1 - last)) ≡ filter Q (falling to (from + 1 - to))
  by true e =
      let some : last ≤ first = grind (arith, nat_tests) in
      let before : to + (last - to) ≡ last = omega (arith, l) in
      sym (falling_back Q to (last - to) (from + 1 - last) (from + 1 - to) (omega (arith, some, f, l)) (λ k p q. bounds.below k (omega (arith, q, l)))
      ∙ ap (λ j. filter Q (falling j (from + 1 - last))) before
      ∙ falling_front Q last (first + 1 - last) (from - first) (from + 1 - last) (omega (arith, some, f)) (λ k p q. bounds.above k (omega (arith, p, q, some, f))))
  by false e =
      let none : first < last = grind (arith, nat_tests) in
      let left : first + 1 - last ≡ 0 = omega (arith, none) in
      ap (λ n. filter Q (falling last n)) left ∙ sym (none_falling Q to (from + 1 - to) (λ k p q. outside k (omega (arith, p)) (omega (arith, q)) none)) where
        outside : (k : ℕ) → to ≤ k → k ≤ from → first < last → Q k ≡ false
        outside k p q none = at (nat_le low k) refl where
          at : (b : Bool) → nat_le low k ≡ b → Q k ≡ false
          at true over = let h : low ≤ k = grind (arith, nat_tests) in bounds.above k (omega (arith, p, q, none, f, l, h))
          at false under = bounds.below k (grind (arith, nat_tests))

-- the least and the greatest number that a range may hold
abbrev pub low_of : Range → ℕ
low_of r = cond r.falls r.right r.left

abbrev pub high_of : Range → ℕ
high_of r = cond r.falls r.left r.right

and_first : (a b : Bool) → a ≡ false → (a && b) ≡ false
and_first a b e = ap (λ x. x && b) e

and_second : (a b : Bool) → b ≡ false → (a && b) ≡ false
and_second true b e = e
and_second false b e = refl

pub bounds_of : (r : Range) → Bounds (has_bit r) (low_of r) (high_of r)
bounds_of r = by r.falls refl where
  by : (b : Bool) → r.falls ≡ b → Bounds (has_bit r) (low_of r) (high_of r)
  by true e = record {
    below = λ k h. let less : k < r.right = omega (arith, h, ap (λ b. cond b r.right r.left) e) in let test : nat_le r.right k ≡ false = grind (arith, nat_tests) in
        ap (λ b. cond b (nat_le r.right k && nat_le k r.left) (nat_le r.left k && nat_le k r.right)) e ∙ and_first (nat_le r.right k) (nat_le k r.left) test;
    above = λ k h. let more : r.left < k = omega (arith, h, ap (λ b. cond b r.left r.right) e) in let test : nat_le k r.left ≡ false = grind (arith, nat_tests) in
        ap (λ b. cond b (nat_le r.right k && nat_le k r.left) (nat_le r.left k && nat_le k r.right)) e ∙ and_second (nat_le r.right k) (nat_le k r.left) test;
  }
  by false e = record {
    below = λ k h. let less : k < r.left = omega (arith, h, ap (λ b. cond b r.right r.left) e) in let test : nat_le r.left k ≡ false = grind (arith, nat_tests) in
        ap (λ b. cond b (nat_le r.right k && nat_le k r.left) (nat_le r.left k && nat_le k r.right)) e ∙ and_first (nat_le r.left k) (nat_le k r.right) test;
    above = λ k h. let more : r.right < k = omega (arith, h, ap (λ b. cond b r.left r.right) e) in let test : nat_le k r.right ≡ false = grind (arith, nat_tests) in
        ap (λ b. cond b (nat_le r.right k && nat_le k r.left) (nat_le r.left k && nat_le k r.right)) e ∙ and_second (nat_le r.left k) (nat_le k r.right) test;
  }

bits_fall : (r : Range) → r.falls ≡ true → range_bits r ≡ falling r.right (r.left + 1 - r.right)
bits_fall r e = ap (λ b. cond b (falling r.right (r.left + 1 - r.right)) (rising r.left (r.right + 1 - r.left))) e

bits_rise : (r : Range) → r.falls ≡ false → range_bits r ≡ rising r.left (r.right + 1 - r.left)
bits_rise r e = ap (λ b. cond b (falling r.right (r.left + 1 - r.right)) (rising r.left (r.right + 1 - r.left))) e

-- a range with its bounds moved to those of another has the same bits of it
pub falls_within : (bits within made : Range) (low high : ℕ) → low ≡ low_of within → high ≡ high_of within → bits.falls ≡ true → made.falls ≡ true
    → made.left ≡ min bits.left high → made.right ≡ max bits.right low → filter (has_bit within) (range_bits made) ≡ filter (has_bit within) (range_bits bits)
falls_within bits within made low high is_low is_high falls made_falls left right =
    let bounds : Bounds (has_bit within) low high = subst (λ l. Bounds (has_bit within) l high) (sym is_low) (subst (λ h. Bounds (has_bit within) (low_of within) h) (sym is_high) (bounds_of within)) in
    ap (filter (has_bit within)) (bits_fall made made_falls) ∙ falling_in (has_bit within) low high bits.left bits.right made.left made.right bounds left right ∙ sym (ap (filter (has_bit within)) (bits_fall bits falls))

pub rises_within : (bits within made : Range) (low high : ℕ) → low ≡ low_of within → high ≡ high_of within → bits.falls ≡ false → made.falls ≡ false
    → made.left ≡ max bits.left low → made.right ≡ min bits.right high → filter (has_bit within) (range_bits made) ≡ filter (has_bit within) (range_bits bits)
rises_within bits within made low high is_low is_high rises made_rises left right =
    let bounds : Bounds (has_bit within) low high = subst (λ l. Bounds (has_bit within) l high) (sym is_low) (subst (λ h. Bounds (has_bit within) (low_of within) h) (sym is_high) (bounds_of within)) in
    ap (filter (has_bit within)) (bits_rise made made_rises) ∙ rising_in (has_bit within) low high bits.left bits.right made.left made.right bounds left right ∙ sym (ap (filter (has_bit within)) (bits_rise bits rises))

width_of : (r : Range) → range_width r ≡ high_of r + 1 - low_of r
width_of r = length_of_range r ∙ by r.falls where
  by : (b : Bool) → cond b (r.left + 1 - r.right) (r.right + 1 - r.left) ≡ cond b r.left r.right + 1 - cond b r.right r.left
  by true = refl
  by false = refl

-- and no more than the other
pub few_fall : (within made : Range) (low high : ℕ) → low ≡ low_of within → high ≡ high_of within → made.falls ≡ true → made.left ≤ high → low ≤ made.right → range_width made ≤ range_width within
few_fall within made low high is_low is_high falls left right =
    let count : range_width made ≡ made.left + 1 - made.right = length_of_range made ∙ ap (λ b. cond b (made.left + 1 - made.right) (made.right + 1 - made.left)) falls in
    omega (arith, count, width_of within, is_low, is_high, left, right)

pub few_rise : (within made : Range) (low high : ℕ) → low ≡ low_of within → high ≡ high_of within → made.falls ≡ false → low ≤ made.left → made.right ≤ high → range_width made ≤ range_width within
few_rise within made low high is_low is_high rises left right =
    let count : range_width made ≡ made.right + 1 - made.left = length_of_range made ∙ ap (λ b. cond b (made.left + 1 - made.right) (made.right + 1 - made.left)) rises in
    omega (arith, count, width_of within, is_low, is_high, left, right)

-- ---- names

both_false : (a b : Bool) → a ≡ false → b ≡ false → (a || b) ≡ false
both_false a b p q = ap (λ x. x || b) p ∙ q

-- of another name
of_another : (t text : List ℕ) (o : Option Range) (k : ℕ) → bytes_eq t text ≡ false → is_among (names_in t o) (bit_name text k) ≡ false
of_another t text None k e = ap (λ b. (b && is_same_bit None (Some k)) || false) e
of_another t text (Some r) k e = by (range_bits r) where
  by : (ks : List ℕ) → is_among (map (bit_name t) ks) (bit_name text k) ≡ false
  by [] = refl
  by (j ∷ ks) = ap (λ b. (b && is_same_bit (Some j) (Some k)) || is_among (map (bit_name t) ks) (bit_name text k)) e ∙ by ks

differs : (t text : List ℕ) → (t ≡ text → ⊥) → bytes_eq t text ≡ false
differs t text apart = by (bytes_eq t text) refl where
  by : (b : Bool) → bytes_eq t text ≡ b → b ≡ false
  by true e = absurd (apart (same_of t text e))
  by false e = refl

undeclared : (known : List Symbol) (text : List ℕ) (k : ℕ) → (In text (texts known) → ⊥) → is_among (all_names known) (bit_name text k) ≡ false
undeclared [] text k out = refl
undeclared (s ∷ known) text k out =
    let other : bytes_eq s.text text ≡ false = differs s.text text (λ e. out (subst (λ (t : List ℕ). In t (texts (s ∷ known))) e here)) in
    is_among-append (symbol_names s) (all_names known) (bit_name text k)
    ∙ both_false (is_among (symbol_names s) (bit_name text k)) (is_among (all_names known) (bit_name text k)) (of_another s.text text s.range k other) (undeclared known text k (λ i. out (there i)))

both_true : (a b : Bool) → a ≡ true → b ≡ true → (a && b) ≡ false → ⊥
both_true a b p q e = let h : true ≡ false = sym (ap (λ x. x && b) p ∙ q) ∙ e in absurd cc

-- whether a declaration may hold a bit
abbrev may_hold : Option Range → ℕ → Bool
may_hold None k = false
may_hold (Some r) k = has_bit r k

-- outside of the range
beyond : (text : List ℕ) (o : Option Range) (k : ℕ) → may_hold o k ≡ false → is_among (names_in text o) (bit_name text k) ≡ false
beyond text None k e = by (bytes_eq text text) where
  by : (b : Bool) → ((b && is_same_bit None (Some k)) || false) ≡ false
  by true = refl
  by false = refl
beyond text (Some r) k e = by r.falls refl where
  by : (b : Bool) → r.falls ≡ b → is_among (names_in text (Some r)) (bit_name text k) ≡ false
  by true is =
      let test : (nat_le r.right k && nat_le k r.left) ≡ false = sym (ap (λ b. cond b (nat_le r.right k && nat_le k r.left) (nat_le r.left k && nat_le k r.right)) is) ∙ e in
      let out : r.right ≤ k → k ≤ r.left → ⊥ = λ p q. both_true (nat_le r.right k) (nat_le k r.left) (grind (arith, nat_tests)) (grind (arith, nat_tests)) test in
      let at : place (names_in text (Some r)) (bit_name text k) ≡ length (names_in text (Some r)) = falls_out text r k is out in
      not_counted (names_in text (Some r)) (bit_name text k) (λ h. absurd (omega (arith, h, at)))
  by false is =
      let test : (nat_le r.left k && nat_le k r.right) ≡ false = sym (ap (λ b. cond b (nat_le r.right k && nat_le k r.left) (nat_le r.left k && nat_le k r.right)) is) ∙ e in
      let out : r.left ≤ k → k ≤ r.right → ⊥ = λ p q. both_true (nat_le r.left k) (nat_le k r.right) (grind (arith, nat_tests)) (grind (arith, nat_tests)) test in
      let at : place (names_in text (Some r)) (bit_name text k) ≡ length (names_in text (Some r)) = rises_out text r k is out in
      not_counted (names_in text (Some r)) (bit_name text k) (λ h. absurd (omega (arith, h, at)))

-- a bit that its name's declaration doesn't hold is no declared bit
pub not_declared : (known : List Symbol) (text : List ℕ) (k : ℕ) → AllDifferent (texts known) → may_hold (range_found (find known text)) k ≡ false → is_among (all_names known) (bit_name text k) ≡ false
not_declared [] text k different e = refl
not_declared (s ∷ known) text k different e = by (not_declared known text k different.1) (bytes_eq s.text text) refl e where
  by : (may_hold (range_found (find known text)) k ≡ false → is_among (all_names known) (bit_name text k) ≡ false) → (b : Bool) → bytes_eq s.text text ≡ b
      → may_hold (range_found (cond b (Some s) (find known text))) k ≡ false → is_among (all_names (s ∷ known)) (bit_name text k) ≡ false
  by rest true is e =
      let same : s.text ≡ text = same_of s.text text is in
      let mine : is_among (symbol_names s) (bit_name text k) ≡ false = ap (λ (t : List ℕ). is_among (names_in t s.range) (bit_name text k)) same ∙ beyond text s.range k e in
      let later : In text (texts known) → ⊥ = λ i. different.0 (subst (λ (t : List ℕ). In t (texts known)) (sym same) i) in
      is_among-append (symbol_names s) (all_names known) (bit_name text k)
      ∙ both_false (is_among (symbol_names s) (bit_name text k)) (is_among (all_names known) (bit_name text k)) mine (undeclared known text k later)
  by rest false is e =
      is_among-append (symbol_names s) (all_names known) (bit_name text k)
      ∙ both_false (is_among (symbol_names s) (bit_name text k)) (is_among (all_names known) (bit_name text k)) (of_another s.text text s.range k is) (rest e)

-- ---- what is counted

only_held : (P : Name → Bool) (Q : ℕ → Bool) (f : ℕ → Name) (ks : List ℕ) → ((k : ℕ) → Q k ≡ false → P (f k) ≡ false) → filter P (map f ks) ≡ filter P (map f (filter Q ks))
only_held P Q f [] apart = refl
only_held P Q f (k ∷ ks) apart = by (only_held P Q f ks apart) (Q k) refl where
  by : filter P (map f ks) ≡ filter P (map f (filter Q ks)) → (b : Bool) → Q k ≡ b
      → cond (P (f k)) (f k ∷ filter P (map f ks)) (filter P (map f ks)) ≡ filter P (map f (cond b (k ∷ filter Q ks) (filter Q ks)))
  by rest true is = ap (λ (ns : List Name). cond (P (f k)) (f k ∷ ns) ns) rest
  by rest false is = ap (λ b. cond b (f k ∷ filter P (map f ks)) (filter P (map f ks))) (apart k is) ∙ rest

abbrev pub selecting : List ℕ → ℕ → Selection → Target
selecting name line s = record { name = name; line = line; selection = s }

abbrev pub bits_selected : Range → Selection
bits_selected r = selection.Bits r

abbrev pub bit_selected : ℕ → Selection
bit_selected k = selection.Bit k

-- the same bits are counted
pub same_counted : (known : List Symbol) (name : List ℕ) (line : ℕ) (bits made within : Range) → AllDifferent (texts known) → range_found (find known name) ≡ Some within
    → filter (has_bit within) (range_bits made) ≡ filter (has_bit within) (range_bits bits)
    → counted_bits known (selecting name line (bits_selected made)) ≡ counted_bits known (selecting name line (bits_selected bits))
same_counted known name line bits made within different found same =
    let P = is_among (all_names known) in
    let apart : (k : ℕ) → has_bit within k ≡ false → P (bit_name name k) ≡ false = λ k e. not_declared known name k different (subst (λ (o : Option Range). may_hold o k ≡ false) (sym found) e) in
    only_held P (has_bit within) (bit_name name) (range_bits made) apart ∙ ap (λ (ks : List ℕ). filter P (map (bit_name name) ks)) same ∙ sym (only_held P (has_bit within) (bit_name name) (range_bits bits) apart)

-- none is
none_counted : (P : Name → Bool) (f : ℕ → Name) (ks : List ℕ) → ((k : ℕ) → P (f k) ≡ false) → filter P (map f ks) ≡ []
none_counted P f [] out = refl
none_counted P f (k ∷ ks) out = ap (λ b. cond b (f k ∷ filter P (map f ks)) (filter P (map f ks))) (out k) ∙ none_counted P f ks out

pub neither_counted : (known : List Symbol) (name : List ℕ) (line : ℕ) (bits : Range) (k : ℕ) → AllDifferent (texts known) → range_found (find known name) ≡ None
    → counted_bits known (selecting name line (bit_selected k)) ≡ counted_bits known (selecting name line (bits_selected bits))
neither_counted known name line bits k different found =
    let P = is_among (all_names known) in
    let out : (j : ℕ) → P (bit_name name j) ≡ false = λ j. not_declared known name j different (subst (λ (o : Option Range). may_hold o j ≡ false) (sym found) refl) in
    none_counted P (bit_name name) (k ∷ []) out ∙ sym (none_counted P (bit_name name) (range_bits bits) out)

-- ---- how many bits are left

-- no more than all names have
found_few : (known : List Symbol) (text : List ℕ) → length (names_of_found (find known text)) ≤ length (all_names known)
found_few [] text = omega arith
found_few (s ∷ known) text = by (found_few known text) (bytes_eq s.text text) where
  by : length (names_of_found (find known text)) ≤ length (all_names known) → (b : Bool) → length (names_of_found (cond b (Some s) (find known text))) ≤ length (symbol_names s ++ all_names known)
  by rest true = omega (arith, length-append (symbol_names s) (all_names known))
  by rest false = omega (arith, rest, length-append (symbol_names s) (all_names known))

declared_few : (known : List Symbol) (text : List ℕ) (within : Range) → range_found (find known text) ≡ Some within → range_width within ≤ length (all_names known)
declared_few known text within found = by (find known text) refl found where
  by : (o : Option Symbol) → find known text ≡ o → range_found o ≡ Some within → range_width within ≤ length (all_names known)
  by None at e = absurd cc
  by (Some s) at e =
      let all : length (symbol_names s) ≤ length (all_names known) = subst (λ (o : Option Symbol). length (names_of_found o) ≤ length (all_names known)) at (found_few known text) in
      let mine : length (symbol_names s) ≡ range_width within = ap (λ (o : Option Range). length (names_in s.text o)) e ∙ length-map (range_bits within) (bit_name s.text) in
      omega (arith, all, mine)

pub few_bits : (known : List Symbol) (name : List ℕ) (line : ℕ) (made within : Range) → range_found (find known name) ≡ Some within → range_width made ≤ range_width within
    → length (target_names known (selecting name line (bits_selected made))) ≤ length (all_names known) + 1
few_bits known name line made within found few =
    let count : length (map (bit_name name) (range_bits made)) ≡ range_width made = length-map (range_bits made) (bit_name name) in
    omega (arith, declared_few known name within found, few, count)

pub few_bit : (known : List Symbol) (name : List ℕ) (line k : ℕ) → length (target_names known (selecting name line (bit_selected k))) ≤ length (all_names known) + 1
few_bit known name line k = omega arith

pub few_other : (known : List Symbol) (t : Target) → ((r : Range) → t.selection ≡ bits_selected r → ⊥) → length (target_names known t) ≤ length (all_names known) + 1
few_other known t other = by t.selection refl where
  by : (s : Selection) → t.selection ≡ s → length (target_names known (selecting t.name t.line s)) ≤ length (all_names known) + 1
  by selection.Whole is = omega (arith, found_few known t.name)
  by (selection.Bit k) is = omega arith
  by (selection.Bits r) is = absurd (other r is)
