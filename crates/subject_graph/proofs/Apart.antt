-- Outputs that are shown through further inverters.
use Rattle.std.proofs.Common.{◌≡◌, ◌⊎◌, inl, inr, ℕ, zero, suc, ◌+◌, ◌*◌, ◌<◌, ◌≤◌, Bool, true, false, not, ◌||◌, ◌==◌, List, [], ◌∷◌, ◌++◌, map, length, refl, sym, ◌∙◌, ap, subst, arith, length-append, count_by, if◌then◌else◌, nat_lt}
use Rattle.std.proofs.lemmas.Bool.{eq-eqb, ltb-false}
use Rattle.bool_expr.specs.Expression.{bit}
use Rattle.bool_expr.specs.Support.{among}
use Rattle.vlsi_base.specs.Member.{In, here, there, AllDifferent}
use Rattle.net_theory.specs.Sources.{IsNumber}
use Rattle.net_theory.proofs.Basics.{number_in}
use Rattle.graph_theory.specs.Graph.{Node, inv, grown, is_logic, is_fixed, EachReadsEarlier}
use Rattle.graph_theory.proofs.Values.{bit-left, bit-right, grown_keeps}
use Rattle.subject_table.proofs.Shared.{count-first}
use Rattle.subject_table.specs.Grows.{AreBelow}
use Rattle.subject_table.proofs.Operators.{same_numbers}
use Rattle.subject_graph.specs.Subject.{is_taken, roots_apart, inverters_apart}

pub by_test : (P : Bool → Type 0) (b : Bool) → (b ≡ true → P true) → (b ≡ false → P false) → P b
by_test P true f g = f refl
by_test P false f g = g refl

pub In-first : {A : Type 0} (x y : A) (ys : List A) → In x (y ∷ ys) → (x ≡ y) ⊎ In x ys
In-first x y ys here = inl refl
In-first x y ys (there h) = inr h

pub either_false : (a b : Bool) → (a || b) ≡ false → (a ≡ false) × (b ≡ false)
either_false true b h = absurd (cc h)
either_false false b h = (refl, h)

pub below_tail : (n a : ℕ) (plain : List ℕ) → AreBelow n (a ∷ plain) → AreBelow n plain
below_tail n a plain below x h = below x (there h)

below_more : (n k : ℕ) (plain : List ℕ) → AreBelow n plain → AreBelow (n + k) plain
below_more n k plain below x h = let low = below x h in omega (arith, low)

pub length_roots : (first n : ℕ) (before plain : List ℕ) → length (roots_apart first n before plain) ≡ length plain
length_roots first n before [] = refl
length_roots first n before (a ∷ plain) =
    by_test
    (λ b. length (if b then (n + 1) ∷ roots_apart first (n + 2) (a ∷ before) plain else a ∷ roots_apart first n (a ∷ before) plain) ≡ length (a ∷ plain))
    (is_taken first before a)
    (λ _. let h = length_roots first (n + 2) (a ∷ before) plain in omega (arith, h))
    (λ _. let h = length_roots first n (a ∷ before) plain in omega (arith, h))

twice_not : (b : Bool) → not (not b) ≡ b
twice_not true = refl
twice_not false = refl

-- two inverters behind one another have the bit that the first of them reads
module _ (v : List Bool) (a n : ℕ) (size : length v ≡ n) where
  abbrev one : List Bool
  one = v ++ not (bit v a) ∷ []

  abbrev pub two : List Bool
  two = one ++ not (bit one n) ∷ []

  long_one : length one ≡ n + 1
  long_one = let h = length-append v (not (bit v a) ∷ []) in omega (arith, h, size)

  pub long_two : length two ≡ n + 2
  long_two = let h = length-append one (not (bit one n) ∷ []) in omega (arith, h, long_one)

  pub second : bit two (n + 1) ≡ bit v a
  second =
      let place_one : n ≡ length v + 0 = omega (arith, size) in
      let place_two : n + 1 ≡ length one + 0 = omega (arith, long_one) in
      let is_one : bit one n ≡ not (bit v a) = ap (bit one) place_one ∙ bit-right v (not (bit v a) ∷ []) 0 in
      ap (bit two) place_two ∙ bit-right one (not (bit one n) ∷ []) 0 ∙ ap not is_one ∙ twice_not (bit v a)

  pub kept_two : (x : ℕ) → x < n → bit two x ≡ bit v x
  kept_two x low =
      bit-left one (not (bit one n) ∷ []) x (omega (arith, long_one, low)) ∙ bit-left v (not (bit v a) ∷ []) x (omega (arith, size, low))

pub shown_values : (first n : ℕ) (before plain : List ℕ) (v : List Bool) → length v ≡ n → AreBelow n plain
    → map (bit (grown v (inverters_apart first n before plain))) (roots_apart first n before plain) ≡ map (bit v) plain
shown_values first n before [] v size below = refl
shown_values first n before (a ∷ plain) v size below =
    by_test
    (λ b. map (bit (grown v (if b then inv a ∷ inv n ∷ inverters_apart first (n + 2) (a ∷ before) plain else inverters_apart first n (a ∷ before) plain)))
    (if b then (n + 1) ∷ roots_apart first (n + 2) (a ∷ before) plain else a ∷ roots_apart first n (a ∷ before) plain)
    ≡ map (bit v) (a ∷ plain))
    (is_taken first before a)
    (λ _.
    let further = inverters_apart first (n + 2) (a ∷ before) plain in
    let last = grown (two v a n size) further in
    let long = long_two v a n size in
    let head : bit last (n + 1) ≡ bit v a = grown_keeps (two v a n size) further (n + 1) (omega (arith, long)) ∙ second v a n size in
    let tail : map (bit last) (roots_apart first (n + 2) (a ∷ before) plain) ≡ map (bit v) plain =
    shown_values first (n + 2) (a ∷ before) plain (two v a n size) long (below_more n 2 plain (below_tail n a plain below))
    ∙ same_numbers (bit (two v a n size)) (bit v) plain (λ x h. kept_two v a n size x (below x (there h))) in
    ap (λ (b : Bool). b ∷ map (bit last) (roots_apart first (n + 2) (a ∷ before) plain)) head ∙ ap (λ (bs : List Bool). bit v a ∷ bs) tail)
    (λ _.
    let further = inverters_apart first n (a ∷ before) plain in
    let low = below a here in
    let head : bit (grown v further) a ≡ bit v a = grown_keeps v further a (omega (arith, low, size)) in
    let tail = shown_values first n (a ∷ before) plain v size (below_tail n a plain below) in
    ap (λ (b : Bool). b ∷ map (bit (grown v further)) (roots_apart first n (a ∷ before) plain)) head ∙ ap (λ (bs : List Bool). bit v a ∷ bs) tail)

pub further_reads : (first n : ℕ) (before plain : List ℕ) → AreBelow n plain → EachReadsEarlier n (inverters_apart first n before plain)
further_reads first n before [] below = tt
further_reads first n before (a ∷ plain) below =
    by_test
    (λ b. EachReadsEarlier n (if b then inv a ∷ inv n ∷ inverters_apart first (n + 2) (a ∷ before) plain else inverters_apart first n (a ∷ before) plain))
    (is_taken first before a)
    (λ _.
    let e : n + 2 ≡ n + 1 + 1 = omega arith in
    let P : ℕ → Type 0 = λ c. EachReadsEarlier c (inverters_apart first (n + 2) (a ∷ before) plain) in
    (below a here, (omega arith, subst P e (further_reads first (n + 2) (a ∷ before) plain (below_more n 2 plain (below_tail n a plain below))))))
    (λ _. further_reads first n (a ∷ before) plain (below_tail n a plain below))

-- a root is no input, and it is a further node, or an output's that none before has
abbrev pub IsRoot : ℕ → ℕ → List ℕ → List ℕ → ℕ → Type 0
IsRoot first n before plain x = (first ≤ x) × ((n ≤ x) ⊎ (In x plain × (among x before ≡ false)))

low_false : (a first : ℕ) → nat_lt a first ≡ false → first ≤ a
low_false a first h = ltb-false a first h

pub roots_are : (first n : ℕ) (before plain : List ℕ) → first ≤ n → (x : ℕ) → In x (roots_apart first n before plain) → IsRoot first n before plain x
roots_are first n before [] low x h = elim h [ ]
roots_are first n before (a ∷ plain) low x is =
    by_test
    (λ b. In x (if b then (n + 1) ∷ roots_apart first (n + 2) (a ∷ before) plain else a ∷ roots_apart first n (a ∷ before) plain) → IsRoot first n before (a ∷ plain) x)
    (is_taken first before a)
    (λ _ h. elim (In-first x (n + 1) (roots_apart first (n + 2) (a ∷ before) plain) h) [
      | inl same ↦ (omega (arith, same, low), inl (omega (arith, same)))
      | inr rest ↦
          let r = roots_are first (n + 2) (a ∷ before) plain (omega (arith, low)) x rest in
          (r.0, elim r.1 [ inl far ↦ inl (omega (arith, far)) | inr near ↦ inr (there near.0, (either_false (a == x) (among x before) near.1).1) ])
    ])
    (λ e h.
    let fresh = either_false (nat_lt a first) (among a before) e in
    elim (In-first x a (roots_apart first n (a ∷ before) plain) h) [
      | inl same ↦
          let at_least = low_false a first fresh.0 in
          (omega (arith, same, at_least), inr (subst (λ (y : ℕ). In y (a ∷ plain)) (sym same) here, ap (λ (y : ℕ). among y before) same ∙ fresh.1))
      | inr rest ↦
          let r = roots_are first n (a ∷ before) plain low x rest in
          (r.0, elim r.1 [ inl far ↦ inl far | inr near ↦ inr (there near.0, (either_false (a == x) (among x before) near.1).1) ])
    ])
    is

-- each root is below the number behind the further inverters
pub roots_below : (first n : ℕ) (before plain : List ℕ) → AreBelow n plain → AreBelow (n + length (inverters_apart first n before plain)) (roots_apart first n before plain)
roots_below first n before [] below x h = elim h [ ]
roots_below first n before (a ∷ plain) below x is =
    by_test
    (λ b.
    In x (if b then (n + 1) ∷ roots_apart first (n + 2) (a ∷ before) plain else a ∷ roots_apart first n (a ∷ before) plain)
    → x < n + length (if b then inv a ∷ inv n ∷ inverters_apart first (n + 2) (a ∷ before) plain else inverters_apart first n (a ∷ before) plain))
    (is_taken first before a)
    (λ _ h. elim (In-first x (n + 1) (roots_apart first (n + 2) (a ∷ before) plain) h) [
      | inl same ↦ omega (arith, same)
      | inr rest ↦ let r = roots_below first (n + 2) (a ∷ before) plain (below_more n 2 plain (below_tail n a plain below)) x rest in omega (arith, r)
    ])
    (λ _ h. elim (In-first x a (roots_apart first n (a ∷ before) plain) h) [
      | inl same ↦ let low = below a here in omega (arith, same, low)
      | inr rest ↦ roots_below first n (a ∷ before) plain (below_tail n a plain below) x rest
    ])
    is

pub roots_differ : (first n : ℕ) (before plain : List ℕ) → first ≤ n → AreBelow n plain → AllDifferent (roots_apart first n before plain)
roots_differ first n before [] low below = tt
roots_differ first n before (a ∷ plain) low below =
    by_test
    (λ b. AllDifferent (if b then (n + 1) ∷ roots_apart first (n + 2) (a ∷ before) plain else a ∷ roots_apart first n (a ∷ before) plain))
    (is_taken first before a)
    (λ _. (
      (λ h. elim (roots_are first (n + 2) (a ∷ before) plain (omega (arith, low)) (n + 1) h).1 [
        | inl far ↦ absurd (omega (arith, far))
        | inr near ↦ let up = below (n + 1) (there near.0) in absurd (omega (arith, up))
      ]),
      roots_differ first (n + 2) (a ∷ before) plain (omega (arith, low)) (below_more n 2 plain (below_tail n a plain below)),
    ))
    (λ _. (
      (λ h. elim (roots_are first n (a ∷ before) plain low a h).1 [
        | inl far ↦ let up = below a here in absurd (omega (arith, far, up))
        | inr near ↦
            let no = (either_false (a == a) (among a before) near.1).0 in
            let is = eq-eqb a a refl in
            absurd (cc (no, is))
      ]),
      roots_differ first n (a ∷ before) plain low (below_tail n a plain below),
    ))

pub number_apart : (xs : List ℕ) → AllDifferent xs → (j k a : ℕ) → IsNumber xs j a → IsNumber xs k a → j ≡ k
number_apart [] apart j k a p q = absurd p
number_apart (x ∷ xs) apart zero zero a p q = refl
number_apart (x ∷ xs) apart zero (suc k) a p q = absurd (apart.0 (subst (λ (y : ℕ). In y xs) p (number_in xs k a q)))
number_apart (x ∷ xs) apart (suc j) zero a p q = absurd (apart.0 (subst (λ (y : ℕ). In y xs) q (number_in xs j a p)))
number_apart (x ∷ xs) apart (suc j) (suc k) a p q = ap suc (number_apart xs apart.1 j k a p q)

pub further_logic : (first n : ℕ) (before plain : List ℕ) → count_by is_logic (inverters_apart first n before plain) ≤ 2 * length plain
further_logic first n before [] = omega arith
further_logic first n before (a ∷ plain) =
    by_test
    (λ b. count_by is_logic (if b then inv a ∷ inv n ∷ inverters_apart first (n + 2) (a ∷ before) plain else inverters_apart first n (a ∷ before) plain) ≤ 2 * length (a ∷ plain))
    (is_taken first before a)
    (λ _.
    let further = inverters_apart first (n + 2) (a ∷ before) plain in
    let h = further_logic first (n + 2) (a ∷ before) plain in
    let one : count_by is_logic (inv a ∷ inv n ∷ further) ≡ 1 + count_by is_logic (inv n ∷ further) = count-first is_logic (inv a) (inv n ∷ further) in
    let other : count_by is_logic (inv n ∷ further) ≡ 1 + count_by is_logic further = count-first is_logic (inv n) further in
    omega (arith, h, one, other))
    (λ _. let h = further_logic first n (a ∷ before) plain in omega (arith, h))

none_fixed : (c : Bool) (a : ℕ) (xs : List Node) → count_by (is_fixed c) (inv a ∷ xs) ≡ count_by (is_fixed c) xs
none_fixed true a xs = let h = count-first (is_fixed true) (inv a) xs in omega (arith, h)
none_fixed false a xs = let h = count-first (is_fixed false) (inv a) xs in omega (arith, h)

pub further_fixed : (c : Bool) (first n : ℕ) (before plain : List ℕ) → count_by (is_fixed c) (inverters_apart first n before plain) ≡ 0
further_fixed c first n before [] = refl
further_fixed c first n before (a ∷ plain) =
    by_test
    (λ b. count_by (is_fixed c) (if b then inv a ∷ inv n ∷ inverters_apart first (n + 2) (a ∷ before) plain else inverters_apart first n (a ∷ before) plain) ≡ 0)
    (is_taken first before a)
    (λ _.
    let further = inverters_apart first (n + 2) (a ∷ before) plain in
    none_fixed c a (inv n ∷ further) ∙ none_fixed c n further ∙ further_fixed c first (n + 2) (a ∷ before) plain)
    (λ _. further_fixed c first n (a ∷ before) plain)
