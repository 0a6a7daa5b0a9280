-- Names of numbers, and tables of a machine's names.
use Rattle.std.proofs.Common.{◌≡◌, ◌≢◌, inl, inr, ℕ, zero, suc, ◌+◌, ◌<◌, ◌≤◌, Bool, true, false, ltb, List, [], ◌∷◌, ◌++◌, map, length, take, get_or, Option, None, Some, refl, sym, ap, ◌∙◌, subst, arith, append_assoc}
use Rattle.std.specs.Prelude.{slice_index, slice_set}
use Rattle.std.specs.List.{All, slice_get, slice_index_or, filter_map, cons_option}
use Rattle.std.specs.Option.{option_to_list}
use Rattle.std.specs.List.Sorted.{IsPermutation}
use Rattle.std.proofs.lemmas.List.{take_more}
use Rattle.std.proofs.lemmas.List.Elements.{filter_map-append}
use Rattle.std.proofs.lemmas.List.Sorted.{IsPermutation-map, IsPermutation-sym}
use Rattle.vlsi_base.specs.declared.name.Port.{Port}
use Rattle.machine_core.specs.Checked.{AreInOrder}
use Rattle.vlsi_model.proofs.Members.{In-cases}
use Rattle.vlsi_model.proofs.Assembly.{In-permutation}
use Rattle.std.proofs.lemmas.List.{map-append, get_or-set_same, get_or-set_other, length-set}
use Rattle.std.proofs.Math.ListN.{replicate, length-replicate}
use Rattle.std.proofs.lemmas.Bool.Decides.{nat_tests}
use Rattle.vlsi_base.specs.declared.name.Name.{Name}
use Rattle.machine_core.specs.Order.{In, here, there, AllDifferent}
use Rattle.vlsi_base.specs.Range.{rising}
use Rattle.source_checks.specs.Formula.{place}
use Rattle.vlsi_model.specs.declared.registers.NamedBit.{NamedBit}
use Rattle.vlsi_model.specs.Numbered.{name_at, named_at, HasVars}
use Rattle.vlsi_model.proofs.Sorting.{place_of_In, pairs_from_different}
use Rattle.vlsi_model.proofs.Numbering.{place_within, place_same, place_of_at}

pub name_is : (all : List Name) (k : ℕ) (n : Name) → slice_get all k ≡ Some n → name_at all k ≡ n
name_is [] k n e = absurd cc
name_is (x ∷ all) zero n e = cc
name_is (x ∷ all) (suc k) n e = name_is all k n e

pub rising_more : (a n : ℕ) → rising a (n + 1) ≡ rising a n ++ (a + n) ∷ []
rising_more a n = subst (λ k. rising a k ≡ rising a n ++ (a + n) ∷ []) next (by a n) where
  next : suc n ≡ n + 1
  next = omega arith

  by : (a n : ℕ) → rising a (suc n) ≡ rising a n ++ (a + n) ∷ []
  by a zero = let e : a ≡ a + 0 = omega arith in ap (λ k. k ∷ []) e
  by a (suc n) =
      let e : a + 1 + n ≡ a + suc n = omega arith in
      ap (λ (ks : List ℕ). a ∷ ks) (by (a + 1) n) ∙ ap (λ k. a ∷ (rising (a + 1) n ++ k ∷ [])) e

pub named_more : (all : List Name) (bits : List ℕ) (k : ℕ) (name : Name) (named : List NamedBit) → named ≡ map (named_at all bits) (rising 0 k) → slice_get all (slice_index bits k) ≡ Some name
    → named ++ record { name = name; place = k } ∷ [] ≡ map (named_at all bits) (rising 0 (k + 1))
named_more all bits k name named so_far is =
    let made : Name → ℕ → NamedBit = λ n i. record { name = n; place = i } in
    let last : made name k ≡ named_at all bits (0 + k) = ap (λ (n : Name). made n k) (sym (name_is all (slice_index bits k) name is)) ∙ (let e : k ≡ 0 + k = omega arith in ap (named_at all bits) e) in
    ap (λ (xs : List NamedBit). xs ++ made name k ∷ []) so_far ∙ ap (λ (b : NamedBit). map (named_at all bits) (rising 0 k) ++ b ∷ []) last
    ∙ sym (ap (map (named_at all bits)) (rising_more 0 k) ∙ map-append (named_at all bits) (rising 0 k) ((0 + k) ∷ []))

pub same_default : {A : Type 0} (xs : List A) (i : ℕ) (d e : A) → i < length xs → get_or xs i d ≡ get_or xs i e
same_default [] i d e h = absurd (omega arith)
same_default (x ∷ xs) zero d e h = refl
same_default (x ∷ xs) (suc i) d e h = same_default xs i d e (omega arith)

-- the table after so many of the names
pub record VarsSoFar (all vars : List Name) (table : List ℕ) (k : ℕ) : Type 0 where
  pub each : length table ≡ length all
  pub there : (j : ℕ) (d : Name) → j < k → slice_index table (place all (slice_index_or vars j d)) ≡ j

pub vars_none : (all vars : List Name) (table : List ℕ) → table ≡ replicate (length all) 0 → VarsSoFar all vars table 0
vars_none all vars table is = record { each = ap (λ (xs : List ℕ). length xs) is ∙ length-replicate (length all) 0; there = λ j d h. absurd (omega arith) }

pub vars_more : (all vars : List Name) (table new : List ℕ) (k b : ℕ) (name : Name) → AllDifferent vars → All (λ n. In n all) vars → k < length vars → name ≡ slice_index_or vars k name → b ≡ place all name → new ≡ slice_set table b k → VarsSoFar all vars table k → VarsSoFar all vars new (k + 1)
vars_more all vars table new k b name different declared within at number is h = record {
  each = ap (λ (xs : List ℕ). length xs) is ∙ length-set table b k ∙ h.each;
  there = λ j d p. subst (λ (xs : List ℕ). slice_index xs (place all (slice_index_or vars j d)) ≡ j) (sym is) (by j d p (ltb j k) refl);
} where
  known : In name all
  known = subst (λ (n : Name). In n all) (sym at) (declared k name within)

  inside : b < length table
  inside = omega (arith, number, h.each, place_within all name known)

  by : (j : ℕ) (d : Name) → j < k + 1 → (t : Bool) → ltb j k ≡ t → slice_index (slice_set table b k) (place all (slice_index_or vars j d)) ≡ j
  by j d p true e =
      let below : j < k = grind (arith, nat_tests) in
      let apart : place all (slice_index_or vars j d) ≢ b = λ q. pairs_from_different vars different j k d below within (place_same all (slice_index_or vars j d) (slice_index_or vars k d) (declared j d (omega arith)) (q ∙ number ∙ ap (place all) (at ∙ same_default vars k name d within))) in
      get_or-set_other table b (place all (slice_index_or vars j d)) k 0 apart ∙ h.there j d below
  by j d p false e =
      let equal : k ≡ j = grind (arith, nat_tests) in
      let here : b ≡ place all (slice_index_or vars k d) = number ∙ ap (place all) (at ∙ same_default vars k name d within) in
      subst (λ i. slice_index (slice_set table b k) (place all (slice_index_or vars i d)) ≡ i) equal (ap (slice_index (slice_set table b k)) (sym here) ∙ get_or-set_same table b k 0 inside)

pub vars_all : (all vars : List Name) (table : List ℕ) (k : ℕ) → AllDifferent vars → length vars ≤ k → VarsSoFar all vars table k → HasVars all vars table
vars_all all vars table k different over h = record {
  each = h.each;
  there = λ n i.
      let r = place_of_In vars n i in
      let here : place vars n ≡ r.0 = ap (place vars) (sym (r.2 n)) ∙ place_of_at vars r.0 n different r.1 in
      ap (λ (m : Name). slice_index table (place all m)) (sym (r.2 n)) ∙ h.there r.0 n (omega (arith, r.1)) ∙ sym here;
}

-- one more name
pub push_more : (f : ℕ → Name) (start names new : List Name) (order : List ℕ) (k : ℕ) (n : Name) → k < length order → f (slice_index order k) ≡ n → names ≡ start ++ map f (take k order) → new ≡ names ++ n ∷ [] → new ≡ start ++ map f (take (k + 1) order)
push_more f start names new order k n within is so_far pushed =
    pushed ∙ ap (λ (xs : List Name). xs ++ n ∷ []) so_far ∙ append_assoc start (map f (take k order)) (n ∷ [])
    ∙ ap (λ (m : Name). start ++ (map f (take k order) ++ m ∷ [])) (sym is)
    ∙ ap (λ (xs : List Name). start ++ xs) (sym (ap (map f) (take_more order k 0 within) ∙ map-append f (take k order) (slice_index order k ∷ [])))

pub ports_more : (h : Name → Option Port) (all : List Name) (k : ℕ) (n : Name) (old : List Port) → k < length all → slice_get all k ≡ Some n → old ≡ filter_map h (take k all) → old ++ option_to_list (h n) ≡ filter_map h (take (k + 1) all)
ports_more h all k n old within is so_far =
    ap (λ (ps : List Port). ps ++ option_to_list (h n)) so_far
    ∙ ap (λ (m : Name). filter_map h (take k all) ++ option_to_list (h m)) (sym (name_is all k n is))
    ∙ ap (λ (ps : List Port). filter_map h (take k all) ++ ps) (by (h (name_at all k)))
    ∙ sym (ap (filter_map h) (take_more all k (record { text = []; bit = None }) within) ∙ filter_map-append h (take k all) (name_at all k ∷ [])) where
      by : (o : Option Port) → option_to_list o ≡ cons_option o []
      by None = refl
      by (Some p) = refl

pub take_whole : {A : Type 0} (xs : List A) (k : ℕ) → length xs ≤ k → take k xs ≡ xs
take_whole [] zero h = refl
take_whole [] (suc k) h = refl
take_whole (x ∷ xs) zero h = absurd (omega arith)
take_whole (x ∷ xs) (suc k) h = ap (λ ys. x ∷ ys) (take_whole xs k (omega arith))

-- places of members

rising_suc : (a n : ℕ) → rising (a + 1) n ≡ map suc (rising a n)
rising_suc a zero = refl
rising_suc a (suc n) = let e : a + 1 ≡ suc a = omega arith in ap (λ (k : ℕ). k ∷ rising (a + 1 + 1) n) e ∙ ap (λ (ks : List ℕ). suc a ∷ ks) (rising_suc (a + 1) n)

map-then : {A B C : Type 0} (f : B → C) (g : A → B) (xs : List A) → map f (map g xs) ≡ map (λ x. f (g x)) xs
map-then f g [] = refl
map-then f g (x ∷ xs) = ap (λ ys. f (g x) ∷ ys) (map-then f g xs)

pub at_places : {A : Type 0} (xs : List A) (d : A) → map (λ k. get_or xs k d) (rising 0 (length xs)) ≡ xs
at_places [] d = refl
at_places (x ∷ xs) d =
    let e : 1 ≡ 0 + 1 = omega arith in
    ap (λ ys. x ∷ ys) (ap (λ a. map (λ k. get_or (x ∷ xs) k d) (rising a (length xs))) e ∙ ap (map (λ k. get_or (x ∷ xs) k d)) (rising_suc 0 (length xs)) ∙ map-then (λ k. get_or (x ∷ xs) k d) suc (rising 0 (length xs)) ∙ at_places xs d)

pub names_of_named : (all : List Name) (bits : List ℕ) (named : List NamedBit) → named ≡ map (named_at all bits) (rising 0 (length bits)) → map (λ (b : NamedBit). b.name) named ≡ map (name_at all) bits
names_of_named all bits named is =
    ap (map (λ (b : NamedBit). b.name)) is ∙ map-then (λ (b : NamedBit). b.name) (named_at all bits) (rising 0 (length bits)) ∙ sym (map-then (name_at all) (slice_index bits) (rising 0 (length bits))) ∙ ap (map (name_at all)) (at_places bits 0)

places_named : (all : List Name) (bits ks : List ℕ) → map (λ (b : NamedBit). b.place) (map (named_at all bits) ks) ≡ ks
places_named all bits [] = refl
places_named all bits (k ∷ ks) = ap (λ (xs : List ℕ). k ∷ xs) (places_named all bits ks)

pub order_moved : (all : List Name) (bits : List ℕ) (named sorted : List NamedBit) (order : List ℕ) → named ≡ map (named_at all bits) (rising 0 (length bits)) → IsPermutation named sorted → order ≡ map (λ (b : NamedBit). b.place) sorted → IsPermutation (rising 0 (length bits)) order
order_moved all bits named sorted order is moved places =
    subst (λ (xs : List ℕ). IsPermutation xs order) (ap (map (λ (b : NamedBit). b.place)) is ∙ places_named all bits (rising 0 (length bits)))
    (subst (IsPermutation (map (λ (b : NamedBit). b.place) named)) (sym places) (IsPermutation-map (λ (b : NamedBit). b.place) named sorted moved))

itself_at : (all : List Name) (bits ks : List ℕ) (b : NamedBit) → In b (map (named_at all bits) ks) → named_at all bits b.place ≡ b
itself_at all bits [] b i = elim i [ ]
itself_at all bits (k ∷ ks) b i = elim (In-cases b (named_at all bits k) (map (named_at all bits) ks) i) [
  | inl same ↦ ap (λ (c : NamedBit). named_at all bits c.place) (sym same) ∙ same
  | inr j ↦ itself_at all bits ks b j
]

names_at : (all : List Name) (bits : List ℕ) (sorted : List NamedBit) → ((b : NamedBit) → In b sorted → named_at all bits b.place ≡ b) → map (λ (b : NamedBit). b.name) sorted ≡ map (λ k. name_at all (slice_index bits k)) (map (λ (b : NamedBit). b.place) sorted)
names_at all bits [] h = refl
names_at all bits (b ∷ sorted) h = ap (λ (n : Name). n ∷ map (λ (c : NamedBit). c.name) sorted) (ap (λ (c : NamedBit). c.name) (sym (h b here))) ∙ ap (λ (ns : List Name). name_at all (slice_index bits b.place) ∷ ns) (names_at all bits sorted (λ c i. h c (there i)))

pub order_ordered : (all : List Name) (bits : List ℕ) (named sorted : List NamedBit) (order : List ℕ) → named ≡ map (named_at all bits) (rising 0 (length bits)) → IsPermutation named sorted → order ≡ map (λ (b : NamedBit). b.place) sorted
    → AreInOrder (map (λ (b : NamedBit). b.name) sorted) → AreInOrder (map (λ k. name_at all (slice_index bits k)) order)
order_ordered all bits named sorted order is moved places ordered =
    let each = λ (b : NamedBit) (i : In b sorted). itself_at all bits (rising 0 (length bits)) b (subst (λ (xs : List NamedBit). In b xs) is (In-permutation sorted named b (IsPermutation-sym named sorted moved) i)) in
    subst (λ (ns : List Name). AreInOrder ns) (names_at all bits sorted each ∙ ap (map (λ k. name_at all (slice_index bits k))) (sym places)) ordered
