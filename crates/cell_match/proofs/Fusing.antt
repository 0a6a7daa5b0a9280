-- A cell for two gates, and its word.
use Rattle.std.proofs.Common.{◌≡◌, inl, inr, ℕ, ◌<◌, ◌≤◌, Bool, false, List, [], ◌∷◌, map, length, get_or, slice_index, ap, refl, sym, subst, ◌∙◌, arith}
use Prim.Native.Nat.{zero, suc}
use Rattle.std.proofs.lemmas.Bool.{cases_lt}
use Rattle.std.proofs.lemmas.List.{length-map}
use Rattle.truth_tab.specs.Table.{bit, value_of}
use Rattle.cell_match.specs.declared.gate.CellWord.{CellWord}
use Rattle.cell_match.specs.declared.gate.Gate.{Gate}
use Rattle.cell_match.specs.Places.{times, place, AreRead}
use Rattle.cell_match.specs.Cells.{cell_value, gate_value, IsMatch}
use Rattle.cell_match.specs.Computes.{put, composed, Computes}
use Rattle.cell_match.proofs.Numbers.{one, one_tells, one_same, times_some}
use Rattle.cell_match.proofs.Pigeons.{no_longer, every_place, place_cons, place_there, place_apart}
use Rattle.cell_match.proofs.Composing.{map_on, map_twice, put_tells}

-- ---- lists that are mapped

pub mapped_some : (f : ℕ → ℕ) (y : ℕ) (xs : List ℕ) → 0 < times y (map f xs) → (x : ℕ) × (0 < times x xs) × (f x ≡ y)
mapped_some f y [] h = absurd (omega arith)
mapped_some f y (x ∷ xs) h = elim (one_tells (f x) y) [
  | inl is ↦ (x, (let o = one_same x in omega arith), is.0)
  | inr isnt ↦ let o = isnt.1 in let rest = mapped_some f y xs (omega arith) in (rest.0, (let e = rest.1 in omega arith), rest.2)
]

pub mapped_in : (f : ℕ → ℕ) (x : ℕ) (xs : List ℕ) → 0 < times x xs → 0 < times (f x) (map f xs)
mapped_in f x [] h = absurd (omega arith)
mapped_in f x (y ∷ xs) h = elim (one_tells y x) [
  | inl is ↦ let o : one (f y) (f x) ≡ 1 = subst (λ (n : ℕ). one (f y) (f n) ≡ 1) is.0 (one_same (f y)) in omega arith
  | inr isnt ↦ let o = isnt.1 in let e = mapped_in f x xs (omega arith) in omega arith
]

pub mapped_once : (f : ℕ → ℕ) (xs : List ℕ) → ((x : ℕ) → times x xs ≤ 1) → ((x y : ℕ) → 0 < times x xs → 0 < times y xs → f x ≡ f y → x ≡ y)
    → (z : ℕ) → times z (map f xs) ≤ 1
mapped_once f [] once apart z = omega arith
mapped_once f (x ∷ xs) once apart z =
    let rest = mapped_once f xs (λ y. let e = once y in omega arith) (λ y w hy hw. apart y w (omega arith) (omega arith)) z in
    elim (one_tells (f x) z) [
      | inl is ↦ elim (cases_lt 0 (times z (map f xs))) [
        | inl some ↦
            let other = mapped_some f z xs some in
            let o = one_same x in
            let same = apart x other.0 (omega arith) (let e = other.1 in omega arith) (is.0 ∙ sym other.2) in
            let there = subst (λ (n : ℕ). 0 < times n xs) (sym same) other.1 in
            let twice = once x in
            absurd (omega arith)
        | inr none ↦ let o = is.1 in omega arith
      ]
      | inr isnt ↦ let o = isnt.1 in omega arith
    ]

-- the place of the node at a place
pub place_at : (ys : List ℕ) (i : ℕ) → i < length ys → ((x : ℕ) → times x ys ≤ 1) → place (get_or ys i 0) ys ≡ i
place_at [] i h once = absurd (omega arith)
place_at (y ∷ ys) zero h once = elim (place_cons y y ys) [
  | inl is ↦ is.1
  | inr isnt ↦ absurd (isnt.0 refl)
]
place_at (y ∷ ys) (suc i) h once =
    let z = get_or ys i 0 in
    elim (place_cons z y ys) [
      | inl is ↦
          let o : one y z ≡ 1 = subst (λ (n : ℕ). one y n ≡ 1) is.0 (one_same y) in
          let there = times_some ys i (omega arith) in
          let e = once z in
          absurd (omega arith)
      | inr isnt ↦ isnt.1 ∙ ap suc (place_at ys i (omega arith) (λ x. let e = once x in omega arith))
    ]

-- ---- bits

-- n bits that begin so
abbrev pub pad : List Bool → ℕ → List Bool
pad xs zero = []
pad [] (suc n) = false ∷ pad [] n
pad (x ∷ xs) (suc n) = x ∷ pad xs n

pub pad_long : (xs : List Bool) (n : ℕ) → length (pad xs n) ≡ n
pad_long xs zero = refl
pad_long [] (suc n) = let e = pad_long [] n in omega arith
pad_long (x ∷ xs) (suc n) = let e = pad_long xs n in omega arith

pub pad_bit : (xs : List Bool) (n i : ℕ) → i < n → bit (pad xs n) i ≡ bit xs i
pad_bit xs zero i h = absurd (omega arith)
pad_bit [] (suc n) zero h = refl
pad_bit [] (suc n) (suc i) h = pad_bit [] n i (omega arith)
pad_bit (x ∷ xs) (suc n) zero h = refl
pad_bit (x ∷ xs) (suc n) (suc i) h = pad_bit xs n i (omega arith)

pub mapped_bit : (f : ℕ → Bool) (xs : List ℕ) (i : ℕ) → i < length xs → bit (map f xs) i ≡ f (get_or xs i 0)
mapped_bit f [] i h = absurd (omega arith)
mapped_bit f (x ∷ xs) zero h = refl
mapped_bit f (x ∷ xs) (suc i) h = mapped_bit f xs i (omega arith)

-- ---- two gates

module _ (cells : List CellWord) (inner outer : Gate) (a : ℕ) (nodes : List ℕ) (read : AreRead inner.leaves.items outer.leaves.items a nodes) where
  composed_on : (f g : ℕ → Bool) → ((x : ℕ) → 0 < times x nodes → f x ≡ g x) → composed cells inner outer a f ≡ composed cells inner outer a g
  composed_on f g same =
      let by_inner : gate_value cells inner f ≡ gate_value cells inner g =
      ap (cell_value cells inner.cell) (map_on f g inner.leaves.items (λ x some. same x ((read.members x).1 (inl some)))) in
      let t = gate_value cells inner g in
      ap (λ (b : Bool). gate_value cells outer (put a b f)) by_inner
      ∙ ap (cell_value cells outer.cell) (map_on (put a t f) (put a t g) outer.leaves.items (λ x some. elim (put_tells a t f x) [
        | inl is ↦ is.1 ∙ elim (put_tells a t g x) [
          | inl too ↦ sym too.1
          | inr isnt ↦ absurd (isnt.0 is.0)
        ]
        | inr isnt ↦ isnt.1 ∙ same x ((read.members x).1 (inr (some, isnt.0))) ∙ elim (put_tells a t g x) [
          | inl too ↦ absurd (isnt.0 too.0)
          | inr other ↦ sym other.1
        ]
      ]))

  module _ (few : length nodes ≤ 6) (word : ℕ)
      (value : (v : List Bool) → length v ≡ 6 → value_of word v ≡ composed cells inner outer a (λ x. bit v (place x nodes))) where
    -- a cell that computes the word computes the two, with its inputs at the nodes in its order
    pub match_computes : (k : ℕ) (order : List ℕ) → IsMatch cells (length nodes) word k order
        → Computes cells k (map (slice_index nodes) order) inner outer a
    match_computes k order is = record {
      there = is.there;
      many = length-map order (slice_index nodes) ∙ is.ordered.many ∙ sym is.inputs;
      once = mapped_once (slice_index nodes) order is.ordered.once (λ x y hx hy e.
          sym (place_at nodes x (is.ordered.within x hx) read.once) ∙ ap (λ (n : ℕ). place n nodes) e ∙ place_at nodes y (is.ordered.within y hy) read.once);
      members = λ x. (
        λ some.
            let i = mapped_some (slice_index nodes) x order some in
            (read.members x).0 (subst (λ (n : ℕ). 0 < times n nodes) i.2 (times_some nodes i.0 (is.ordered.within i.0 i.1))),
        λ why.
            let at = place_there x nodes ((read.members x).1 why) in
            subst (λ (n : ℕ). 0 < times n (map (slice_index nodes) order)) at.1
            (mapped_in (slice_index nodes) (place x nodes) order (every_place (length nodes) order is.ordered (place x nodes) at.0)),
      );
      value = λ f.
          let v = pad (map f nodes) 6 in
          let long = pad_long (map f nodes) 6 in
          let at : (i : ℕ) → i < length nodes → bit v i ≡ f (slice_index nodes i) =
          λ i low. pad_bit (map f nodes) 6 i (omega arith) ∙ mapped_bit f nodes i low in
          let by_order : map (λ i. bit v i) order ≡ map f (map (slice_index nodes) order) =
          map_on (λ i. bit v i) (λ i. f (slice_index nodes i)) order (λ i some. at i (is.ordered.within i some)) ∙ sym (map_twice f (slice_index nodes) order) in
          ap (cell_value cells k) (sym by_order) ∙ sym (is.same v long) ∙ value v long
          ∙ composed_on (λ x. bit v (place x nodes)) f (λ x some. let p = place_there x nodes some in at (place x nodes) p.0 ∙ ap f p.1);
    }

    same_long : (k : ℕ) (order : List ℕ) → Computes cells k order inner outer a → length order ≡ length nodes
    same_long k order does =
        let one_way = no_longer order nodes does.once (λ x some. (read.members x).1 ((does.members x).0 some)) in
        let other_way = no_longer nodes order read.once (λ x some. (does.members x).1 ((read.members x).0 some)) in
        omega arith

    -- and a cell that computes the two computes the word
    pub computes_match : (k : ℕ) (order : List ℕ) → Computes cells k order inner outer a
        → IsMatch cells (length nodes) word k (map (λ x. place x nodes) order)
    computes_match k order does =
        let known : (x : ℕ) → 0 < times x order → 0 < times x nodes = λ x some. (read.members x).1 ((does.members x).0 some) in
        record {
          there = does.there;
          inputs = sym does.many ∙ same_long k order does;
          ordered = record {
            many = length-map order (λ x. place x nodes) ∙ same_long k order does;
            within = λ i some. let x = mapped_some (λ x. place x nodes) i order some in let p = (place_there x.0 nodes (known x.0 x.1)).0 in let e = x.2 in omega arith;
            once = mapped_once (λ x. place x nodes) order does.once (λ x y hx hy e. place_apart x y nodes (known x hx) (known y hy) e);
          };
          same = λ v h. value v h ∙ sym (does.value (λ x. bit v (place x nodes)))
              ∙ ap (cell_value cells k) (sym (map_twice (λ i. bit v i) (λ x. place x nodes) order));
        }
