-- Entries as lists of words, areas and places.
use Rattle.std.proofs.Common.{◌≡◌, ℕ, zero, suc, ◌≤◌, List, [], ◌∷◌, length, map, Some, refl, sym, ◌∙◌, ap, subst, arith}
use Rattle.std.specs.Prelude.{slice_get}
use Rattle.std.specs.List.Sorted.{IsNonDecreasingBy}
use Rattle.std.proofs.lemmas.List.{length-map}
use Rattle.std.proofs.lemmas.Option.{slice_get_within, get_or_from_slice_get}
use Rattle.vlsi_base.specs.Member.{In, here, there}
use Rattle.cell_model.specs.Cell.{Cell}
use Rattle.cell_model.specs.Library.{Library}
use Rattle.cell_checks.specs.Checked.{library_of}
use Rattle.cell_match.specs.declared.gate.CellWord.{CellWord}
use Rattle.cell_match.specs.Places.{times}
use Rattle.gate_cells.specs.declared.entry.Entry.{Entry}
use Rattle.gate_cells.specs.declared.listed.GateCells.{GateCells}
use Rattle.gate_cells.specs.Listed.{IsGateCell, IsListedAt, AreGateCells}
use Rattle.gate_cells.specs.Entries.{AreEntries}

got_in : {A : Type 0} (xs : List A) (k : ℕ) (x : A) → slice_get xs k ≡ Some x → In x xs
got_in [] k x h = absurd cc
got_in {A} (y ∷ xs) zero x h = let e : y ≡ x = cc in subst (λ (z : A). In z (y ∷ xs)) e here
got_in (y ∷ xs) (suc k) x h = there (got_in xs k x h)

in_got : {A : Type 0} (x : A) (xs : List A) → In x xs → (k : ℕ) × (slice_get xs k ≡ Some x)
in_got x [] h = elim h [ ]
in_got x (y ∷ xs) here = (0, refl)
in_got x (y ∷ xs) (there h) = let r = in_got x xs h in (suc r.0, r.1)

got_map : {A B : Type 0} (f : A → B) (xs : List A) (k : ℕ) (x : A) → slice_get xs k ≡ Some x → slice_get (map f xs) k ≡ Some (f x)
got_map f [] k x h = absurd cc
got_map f (y ∷ xs) zero x h = let e : y ≡ x = cc in ap (λ z. Some (f z)) e
got_map f (y ∷ xs) (suc k) x h = got_map f xs k x h

map_got : {A B : Type 0} (f : A → B) (xs : List A) (k : ℕ) (y : B) → slice_get (map f xs) k ≡ Some y → (x : A) × (slice_get xs k ≡ Some x) × (f x ≡ y)
map_got f [] k y h = absurd cc
map_got f (x ∷ xs) zero y h = let e : f x ≡ y = cc in (x, refl, e)
map_got f (x ∷ xs) (suc k) y h = map_got f xs k y h

same_got : {A : Type 0} (xs : List A) (k : ℕ) (x y : A) → slice_get xs k ≡ Some x → slice_get xs k ≡ Some y → x ≡ y
same_got xs k x y p q = let e : Some x ≡ Some y = sym p ∙ q in cc

abbrev word_in : Entry → CellWord
word_in x = x.word

abbrev area_in : Entry → ℕ
area_in x = x.area

abbrev place_in : Entry → ℕ
place_in x = x.place

module _ (cells : List Cell) (l : Library) (is : library_of cells ≡ l) (xs : List Entry) (are : AreEntries cells xs) (rising : IsNonDecreasingBy area_in xs) (g : GateCells)
    (words : g.words.items ≡ map word_in xs) (areas : g.areas.items ≡ map area_in xs) (places : g.places.items ≡ map place_in xs) where
  abbrev own : Library
  own = library_of cells

  listed_at : (k : ℕ) → IsListedAt own g k
  listed_at k word area place hw ha hp =
      let a = map_got word_in xs k word (subst (λ (ys : List CellWord). slice_get ys k ≡ Some word) words hw) in
      let b = map_got area_in xs k area (subst (λ (ys : List ℕ). slice_get ys k ≡ Some area) areas ha) in
      let c = map_got place_in xs k place (subst (λ (ys : List ℕ). slice_get ys k ≡ Some place) places hp) in
      let is_word : a.0.word ≡ word = a.2 in
      let is_area : a.0.area ≡ area = ap area_in (same_got xs k a.0 b.0 a.1 b.1) ∙ b.2 in
      let is_place : a.0.place ≡ place = ap place_in (same_got xs k a.0 c.0 a.1 c.1) ∙ c.2 in
      let r = are.each a.0 (got_in xs k a.0 a.1) in
      let P : ℕ → Type 0 = λ n. slice_get cells n ≡ Some r.0 in
      let Q : ℕ → Type 0 = λ n. IsGateCell r.0 word n in
      (r.0, subst P is_place r.1, subst Q is_area (subst (λ (w : CellWord). IsGateCell r.0 w a.0.area) is_word r.2))

  own_gates : AreGateCells own g
  own_gates = record {
    words = let a = ap length words in let b = length-map xs word_in in let c = ap length places in let d = length-map xs place_in in omega (arith, a, b, c, d);
    areas = let a = ap length areas in let b = length-map xs area_in in let c = ap length places in let d = length-map xs place_in in omega (arith, a, b, c, d);
    each = listed_at;
    every = λ p c e h usable is_gate.
        let r = are.every p c e h usable is_gate in
        let k = in_got r.0 xs r.1 in
        let P : ℕ → Type 0 = λ n. slice_get (map place_in xs) k.0 ≡ Some n in
        (k.0, subst (λ (ys : List ℕ). slice_get ys k.0 ≡ Some p) (sym places) (subst P r.2 (got_map place_in xs k.0 r.0 k.1)));
    once = λ p. subst (λ (ys : List ℕ). times p ys ≤ 1) (sym places) (are.once p);
    rising = λ j k a b order ha hb.
        let x = map_got area_in xs j a (subst (λ (ys : List ℕ). slice_get ys j ≡ Some a) areas ha) in
        let y = map_got area_in xs k b (subst (λ (ys : List ℕ). slice_get ys k ≡ Some b) areas hb) in
        let low = rising j k x.0 order (slice_get_within xs k y.0 y.1) in
        let first : area_in x.0 ≡ a = x.2 in
        let second : area_in y.0 ≡ b = y.2 in
        let at_j = ap area_in (get_or_from_slice_get xs j x.0 x.0 x.1) in
        let at_k = ap area_in (get_or_from_slice_get xs k y.0 x.0 y.1) in
        omega (arith, low, first, second, at_j, at_k);
  }

  pub gates_listed : AreGateCells l g
  gates_listed = subst (λ (o : Library). AreGateCells o g) is own_gates
