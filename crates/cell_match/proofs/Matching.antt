-- A cell for a cut, and the cut's word.
use Rattle.std.proofs.Common.{◌≡◌, ℕ, ◌<◌, ◌≤◌, Bool, List, map, length, slice_index, get_or, All, ap, sym, subst, ◌∙◌, arith}
use Rattle.std.proofs.lemmas.List.{length-map}
use Rattle.std.proofs.lemmas.List.Elements.{All-map, All-from_get_or}
use Rattle.truth_tab.specs.Table.{bit, value_of}
use Rattle.cell_match.specs.declared.gate.CellWord.{CellWord}
use Rattle.cell_match.specs.Places.{times, place}
use Rattle.cell_match.specs.Cells.{cell_value, IsMatch}
use Rattle.cell_match.proofs.Numbers.{times_some}
use Rattle.cell_match.proofs.Pigeons.{no_longer, every_place, place_there, place_apart}
use Rattle.cell_match.proofs.Composing.{map_on, map_twice}
use Rattle.cell_match.proofs.Fusing.{mapped_some, mapped_in, mapped_once, place_at, pad, pad_long, pad_bit, mapped_bit}
use Rattle.cell_match.specs.declared.cut.Cut.{Cut}
use Rattle.cell_match.specs.Computes.{cut_value, ComputesCut}

pub places_below : (n : ℕ) (nodes leaves : List ℕ) → length nodes ≤ n → ((x : ℕ) → 0 < times x leaves → 0 < times x nodes)
    → All (λ p. p < n) (map (λ x. place x nodes) leaves)
places_below n nodes leaves few known = All-map (λ p. p < n) (λ x. place x nodes) leaves (All-from_get_or (λ x. place x nodes < n) leaves 0 (λ i low.
    let p = (place_there (get_or leaves i 0) nodes (known (get_or leaves i 0) (times_some leaves i low))).0 in omega arith))

module _ {K : ℕ} (cells : List CellWord) (c : Cut K) (once : (x : ℕ) → times x c.leaves.items ≤ 1) (few : length c.leaves.items ≤ 6) (word : ℕ)
    (value : (v : List Bool) → length v ≡ 6 → value_of word v ≡ cut_value c (λ x. bit v (place x c.leaves.items))) where
  pub match_computes : (k : ℕ) (order : List ℕ) → IsMatch cells (length c.leaves.items) word k order
      → ComputesCut cells k (map (slice_index c.leaves.items) order) c
  match_computes k order is = record {
    there = is.there;
    many = length-map order (slice_index c.leaves.items) ∙ is.ordered.many ∙ sym is.inputs;
    once = mapped_once (slice_index c.leaves.items) order is.ordered.once (λ x y hx hy e.
        sym (place_at c.leaves.items x (is.ordered.within x hx) once) ∙ ap (λ (n : ℕ). place n c.leaves.items) e ∙ place_at c.leaves.items y (is.ordered.within y hy) once);
    members = λ x. (
      λ some.
          let i = mapped_some (slice_index c.leaves.items) x order some in
          subst (λ (n : ℕ). 0 < times n c.leaves.items) i.2 (times_some c.leaves.items i.0 (is.ordered.within i.0 i.1)),
      λ why.
          let at = place_there x c.leaves.items why in
          subst (λ (n : ℕ). 0 < times n (map (slice_index c.leaves.items) order)) at.1
          (mapped_in (slice_index c.leaves.items) (place x c.leaves.items) order (every_place (length c.leaves.items) order is.ordered (place x c.leaves.items) at.0)),
    );
    value = λ f.
        let v = pad (map f c.leaves.items) 6 in
        let long = pad_long (map f c.leaves.items) 6 in
        let at : (i : ℕ) → i < length c.leaves.items → bit v i ≡ f (slice_index c.leaves.items i) =
        λ i low. pad_bit (map f c.leaves.items) 6 i (omega arith) ∙ mapped_bit f c.leaves.items i low in
        let by_order : map (λ i. bit v i) order ≡ map f (map (slice_index c.leaves.items) order) =
        map_on (λ i. bit v i) (λ i. f (slice_index c.leaves.items i)) order (λ i some. at i (is.ordered.within i some))
        ∙ sym (map_twice f (slice_index c.leaves.items) order) in
        ap (cell_value cells k) (sym by_order) ∙ sym (is.same v long) ∙ value v long
        ∙ ap (λ (bs : List Bool). value_of c.word.word bs) (map_on (λ x. bit v (place x c.leaves.items)) f c.leaves.items (λ x some.
        let p = place_there x c.leaves.items some in at (place x c.leaves.items) p.0 ∙ ap f p.1));
  }

  same_long : (k : ℕ) (order : List ℕ) → ComputesCut cells k order c → length order ≡ length c.leaves.items
  same_long k order does =
      let one_way = no_longer order c.leaves.items does.once (λ x some. (does.members x).0 some) in
      let other_way = no_longer c.leaves.items order once (λ x some. (does.members x).1 some) in
      omega arith

  pub computes_match : (k : ℕ) (order : List ℕ) → ComputesCut cells k order c → IsMatch cells (length c.leaves.items) word k (map (λ x. place x c.leaves.items) order)
  computes_match k order does = record {
    there = does.there;
    inputs = sym does.many ∙ same_long k order does;
    ordered = record {
      many = length-map order (λ x. place x c.leaves.items) ∙ same_long k order does;
      within = λ i some.
          let x = mapped_some (λ x. place x c.leaves.items) i order some in
          let p = (place_there x.0 c.leaves.items ((does.members x.0).0 x.1)).0 in
          let e = x.2 in omega arith;
      once = mapped_once (λ x. place x c.leaves.items) order does.once (λ x y hx hy e.
          place_apart x y c.leaves.items ((does.members x).0 hx) ((does.members y).0 hy) e);
    };
    same = λ v h. value v h ∙ sym (does.value (λ x. bit v (place x c.leaves.items)))
        ∙ ap (cell_value cells k) (sym (map_twice (λ i. bit v i) (λ x. place x c.leaves.items) order));
  }
