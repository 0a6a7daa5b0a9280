use Rattle.std.proofs.Common.{◌<◌, ◌^◌, ◌∙◌, ℕ, List, length, slice_index, ap, subst, sym}
use Rattle.cell_match.specs.Places.{times}
use Rattle.boog_tree.specs.Sums.{total}
use Rattle.boog_area.proofs.area.whole_area.Goals as goal

pub sum_of_bounds-requires-clause-few : goal.sum_of_bounds-requires-clause-few
sum_of_bounds-requires-clause-few c = subst (λ (r : List ℕ). length r < 2 ^ 32) (sym c.deref.ensures.value) c.requires.few

pub sum_of_bounds-requires-clause-there : goal.sum_of_bounds-requires-clause-there
sum_of_bounds-requires-clause-there c =
    subst (λ (b : List ℕ). (x : ℕ) → 0 < times x c.deref.result.now → x < length b) (sym c.deref-2.ensures.value)
    (subst (λ (r : List ℕ). (x : ℕ) → 0 < times x r → x < length c.args.cover.now.bounds.items) (sym c.deref.ensures.value) c.requires.there)

pub returns : goal.returns
returns c =
    c.sum_of_bounds.ensures ∙ ap (λ (r : List ℕ). total (slice_index c.deref-2.result.now) r) c.deref.ensures.value
    ∙ ap (λ (b : List ℕ). total (slice_index b) c.args.cover.now.trees.items) c.deref-2.ensures.value
