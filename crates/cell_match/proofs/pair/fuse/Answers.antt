use Rattle.std.proofs.Common.{◌≡◌, ◌<◌, ℕ, Bool, List, map, length, slice_index, None, Some, ap, sym, subst, ◌∙◌, arith}
use Rattle.truth_tab.specs.Table.{bit, value_of}
use Rattle.cell_match.specs.Places.{times, place, AreRead}
use Rattle.cell_match.specs.Computes.{composed, Computes}
use Rattle.cell_match.specs.Cells.{IsMatch}
use Rattle.cell_match.proofs.Fusing.{match_computes, computes_match}
use Rattle.cell_match.proofs.pair.fuse.Goals as goal

pub arranged-requires-clause-within : goal.arranged-requires-clause-within
arranged-requires-clause-within c =
    let f = c.in-Some-find.ensures in
    let is_match = (c.requires.table.1 c.len.result f.0 f.1).found c.composed_word-word.result c.in-Some-find.found.now (sym f.2) in
    let long = c.len.ensures.value in
    let many = ap (λ (xs : List ℕ). length xs) c.as_slice-in-Some-find.ensures.value in
    λ i some.
    let low = is_match.ordered.within i (subst (λ (xs : List ℕ). 0 < times i xs) c.as_slice-in-Some-find-2.ensures.value some) in
    omega (arith, low, long, many)

pub returns-in-Some-find-clause-some : goal.returns-in-Some-find-clause-some
returns-in-Some-find-clause-some c =
    let cells = c.args.cells.now in
    let inner = c.args.inner.now in
    let outer = c.args.outer.now in
    let a = c.args.a in
    let nodes = c.in-Some.nodes.items in
    let read : AreRead inner.leaves.items outer.leaves.items a nodes =
    subst (λ (xs : List ℕ). AreRead xs outer.leaves.items a nodes) c.as_slice.ensures.value
    (subst (λ (xs : List ℕ). AreRead c.as_slice.result.now xs a nodes) c.as_slice-2.ensures.value c.in-Some.ensures.some) in
    let f = c.in-Some-find.ensures in
    let is_match : IsMatch cells (length nodes) c.composed_word-word.result c.in-Some-find.found.now.cell c.in-Some-find.found.now.order.items =
    subst (λ (n : ℕ). IsMatch cells n c.composed_word-word.result c.in-Some-find.found.now.cell c.in-Some-find.found.now.order.items) c.len.ensures.value
    ((c.requires.table.1 c.len.result f.0 f.1).found c.composed_word-word.result c.in-Some-find.found.now (sym f.2)) in
    let value : (v : List Bool) → length v ≡ 6 → value_of c.composed_word-word.result v ≡ composed cells inner outer a (λ x. bit v (place x nodes)) =
    subst (λ (xs : List ℕ). (v : List Bool) → length v ≡ 6 → value_of c.composed_word-word.result v ≡ composed cells inner outer a (λ x. bit v (place x xs)))
    c.as_slice-in-Some.ensures.value c.composed_word-word.ensures in
    let long = c.len.ensures.value in
    let fits = c.len.ensures.fits in
    let leaves : c.arranged.result.items ≡ map (slice_index nodes) c.in-Some-find.found.now.order.items =
    c.arranged.ensures ∙ ap (λ (xs : List ℕ). map (slice_index xs) c.as_slice-in-Some-find-2.result.now) c.as_slice-in-Some-find.ensures.value
    ∙ ap (λ (xs : List ℕ). map (slice_index nodes) xs) c.as_slice-in-Some-find-2.ensures.value in
    subst (λ (xs : List ℕ). Computes cells c.in-Some-find.found.now.cell xs inner outer a) (sym leaves)
    (match_computes cells inner outer a nodes read (omega (arith, long, fits)) c.composed_word-word.result value c.in-Some-find.found.now.cell c.in-Some-find.found.now.order.items is_match)

pub returns-in-None-find-clause-none : goal.returns-in-None-find-clause-none
returns-in-None-find-clause-none c = λ k order does.
    let cells = c.args.cells.now in
    let inner = c.args.inner.now in
    let outer = c.args.outer.now in
    let a = c.args.a in
    let nodes = c.in-Some.nodes.items in
    let read : AreRead inner.leaves.items outer.leaves.items a nodes =
    subst (λ (xs : List ℕ). AreRead xs outer.leaves.items a nodes) c.as_slice.ensures.value
    (subst (λ (xs : List ℕ). AreRead c.as_slice.result.now xs a nodes) c.as_slice-2.ensures.value c.in-Some.ensures.some) in
    let value : (v : List Bool) → length v ≡ 6 → value_of c.composed_word-word.result v ≡ composed cells inner outer a (λ x. bit v (place x nodes)) =
    subst (λ (xs : List ℕ). (v : List Bool) → length v ≡ 6 → value_of c.composed_word-word.result v ≡ composed cells inner outer a (λ x. bit v (place x xs)))
    c.as_slice-in-Some.ensures.value c.composed_word-word.ensures in
    let long = c.len.ensures.value in
    let fits = c.len.ensures.fits in
    let f = c.in-None-find.ensures in
    let is_match = computes_match cells inner outer a nodes read (omega (arith, long, fits)) c.composed_word-word.result value k order does in
    let known = (c.requires.table.1 c.len.result f.0 f.1).every c.composed_word-word.result k (map (λ x. place x nodes) order) c.composed_word-word.type_inv
    (subst (λ (n : ℕ). IsMatch cells n c.composed_word-word.result k (map (λ x. place x nodes) order)) (sym c.len.ensures.value) is_match) in
    let clash : None ≡ Some known.0 = f.2 ∙ known.1 in
    cc
