use Rattle.std.proofs.Common.{◌≡◌, ◌<◌, ℕ, List, map, length, slice_index, None, Some, ap, sym, subst, ◌∙◌, arith}
use Rattle.std.proofs.lemmas.List.{length-map}
use Rattle.cell_match.specs.Places.{times, place}
use Rattle.cell_match.specs.Cells.{IsMatch}
use Rattle.cell_match.specs.Computes.{ComputesCut}
use Rattle.cell_match.proofs.Matching.{match_computes, computes_match}
use Rattle.cell_match.proofs.cut_cell.matched.Goals as goal

pub arranged-requires-clause-within : goal.arranged-requires-clause-within
arranged-requires-clause-within g c =
    let f = c.in-Some.ensures in
    let is_match = (c.requires.table.1 (length c.as_slice-leaves.result.now) f.0 f.1).found c.word_on_leaves-word.result c.in-Some.found.now (sym f.2) in
    λ i some. is_match.ordered.within i (subst (λ (xs : List ℕ). 0 < times i xs) c.as_slice.ensures.value some)

pub returns-in-Some-clause-some : goal.returns-in-Some-clause-some
returns-in-Some-clause-some g c =
    let cells = c.args.cells.now in
    let nodes = c.args.cut.now.leaves.items in
    let is = c.as_slice-leaves.ensures.value in
    let word = c.word_on_leaves-word.result in
    let found = c.in-Some.found.now in
    let f = c.in-Some.ensures in
    let is_match : IsMatch cells (length nodes) word found.cell found.order.items =
    subst (λ (xs : List ℕ). IsMatch cells (length xs) word found.cell found.order.items) is
    ((c.requires.table.1 (length c.as_slice-leaves.result.now) f.0 f.1).found word found (sym f.2)) in
    let fits = c.as_slice-leaves.ensures.fits in
    let few = c.requires.few in
    let many = ap (λ (xs : List ℕ). length xs) is in
    let leaves : c.arranged.result.items ≡ map (slice_index nodes) found.order.items =
    c.arranged.ensures ∙ ap (λ (xs : List ℕ). map (slice_index xs) c.as_slice.result.now) is
    ∙ ap (λ (xs : List ℕ). map (slice_index nodes) xs) c.as_slice.ensures.value in
    subst (λ (xs : List ℕ). ComputesCut cells found.cell xs c.args.cut.now) (sym leaves)
    (match_computes cells c.args.cut.now c.requires.once (omega (arith, fits, few, many)) word c.word_on_leaves-word.ensures found.cell found.order.items is_match)

pub returns-in-Some-clause-few : goal.returns-in-Some-clause-few
returns-in-Some-clause-few g c =
    let f = c.in-Some.ensures in
    let is_match = (c.requires.table.1 (length c.as_slice-leaves.result.now) f.0 f.1).found c.word_on_leaves-word.result c.in-Some.found.now (sym f.2) in
    let fits = c.as_slice-leaves.ensures.fits in
    let order = ap (λ (xs : List ℕ). length xs) c.as_slice.ensures.value in
    let many = is_match.ordered.many in
    let mapped = length-map c.as_slice.result.now (slice_index c.as_slice-leaves.result.now) in
    let long = ap (λ (xs : List ℕ). length xs) c.arranged.ensures in
    omega (arith, fits, order, many, mapped, long)

pub returns-in-Some-clause-first : goal.returns-in-Some-clause-first
returns-in-Some-clause-first g c = λ k order does.
    let cells = c.args.cells.now in
    let nodes = c.args.cut.now.leaves.items in
    let is = c.as_slice-leaves.ensures.value in
    let word = c.word_on_leaves-word.result in
    let fits = c.as_slice-leaves.ensures.fits in
    let few = c.requires.few in
    let many = ap (λ (xs : List ℕ). length xs) is in
    let f = c.in-Some.ensures in
    let is_match = computes_match cells c.args.cut.now c.requires.once (omega (arith, fits, few, many)) word c.word_on_leaves-word.ensures k order does in
    (c.requires.table.1 (length c.as_slice-leaves.result.now) f.0 f.1).first word k (map (λ x. place x nodes) order) c.in-Some.found.now c.word_on_leaves-word.type_inv
    (sym f.2) (subst (λ (xs : List ℕ). IsMatch cells (length xs) word k (map (λ x. place x nodes) order)) (sym is) is_match)

pub returns-in-None-clause-none : goal.returns-in-None-clause-none
returns-in-None-clause-none g c = λ k order does.
    let cells = c.args.cells.now in
    let nodes = c.args.cut.now.leaves.items in
    let is = c.as_slice-leaves.ensures.value in
    let word = c.word_on_leaves-word.result in
    let fits = c.as_slice-leaves.ensures.fits in
    let few = c.requires.few in
    let many = ap (λ (xs : List ℕ). length xs) is in
    let f = c.in-None.ensures in
    let is_match = computes_match cells c.args.cut.now c.requires.once (omega (arith, fits, few, many)) word c.word_on_leaves-word.ensures k order does in
    let known = (c.requires.table.1 (length c.as_slice-leaves.result.now) f.0 f.1).every word k (map (λ x. place x nodes) order) c.word_on_leaves-word.type_inv
    (subst (λ (xs : List ℕ). IsMatch cells (length xs) word k (map (λ x. place x nodes) order)) (sym is) is_match) in
    let clash : None ≡ Some known.0 = f.2 ∙ known.1 in
    cc
