use Rattle.std.proofs.Common.{◌≡◌, ◌≤◌, ◌<◌, ℕ, Bool, true, false, List, map, length, set, ap, ap₂, ◌∙◌, arith}
use Rattle.std.proofs.lemmas.List.{length-map}
use Rattle.truth_tab.specs.Table.{bit, value_of}
use Rattle.cell_match.specs.Cells.{cell_value, gate_value}
use Rattle.cell_match.specs.Places.{place, place_but}
use Rattle.cell_match.specs.Computes.{put}
use Rattle.cell_match.proofs.Pigeons.{place_there}
use Rattle.cell_match.proofs.Composing.{picked, places_but, places_put}
use Rattle.cell_match.proofs.word.composed_word.Goals as goal

pub with-requires : goal.with-requires
with-requires c =
    let is = c.place-at.ensures ∙ ap (λ (xs : List ℕ). place c.args.a xs) c.as_slice-leaves.ensures.value in
    let low = (place_there c.args.a c.args.outer.now.leaves.items c.requires.there).0 in
    let many = ap (λ (xs : List ℕ). length xs) c.as_slice-leaves.ensures.value in
    let few = c.as_slice-leaves.ensures.fits in
    omega (arith, is, low, many, few)

pub with-requires-2 : goal.with-requires-2
with-requires-2 c =
    let is = c.place-at.ensures ∙ ap (λ (xs : List ℕ). place c.args.a xs) c.as_slice-leaves.ensures.value in
    let low = (place_there c.args.a c.args.outer.now.leaves.items c.requires.there).0 in
    let many = ap (λ (xs : List ℕ). length xs) c.as_slice-leaves.ensures.value in
    let few = c.as_slice-leaves.ensures.fits in
    omega (arith, is, low, many, few)

pub returns : goal.returns
returns c = λ v h.
    let a = c.args.a in
    let nodes = c.args.nodes.now in
    let inner = c.args.inner.now in
    let outer = c.args.outer.now in
    let f : ℕ → Bool = λ x. bit v (place x nodes) in
    let g : ℕ → Bool = λ x. bit v (place_but a nodes x) in
    let cells = c.args.cells.now in
    let leaves = c.as_slice-leaves.result.now in
    let is_leaves = c.as_slice-leaves.ensures.value in
    let low = (place_there a outer.leaves.items c.requires.there).0 in
    let is_at : c.place-at.result ≡ place a outer.leaves.items = c.place-at.ensures ∙ ap (λ (xs : List ℕ). place a xs) is_leaves in
    let many = ap (λ (xs : List ℕ). length xs) is_leaves in
    let long = length-map leaves g in
    let fits = c.as_slice-leaves.ensures.fits in
    let below : c.place-at.result < length (map g leaves) = omega (arith, is_at, low, many, long) in
    let few : length (map g leaves) ≤ 6 = omega (arith, long, fits) in
    let by_h : value_of c.on_nodes-h.result.word v ≡ gate_value cells inner f =
    c.on_nodes-h.ensures v h
    ∙ ap (λ (xs : List ℕ). cell_value cells inner.cell (map g xs)) c.as_slice.ensures.value
    ∙ ap (λ (bs : List Bool). cell_value cells inner.cell bs) (places_but a nodes v inner.leaves.items c.requires.other) in
    let once = c.requires.outer.1.once a in
    let put_in = λ (t : Bool). ap₂ (λ (xs : List ℕ) (n : ℕ). cell_value cells outer.cell (set (map g xs) n t)) is_leaves is_at
    ∙ ap (λ (bs : List Bool). cell_value cells outer.cell bs) (places_put a nodes v t outer.leaves.items once c.requires.there) in
    let by_one : value_of c.on_nodes-one.result.word v ≡ cell_value cells outer.cell (map (put a true f) outer.leaves.items) =
    c.on_nodes-one.ensures v h ∙ c.with.ensures (map g leaves) below few ∙ put_in true in
    let by_zero : value_of c.on_nodes-zero.result.word v ≡ cell_value cells outer.cell (map (put a false f) outer.leaves.items) =
    c.on_nodes-zero.ensures v h ∙ c.with-2.ensures (map g leaves) below few ∙ put_in false in
    c.choice.ensures v h ∙ picked _ _ _ _ (λ t. cell_value cells outer.cell (map (put a t f) outer.leaves.items)) by_h by_one by_zero
