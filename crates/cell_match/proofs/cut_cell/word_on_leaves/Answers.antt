use Rattle.std.proofs.Common.{◌<◌, ℕ, Bool, List, map, length, ap, ◌∙◌, sym, subst, arith, All}
use Rattle.std.proofs.lemmas.List.{length-map}
use Rattle.truth_tab.specs.Table.{bit, value_of}
use Rattle.cell_match.specs.Places.{place}
use Rattle.cell_match.proofs.Composing.{map_twice}
use Rattle.cell_match.proofs.Matching.{places_below}
use Rattle.cell_match.proofs.cut_cell.word_on_leaves.Goals as goal

pub gathered-word-requires : goal.gathered-word-requires
gathered-word-requires g c =
    let leaves = c.as_slice-leaves.result.now in
    let is = c.as_slice.ensures.value ∙ c.places-places.ensures in
    let many = ap (λ (xs : List ℕ). length xs) is ∙ length-map leaves (λ x. place x leaves) in
    let fits = c.as_slice-leaves.ensures.fits in
    let few = c.requires.few in (
      omega arith,
      (
        omega arith,
        (
          c.requires.few,
          (
            omega arith,
            (
              omega (arith, many, fits),
              subst (λ (xs : List ℕ). All (λ p. p < 6) xs) (sym is) (places_below 6 leaves leaves (omega (arith, fits, few)) (λ x h. h)),
            ),
          ),
        ),
      ),
    )

pub returns : goal.returns
returns g c = λ v h.
    let leaves = c.as_slice-leaves.result.now in
    let is = c.as_slice.ensures.value ∙ c.places-places.ensures in
    let word = c.args.cut.now.word.word in
    c.gathered-word.ensures v (omega arith)
    ∙ ap (λ (xs : List ℕ). value_of word (map (λ p. bit v p) xs)) is
    ∙ ap (λ (bs : List Bool). value_of word bs) (map_twice (λ p. bit v p) (λ x. place x leaves) leaves)
    ∙ ap (λ (xs : List ℕ). value_of word (map (λ x. bit v (place x xs)) xs)) c.as_slice-leaves.ensures.value
