use Rattle.std.proofs.Common.{◌<◌, ℕ, Bool, List, map, length, ap, ◌∙◌, sym, subst, arith, All}
use Rattle.std.proofs.lemmas.List.{length-map}
use Rattle.truth_tab.specs.Table.{bit, value_of}
use Rattle.cell_match.specs.Places.{place_but}
use Rattle.cell_match.proofs.Composing.{places_low, map_twice}
use Rattle.cell_match.proofs.word.on_nodes.Goals as goal

pub gathered-requires : goal.gathered-requires
gathered-requires c =
    let is = c.as_slice.ensures.value ∙ c.places_but-places.ensures in
    let many = ap (λ (xs : List ℕ). length xs) is ∙ length-map c.args.leaves.now (place_but c.args.a c.args.nodes.now) in
    let few = c.requires.few in (
      omega arith,
      (
        omega arith,
        (
          omega arith,
          (
            omega arith,
            (
              omega (arith, many, few),
              subst (λ (xs : List ℕ). All (λ p. p < 6) xs) (sym is) (places_low c.args.a c.args.nodes.now c.args.leaves.now c.requires.few_nodes c.requires.known),
            ),
          ),
        ),
      ),
    )

pub returns : goal.returns
returns c = λ v h.
    let is = c.as_slice.ensures.value ∙ c.places_but-places.ensures in
    c.gathered.ensures v (omega arith)
    ∙ ap (λ (xs : List ℕ). value_of c.args.word.word (map (λ p. bit v p) xs)) is
    ∙ ap (λ (bs : List Bool). value_of c.args.word.word bs) (map_twice (λ p. bit v p) (place_but c.args.a c.args.nodes.now) c.args.leaves.now)
