use Rattle.std.proofs.Common.{◌<◌, ℕ, Bool, List, map, length, ap, ◌∙◌, sym, subst, arith, All}
use Rattle.std.proofs.lemmas.List.{length-map}
use Rattle.truth_tab.specs.Table.{bit, value_of}
use Rattle.cell_match.specs.Places.{place}
use Rattle.cell_match.proofs.Matching.{places_below}
use Rattle.boog_cuts.proofs.Joining.{bits_of_leaves}
use Rattle.boog_cuts.proofs.merge.on_nodes.Goals as goal

pub gathered-requires : goal.gathered-requires
gathered-requires g c =
    let is = c.as_slice.ensures.value ∙ c.places-places.ensures in
    let many = ap (λ (xs : List ℕ). length xs) is ∙ length-map c.args.leaves.now (λ x. place x c.args.nodes.now) in
    let leaves = c.requires.leaves in (
      omega arith,
      (
        omega arith,
        (
          c.requires.few,
          (
            c.requires.few,
            (
              omega (arith, many, leaves),
              subst (λ (xs : List ℕ). All (λ p. p < g.row.K) xs) (sym is) (places_below g.row.K c.args.nodes.now c.args.leaves.now c.requires.nodes c.requires.known),
            ),
          ),
        ),
      ),
    )

pub returns : goal.returns
returns g c = λ f.
    let is = c.as_slice.ensures.value ∙ c.places-places.ensures in
    let many = length-map c.args.nodes.now f in
    let nodes = c.requires.nodes in
    c.gathered.ensures (map f c.args.nodes.now) (omega (arith, many, nodes))
    ∙ ap (λ (xs : List ℕ). value_of c.args.word.word (map (λ p. bit (map f c.args.nodes.now) p) xs)) is
    ∙ ap (λ (bs : List Bool). value_of c.args.word.word bs) (bits_of_leaves f c.args.nodes.now c.args.leaves.now c.requires.known)
