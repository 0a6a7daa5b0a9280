use Rattle.std.proofs.Common.{◌≡◌, ℕ, List, length, drop, IsPermutation, sym, subst, ◌∙◌}
use Rattle.std.proofs.lemmas.List.{take_at}
use Rattle.std.proofs.lemmas.List.Sorted.{length_permutation}
use Rattle.maze_probe.specs.Spots.{AreApart}
use Rattle.maze_probe.proofs.Spread.{apart_from_spread}
use Rattle.maze_probe.proofs.places.places.Goals as goal

pub returns : goal.returns
returns c =
    let spread = c.in_ok-places.places in
    let shuffled = c.shuffle.new.self in
    let permutation : IsPermutation spread.items shuffled = subst (λ (xs : List ℕ). IsPermutation xs shuffled) c.deref_mut.ensures.value c.shuffle.ensures.permutation in
    let size : length shuffled ≡ spread.len = length_permutation spread.items shuffled permutation ∙ sym spread.ok.0 in
    subst (λ (xs : List ℕ). AreApart c.args.limit c.args.count xs) (sym (take_at shuffled (drop (length shuffled) spread.items) spread.len size))
    (apart_from_spread c.args.limit c.args.count spread.items shuffled c.in_ok-places.ensures permutation)
