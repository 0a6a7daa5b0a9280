-- What the first rows of a netlist hold.
use Rattle.std.proofs.Common.{◌≡◌, false, ℕ, ◌≤◌, List, length, flat_map, IsPermutation, sym, ap, subst, ◌∙◌, arith}
use Rattle.std.proofs.lemmas.List.{length-map}
use Rattle.std.proofs.lemmas.List.Sorted.{IsPermutation-refl}
use Rattle.cell_model.specs.Library.{Library}
use Rattle.cell_checks.specs.Checked.{IsChecked as HasPassed}
use Rattle.net_core.specs.Netlist.{Netlist as InMemory}
use Rattle.net_meaning.specs.Netlist.{AbstractNetlist}
use Rattle.net_right.specs.View.{IsSeenAs, member_of}
use Rattle.net_right.proofs.Terminals.{seen_instances}
use Rattle.row_meaning.specs.First.{numbers, first_rows, AreEven}
use Rattle.row_fill.specs.Law.{IsGoodStart}
use Rattle.row_fill.proofs.Filling.{good_start}
use Rattle.ocp_place.specs.Drawable.{IsDrawableIn}
use Rattle.ocp_place.specs.Stood.{instance_columns}
use Rattle.ocp_place.proofs.Classes.{known, known_seen}
use Rattle.ocp_place.proofs.Seen.{orderly}
use Rattle.ocp_place.proofs.Widths.{columns_all}

module _ (l : Library) (n : InMemory) (passed : HasPassed false l) (given : IsDrawableIn l n) (many : ℕ) (some : 1 ≤ many) (rows : List (List ℕ))
    (are : (k : AbstractNetlist) → IsSeenAs n k → rows ≡ first_rows (instance_columns l k.instances) many) where
  good : (k : AbstractNetlist) → IsSeenAs n k → IsGoodStart (instance_columns l k.instances) many
  good k seen =
      let all = columns_all k l passed (orderly l n passed given k seen) in
      good_start (instance_columns l k.instances) many (omega arith) (λ j d low. (all j d low).0)

  pub first_count : length rows ≡ many
  first_count = let k = known n in let seen = known_seen n given.sound in ap length (are k seen) ∙ (good k seen).each.count

  pub first_even : (k : AbstractNetlist) → IsSeenAs n k → AreEven (instance_columns l k.instances) rows
  first_even k seen = subst (AreEven (instance_columns l k.instances)) (sym (are k seen)) (good k seen).even

  pub first_once : IsPermutation (flat_map (λ row. row) rows) (numbers 0 (length n.instances))
  first_once =
      let k = known n in
      let seen = known_seen n given.sound in
      let count : length (instance_columns l k.instances) ≡ length n.instances = length-map k.instances _ ∙ ap length (seen_instances n k seen) ∙ length-map n.instances member_of in
      let order : flat_map (λ row. row) rows ≡ numbers 0 (length n.instances) =
      ap (λ (rs : List (List ℕ)). flat_map (λ row. row) rs) (are k seen) ∙ (good k seen).order ∙ ap (numbers 0) count in
      subst (λ (xs : List ℕ). IsPermutation (flat_map (λ row. row) rows) xs) order (IsPermutation-refl (flat_map (λ row. row) rows))
