use Rattle.std.proofs.Common.{◌≡◌, ◌≤◌, ◌*◌, map, filter, not, ◌||◌, nat_eq}
use Rattle.std.specs.Prelude.{sum, slice_index_or, []}
use Rattle.cell_model.specs.Access.{count_to}
use Rattle.ocp_rows.specs.Length.{half_box}
use Rattle.ocp_place.proofs.length.length.Given as goal

abbrev pub invariant-loop-class : goal.invariant-loop-class
invariant-loop-class l = record {
  sum : l.sum ≡ sum (map (λ k. half_box (slice_index_or l.placement.ends k []))
      (filter (λ k. not (nat_eq k l.placement.high || nat_eq k l.placement.low)) (count_to l.class)));
  near : l.sum ≤ 200000000000000 * l.class;
}
