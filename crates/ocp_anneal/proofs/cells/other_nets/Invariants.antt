use Rattle.std.proofs.Common.{◌≡◌, map, filter}
use Rattle.std.specs.Prelude.{slice_index_or, []}
use Rattle.cell_model.specs.Access.{count_to}
use Rattle.ocp_anneal.specs.Cells.{is_other}
use Rattle.ocp_anneal.proofs.cells.other_nets.Given as goal

abbrev pub invariant-loop-class : goal.invariant-loop-class
invariant-loop-class l =
    map (λ v. v.items) l.others.items ≡ map (λ c. slice_index_or (map (λ v. v.items) l.nets) c []) (filter (is_other l.high l.low) (count_to l.class))
