use Rattle.std.proofs.Common.{◌≡◌, ◌/◌, map, take}
use Rattle.ocp_anneal.proofs.across.in_columns.Given as goal

abbrev pub invariant-loop-width : goal.invariant-loop-width
invariant-loop-width l = l.columns.items ≡ map (λ w. w / 500) (take l.width-index l.widths)
