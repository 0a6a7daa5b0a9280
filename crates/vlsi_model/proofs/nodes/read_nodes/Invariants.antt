use Rattle.std.proofs.Common.{◌≡◌, map, take}
use Rattle.std.specs.Prelude.{filter, nat_lt, slice_index}
use Rattle.vlsi_model.proofs.nodes.read_nodes.Given as goal

abbrev pub invariant-loop-k : goal.invariant-loop-k
invariant-loop-k l = l.read.items ≡ filter (λ n. nat_lt n l.count) (map (slice_index l.nodes) (take l.k-index l.k-items))
