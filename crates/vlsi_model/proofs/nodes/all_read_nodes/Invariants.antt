use Rattle.std.proofs.Common.{◌≡◌, map, take}
use Rattle.std.specs.Prelude.{ℕ}
use Rattle.std.specs.Global.{Vec}
use Rattle.bool_expr.specs.View.{view}
use Rattle.source_bits.specs.declared.driven.DrivenBit.{DrivenBit}
use Rattle.vlsi_model.specs.Nodes.{nodes_read}
use Rattle.vlsi_model.proofs.nodes.all_read_nodes.Given as goal

abbrev pub invariant-loop-d : goal.invariant-loop-d
invariant-loop-d l = map (λ (read : Vec ℕ). read.items) l.all.items ≡ map (λ (d : DrivenBit). nodes_read l.count l.nodes (view d.expr)) (take l.d-index l.driven)
