use Rattle.std.proofs.Common.{◌≡◌, ◌∙◌, ◌++◌, ◌-◌, ap, arith, List}
use Rattle.subject_table.specs.declared.table.Node.{Node as Kind}
use Rattle.subject_graph.proofs.Finished.{graph_made, room_lent}
use Rattle.subject_graph.proofs.graph.Graph.of_machine.Goals as goal

pub shown_numbers-requires : goal.shown_numbers-requires
shown_numbers-requires c =
    let t = c.in_ok-table.field-0.table in
    let copied : c.extend_from_slice.new.self.items ≡ t.nodes.keys =
    c.in_ok-extend_from_slice.ensures.items ∙ ap (λ (xs : List Kind). xs ++ c.as_slice.result.now) c.new-nodes.ensures.items ∙ c.as_slice.ensures.keys in
    room_lent c.args.m.now t c.in_ok-table.field-0.outputs.items c.in_ok-table.field-0.loads.items c.extend_from_slice.new.self.items c.deref.result.now c.requires c.in_ok-table.ensures
    c.as_slice.ensures.unique copied c.deref.ensures.value

pub returns : goal.returns
returns c =
    let t = c.in_ok-table.field-0.table in
    let copied : c.extend_from_slice.new.self.items ≡ t.nodes.keys =
    c.in_ok-extend_from_slice.ensures.items ∙ ap (λ (xs : List Kind). xs ++ c.as_slice.result.now) c.new-nodes.ensures.items ∙ c.as_slice.ensures.keys in
    graph_made c.args.m.now t c.in_ok-table.field-0.outputs.items c.in_ok-table.field-0.loads.items c.extend_from_slice.new.self.items c.shown_numbers.new.nodes.items c.deref.result.now
    c.in_ok-outputs.outputs.items (t.held - c.len.result) c.in_ok-table.ensures c.as_slice.ensures.unique copied c.deref.ensures.value (let count = c.len.ensures in let all = c.in_ok-table.field-0.loads.ok in omega (arith, count, all))
    c.in_ok-outputs.ensures
