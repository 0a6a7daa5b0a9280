use Rattle.std.proofs.Common.{get_or, rules}
use Rattle.std.proofs.lemmas.List.Sorted.{answers_always}
use Rattle.maze_wires.proofs.Orders.{sorted_apart, wire_place, wires_apart}
use Rattle.maze_wires.proofs.order.sort_wires.Goals as goal

pub returns : goal.returns
returns c =
    let s = sorted_apart wire_place c.args.wires.now.items c.sort_by_key.new.self.items c.sort_by_key.ensures.permutation
    (c.in_ok-sort_by_key.ensures.sorted wire_place (answers_always _ _ _ (λ f a r g h. search rules)))
    (λ i j d lt below. wires_apart (get_or c.args.wires.now.items i d) (get_or c.args.wires.now.items j d) (c.requires.different i j d lt below)) in
    record { same = s.same; ordered = s.ordered }
