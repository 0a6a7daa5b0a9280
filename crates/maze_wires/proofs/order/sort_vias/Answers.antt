use Rattle.std.proofs.Common.{rules}
use Rattle.std.proofs.lemmas.Fn.{dedup_same}
use Rattle.std.proofs.lemmas.List.Sorted.{answers_always}
use Rattle.maze_wires.proofs.Orders.{key_eq, sorted_once, via_place, vias_one}
use Rattle.maze_wires.proofs.order.sort_vias.Goals as goal

pub returns : goal.returns
returns c =
    let s = sorted_once via_place vias_one c.args.vias.now.items c.sort_by_key.new.self.items c.dedup_by_key.new.self.items c.sort_by_key.ensures.permutation
    (c.in_ok-sort_by_key.ensures.sorted via_place (answers_always _ _ _ (λ f a r g h. search rules)))
    (dedup_same _ (λ x y. key_eq (via_place x) (via_place y)) _ (λ x y b f x' y' k. search rules) _ _ c.dedup_by_key.ensures.filtered) in
    record { same = s.same; ordered = s.ordered }
