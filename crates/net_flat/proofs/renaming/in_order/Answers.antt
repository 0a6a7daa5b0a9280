use Rattle.std.proofs.Common.{map, rules}
use Rattle.std.specs.Ordering.{is_lt}
use Rattle.std.proofs.lemmas.List.Sorted.{ranks_by, answers_always, IsPermutation-map}
use Rattle.vlsi_base.specs.Name.{name_cmp}
use Rattle.vlsi_base.proofs.NameOrder.{name_total}
use Rattle.vlsi_model.proofs.Sorting.{in_order, different_names}
use Rattle.net_flat.specs.declared.renaming.Seat.{Seat}
use Rattle.net_flat.proofs.renaming.in_order.Goals as goal

pub returns-clause-ordered : goal.returns-clause-ordered
returns-clause-ordered c =
    let key = λ (s : Seat). s.name in
    in_order key c.sort_by.new.self.items
    (c.in_ok-sort_by.ensures.sorted (λ a b. is_lt (name_cmp (key a) (key b))) (ranks_by name_total key) (answers_always _ _ _ (λ f a r g h. search rules)))
    (different_names (map key c.args.seats.items) (map key c.sort_by.new.self.items) (IsPermutation-map key c.args.seats.items c.sort_by.new.self.items c.in_ok-sort_by.ensures.permutation) c.requires)
