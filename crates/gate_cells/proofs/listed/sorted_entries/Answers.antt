use Rattle.std.proofs.Common.{rules}
use Rattle.std.proofs.lemmas.List.Sorted.{IsNonDecreasingBy-from_sort_by_key}
use Rattle.gate_cells.proofs.Entering.{entries_moved}
use Rattle.gate_cells.proofs.listed.sorted_entries.Goals as goal

pub returns-clause-all : goal.returns-clause-all
returns-clause-all c = entries_moved c.args.cells.now c.in_ok-entries.entries.items c.sort_by_key.new.self.items c.sort_by_key.ensures.permutation c.in_ok-entries.ensures

pub returns-clause-rising : goal.returns-clause-rising
returns-clause-rising c = IsNonDecreasingBy-from_sort_by_key (λ x. x.area) c.sort_by_key.new.self.items c.in_ok-sort_by_key.ensures.sorted (λ a r f h. search rules)
