use Rattle.std.proofs.Common.{ℕ, List, length, slice_index, refl, sym, ap, ◌∙◌, rules, arith}
use Rattle.row_anneal.proofs.Counted.{none_yet}
use Rattle.row_anneal.proofs.fair.hold_each_once.Goals as goal

pub hold_each-requires : goal.hold_each-requires
hold_each-requires c = record {
  none = λ d. ap (λ (xs : List ℕ). slice_index xs d) (c.deref_mut.ensures.value ∙ search (rules, c.in_ok-counts.ensures)) ∙ none_yet c.args.many d;
}
