use Rattle.std.proofs.Common.{ℕ, List, nat_lt, map, swap, ap, ◌∙◌, arith}
use Rattle.fsm_machine.specs.Encoding.{exchanged}
use Rattle.syf_encode.specs.Pieces.{pair_weight, exchange_view}
use Rattle.syf_encode.proofs.Reaching.{swapped_back}
use Rattle.syf_encode.proofs.adjacent.lowers.Goals as goal

pub returns-clause-value : goal.returns-clause-value
returns-clause-value c =
    ap (λ (k : ℕ). nat_lt k c.weight-before.result)
    (c.weight-after.ensures ∙ ap (λ (xs : List ℕ). pair_weight xs (exchange_view c.args.pair) (map (λ v. v.items) c.args.near.now)) c.swap.ensures.after)
    ∙ ap (λ (k : ℕ). nat_lt (pair_weight (exchanged c.args.numbers.now (exchange_view c.args.pair)) (exchange_view c.args.pair) (map (λ v. v.items) c.args.near.now)) k)
    c.weight-before.ensures

pub returns-clause-same : goal.returns-clause-same
returns-clause-same c =
    c.swap-2.ensures.after ∙ ap (λ (xs : List ℕ). swap xs c.args.pair.first c.args.pair.second) c.swap.ensures.after
    ∙ swapped_back c.args.numbers.now c.args.pair.first c.args.pair.second (omega arith) (omega arith)
