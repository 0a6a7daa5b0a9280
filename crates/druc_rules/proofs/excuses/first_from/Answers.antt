use Rattle.std.proofs.Common.{ltb, List, rules, tests, arith}
use Rattle.std.proofs.lemmas.List.Sorted.{IsPartitionedBy-ltb, IsPartitionPoint-from_clause}
use Rattle.sym_near.specs.declared.near.Pair.{Pair}
use Rattle.druc_rules.proofs.excuses.first_from.Goals as goal

pub returns : goal.returns
returns c =
    let pairs : List Pair = c.args.pairs.now in
    let point = IsPartitionPoint-from_clause (λ (l : Pair). ltb l.first c.args.place) pairs c.partition_point.result c.partition_point.ensures.partitioned
    (IsPartitionedBy-ltb (λ (l : Pair). l.first) pairs c.args.place c.requires) (λ a r f h. search rules) in
    record {
      within = c.partition_point.ensures.bound;
      below = λ k d low. let t = point.0 k d (omega arith) low in search (rules, tests, t);
      behind = λ k d from upto. let t = point.1 k d from upto in search (rules, tests, t);
    }
