use Rattle.std.proofs.Common.{ltb, List, rules, tests, arith}
use Rattle.std.proofs.lemmas.List.Sorted.{IsPartitionedBy-ltb, IsPartitionPoint-from_clause}
use Rattle.sym_shapes.specs.declared.forest.Link.{Link}
use Rattle.sym_shapes.proofs.search.first_from.Goals as goal

pub returns : goal.returns
returns c =
    let links : List Link = c.args.links.now in
    let point = IsPartitionPoint-from_clause (λ (l : Link). ltb l.from c.args.place) links c.partition_point.result c.partition_point.ensures.partitioned
    (IsPartitionedBy-ltb (λ (l : Link). l.from) links c.args.place c.requires) (λ a r f h. search rules) in
    record {
      within = c.partition_point.ensures.bound;
      below = λ k d low. let t = point.0 k d (omega arith) low in search (rules, tests, t);
      behind = λ k d from upto. let t = point.1 k d from upto in search (rules, tests, t);
    }
