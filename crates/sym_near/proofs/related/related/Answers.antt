use Rattle.std.proofs.lemmas.List.Filters.{dedup_is}
use Rattle.sym_near.proofs.Listed.{same_pair, related_all}
use Rattle.sym_near.proofs.related.related.Goals as goal

pub returns : goal.returns
returns c =
    related_all c.args.shapes.now c.args.search.relation c.args.search.beside c.args.sweeps.entries.now c.args.sweeps.turned.now _ c.look_all.new.pairs.items c.look_all-2.new.pairs.items c.sort.new.self.items c.dedup.new.self.items
    c.new-pairs.ensures.items c.in_ok-look_all.ensures.gains c.in_ok-look_all-2.ensures.gains c.in_ok-look_all.ensures.sees c.in_ok-look_all-2.ensures.sees c.requires.ordered c.requires.shares
    c.sort.ensures.permutation c.in_ok-sort.ensures.sorted (dedup_is same_pair _ _ c.dedup.ensures.filtered)
