use Rattle.std.proofs.Common.{◌≡◌, Bool, false, List, get_or, rules}
use Rattle.sym_shapes.proofs.Searches.{reached_search}
use Rattle.sym_shapes.proofs.search.Search.reach.Goals as goal

pub returns-in_ok-push-clause-search : goal.returns-in_ok-push-clause-search
returns-in_ok-push-clause-search c = λ links has s.
    let seen : List Bool = c.args.self.now.seen.items in
    let fresh : get_or seen c.args.place false ≡ false = search (rules, c.if-not-index.true, c.index.ensures) in
    rw c.in_ok-push.ensures.items (reached_search links c.args.self.now.steps.items seen c.args.place c.args.next c.requires.within fresh c.requires.next has s)
