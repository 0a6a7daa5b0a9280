use Rattle.std.proofs.Common.{ℕ, List, nat_eq, sym, subst, ◌∙◌, rules}
use Rattle.std.specs.HashMap.{get}
use Rattle.cell_match.specs.declared.table.Match.{Match}
use Rattle.cell_match.specs.Cells.{inputs_of, IsMatch}
use Rattle.cell_match.specs.Matches.{Known}
use Rattle.cell_match.proofs.Entering.{is_there, more_none, entered_here, entered_more, entered_found, one_word}
use Rattle.cell_match.proofs.table.enter.Goals as goal

pub returns-then-contains_key-clause-every : goal.returns-then-contains_key-clause-every
returns-then-contains_key-clause-every c = λ w low is.
    let there = is_there (get nat_eq c.args.map.now c.ordered-word.result) (sym c.contains_key.ensures ∙ c.if-contains_key.true) in
    let same = one_word c.args.cells.now c.args.k c.args.order.now c.ordered-word.result w c.ordered-word.type_inv low c.ordered-word.ensures is in
    subst (λ (v : ℕ). Known (λ q. get nat_eq c.args.map.now q) v) same there

pub returns-then-contains_key-clause-grows : goal.returns-then-contains_key-clause-grows
returns-then-contains_key-clause-grows c = more_none c.args.k (λ q. get nat_eq c.args.map.now q)

pub returns-clause-grows : goal.returns-clause-grows
returns-clause-grows c =
    let m : Match = record { cell = c.args.k; order = c.copied.result } in
    entered_more c.args.cells.now (inputs_of c.args.cells.now c.args.k) (λ q. get nat_eq c.args.map.now q) (λ q. get nat_eq c.insert.new.self q) c.ordered-word.result m
    (c.in_ok-insert.ensures.updates.0) (sym c.contains_key.ensures ∙ c.if-contains_key.false)

pub returns-clause-found : goal.returns-clause-found
returns-clause-found c =
    let m : Match = record { cell = c.args.k; order = c.copied.result } in
    let n = inputs_of c.args.cells.now c.args.k in
    let is_match : IsMatch c.args.cells.now n c.ordered-word.result c.args.k c.copied.result.items =
    subst (λ (xs : List ℕ). IsMatch c.args.cells.now n c.ordered-word.result c.args.k xs) (sym c.copied.ensures)
    record { there = c.requires.there; inputs = search rules; ordered = c.requires.order; same = c.ordered-word.ensures } in
    entered_found c.args.cells.now n (λ q. get nat_eq c.args.map.now q) (λ q. get nat_eq c.insert.new.self q) c.ordered-word.result m
    (c.in_ok-insert.ensures.updates.0) c.requires.found is_match

pub returns-clause-every : goal.returns-clause-every
returns-clause-every c = λ w low is.
    let m : Match = record { cell = c.args.k; order = c.copied.result } in
    let n = inputs_of c.args.cells.now c.args.k in
    entered_here c.args.cells.now n (λ q. get nat_eq c.args.map.now q) (λ q. get nat_eq c.insert.new.self q) c.ordered-word.result m
    (c.in_ok-insert.ensures.updates.0) w
    (one_word c.args.cells.now c.args.k c.args.order.now c.ordered-word.result w c.ordered-word.type_inv low c.ordered-word.ensures is)
