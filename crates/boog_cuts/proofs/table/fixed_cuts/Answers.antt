use Rattle.std.proofs.Common.{ℕ, List, [], map, ap, ◌∙◌, sym, arith}
use Rattle.truth_tab.specs.Table.{value_of}
use Rattle.cell_match.specs.Places.{times}
use Rattle.cell_match.specs.declared.cut.Cut.{Cut}
use Rattle.boog_cuts.proofs.Tabling.{cuts_added, value_added, leaves_added, fixed_node}
use Rattle.boog_cuts.proofs.table.fixed_cuts.Goals as goal

pub returns-clause-cuts : goal.returns-clause-cuts
returns-clause-cuts g c =
    let none = c.new.ensures in
    let d : Cut g.row.K = record { leaves = c.new.result; word = c.constant.result } in
    cuts_added c.args.number c.in_ok-cuts.cuts.items c.push.new.self.items d c.in_ok-cuts.ensures.cuts c.in_ok-push.ensures.items
    (λ x. let e = ap (λ (xs : List ℕ). times x xs) none in omega arith)
    (λ x some. let e = ap (λ (xs : List ℕ). times x xs) none in absurd (omega arith))

pub returns-clause-value : goal.returns-clause-value
returns-clause-value g c = λ f here.
    let none = c.new.ensures in
    let d : Cut g.row.K = record { leaves = c.new.result; word = c.constant.result } in
    value_added f (f c.args.number) c.in_ok-cuts.cuts.items c.push.new.self.items d (c.in_ok-cuts.ensures.value f) c.in_ok-push.ensures.items
    (ap (λ (xs : List ℕ). value_of c.constant.result.word (map f xs)) none ∙ c.constant.ensures [] (omega arith) ∙ sym here)

pub returns-clause-leaves : goal.returns-clause-leaves
returns-clause-leaves g c =
    let d : Cut g.row.K = record { leaves = c.new.result; word = c.constant.result } in
    leaves_added c.args.number c.in_ok-cuts.cuts.items c.push.new.self.items d c.in_ok-cuts.ensures.leaves c.in_ok-push.ensures.items c.new.ensures

pub returns-clause-direct : goal.returns-clause-direct
returns-clause-direct g c =
    let none = c.new.ensures in
    let d : Cut g.row.K = record { leaves = c.new.result; word = c.constant.result } in
    fixed_node c.args.number c.args.value [] c.in_ok-cuts.cuts.items c.push.new.self.items d c.in_ok-cuts.ensures.cuts c.in_ok-cuts.ensures.one c.in_ok-push.ensures.items none
    (λ f. ap (λ (xs : List ℕ). value_of c.constant.result.word (map f xs)) none ∙ c.constant.ensures [] (omega arith))
