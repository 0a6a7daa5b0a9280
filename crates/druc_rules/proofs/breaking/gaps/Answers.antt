use Rattle.std.proofs.Common.{◌≡◌, ◌∙◌, sym, length, arith}
use Rattle.std.specs.Vec.{vec_len}
use Rattle.std.proofs.lemmas.Bool.{eqb-true}
use Rattle.std.proofs.lemmas.List.{nil_from_length}
use Rattle.druc_rules.proofs.Gaps.{gaps_none}
use Rattle.druc_rules.proofs.breaking.gaps.Goals as goal

pub returns-then-is_empty : goal.returns-then-is_empty
returns-then-is_empty c =
    let near = c.in_ok-pairs.pairs.near in
    let none : vec_len near ≡ 0 = eqb-true (vec_len near) 0 (sym c.is_empty.ensures ∙ c.if-is_empty.true) in
    let short : length near.items ≡ 0 = omega (arith, none) in
    gaps_none c.args.shapes.now c.args.least near.items c.args.found.now.items c.in_ok-pairs.ensures.near (nil_from_length near.items short)
