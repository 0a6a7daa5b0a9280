use Rattle.std.proofs.Common.{ℕ, List, ap, arith}
use Rattle.cell_match.specs.Places.{times}
use Rattle.boog_tree.proofs.inner.count_roots.Goals as goal

pub raise_all-requires : goal.raise_all-requires
raise_all-requires c = λ x some. let same = ap (λ (l : List ℕ). times x l) c.outputs.ensures in c.requires.inside x (omega (arith, some, same))

pub raise_all-requires-2 : goal.raise_all-requires-2
raise_all-requires-2 c = λ x some.
    let same = ap (λ (l : List ℕ). times x l) c.loads.ensures in
    let inside = c.requires.inside x (omega (arith, some, same)) in
    let long = c.raise_all.ensures.long in
    omega (arith, inside, long)

pub returns : goal.returns
returns c = λ x.
    let first = c.raise_all.ensures.each x in
    let second = c.raise_all-2.ensures.each x in
    let none = c.requires.none x in
    let a = ap (λ (l : List ℕ). times x l) c.outputs.ensures in
    let b = ap (λ (l : List ℕ). times x l) c.loads.ensures in
    omega (arith, first, second, none, a, b)
