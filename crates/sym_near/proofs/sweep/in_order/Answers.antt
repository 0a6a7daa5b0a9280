use Rattle.std.proofs.Common.{◌+◌, List, refl, arith}
use Rattle.std.proofs.lemmas.Cmp.{ranked}
use Rattle.std.specs.Ordering.{nat_cmp}
use Rattle.sym_near.specs.declared.sweep.Entry.{Entry}
use Rattle.sym_near.specs.Sweep.{entry_from}
use Rattle.sym_near.proofs.Orders.{precedes_so, ordered_so}
use Rattle.sym_near.proofs.sweep.in_order.Goals as goal

pub returns-clause-ordered : goal.returns-clause-ordered
returns-clause-ordered c =
    let xs : List Entry = c.sort.new.self.items in
    ordered_so xs (λ k within.
    let a : Entry = entry_from xs k in
    let b : Entry = entry_from xs (k + 1) in
    precedes_so a b (nat_cmp b.metal a.metal) (nat_cmp b.band a.band) (nat_cmp b.left a.left) _
    (ranked b.metal a.metal _ refl) (ranked b.band a.band _ refl) (ranked b.left a.left _ refl)
    (c.in_ok-sort.ensures.sorted k _ (omega arith) within))
