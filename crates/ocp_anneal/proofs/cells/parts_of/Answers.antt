use Rattle.std.proofs.Common.{◌≤◌, ◌/◌, ℕ, ap, sym, subst, length, arith}
use Rattle.std.proofs.lemmas.List.{length-map}
use Rattle.row_fill.proofs.Filling.{items}
use Rattle.ocp_place.proofs.Classes.{known, known_seen}
use Rattle.ocp_anneal.proofs.Placing.{some_columns}
use Rattle.ocp_anneal.proofs.cells.parts_of.Goals as goal

pub put_ports-requires-clause-some : goal.put_ports-requires-clause-some
put_ports-requires-clause-some c =
    let l = c.args.library.now in
    let n = c.args.netlist.now in
    let k = known n in
    let are = c.requires.rows k (known_seen n c.requires.drawable.sound) in
    let some = some_columns k l c.args.placement.now are in
    subst (λ (w : ℕ). 1 ≤ w / c.from.result) (sym c.width.ensures.width) (subst (λ (d : ℕ). 1 ≤ c.args.placement.now.width / d) (sym c.from.ensures) some)

pub put_ports-requires-clause-rows : goal.put_ports-requires-clause-rows
put_ports-requires-clause-rows c =
    let n = c.args.netlist.now in
    let are = c.requires.rows (known n) (known_seen n c.requires.drawable.sound) in
    let few = are.few in
    let rows = ap length c.rows.ensures in
    let many = length-map c.rows.result.now items in
    omega (arith, few, rows, many)
