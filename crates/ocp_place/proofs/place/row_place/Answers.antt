use Rattle.std.proofs.Common.{◌≡◌, length, map, sym, subst, ap, ◌∙◌, arith}
use Rattle.std.proofs.lemmas.List.{length-map}
use Rattle.net_meaning.specs.Netlist.{AbstractNetlist as Seen}
use Rattle.net_right.specs.View.{IsSeenAs}
use Rattle.row_meaning.specs.First.{first_rows, AreEven}
use Rattle.row_fill.proofs.Filling.{items}
use Rattle.ocp_place.specs.Stood.{instance_columns}
use Rattle.ocp_place.proofs.First.{first_count, first_even, first_once}
use Rattle.ocp_place.proofs.place.row_place.Goals as goal

pub placed-requires-clause-once : goal.placed-requires-clause-once
placed-requires-clause-once c =
    let l = c.args.library.now in
    let n = c.args.netlist.now in
    let rows = map items c.in_ok-rows.rows.items in
    let are : (k : Seen) → IsSeenAs n k → rows ≡ first_rows (instance_columns l k.instances) c.args.rows = c.in_ok-rows.ensures.rows in
    first_once l n c.requires.library c.requires.netlist c.args.rows c.requires.some rows are

pub placed-requires-clause-some : goal.placed-requires-clause-some
placed-requires-clause-some c =
    let l = c.args.library.now in
    let n = c.args.netlist.now in
    let rows = map items c.in_ok-rows.rows.items in
    let are : (k : Seen) → IsSeenAs n k → rows ≡ first_rows (instance_columns l k.instances) c.args.rows = c.in_ok-rows.ensures.rows in
    let count = first_count l n c.requires.library c.requires.netlist c.args.rows c.requires.some rows are in
    let many = length-map c.in_ok-rows.rows.items items in
    let some = c.requires.some in
    omega (arith, count, many, some)

pub placed-requires-clause-few : goal.placed-requires-clause-few
placed-requires-clause-few c =
    let l = c.args.library.now in
    let n = c.args.netlist.now in
    let rows = map items c.in_ok-rows.rows.items in
    let are : (k : Seen) → IsSeenAs n k → rows ≡ first_rows (instance_columns l k.instances) c.args.rows = c.in_ok-rows.ensures.rows in
    let count = first_count l n c.requires.library c.requires.netlist c.args.rows c.requires.some rows are in
    let many = length-map c.in_ok-rows.rows.items items in
    let few = c.requires.few in
    omega (arith, count, many, few)

pub returns-clause-even : goal.returns-clause-even
returns-clause-even c = λ k seen.
    let l = c.args.library.now in
    let n = c.args.netlist.now in
    let rows = map items c.in_ok-rows.rows.items in
    let are : (k : Seen) → IsSeenAs n k → rows ≡ first_rows (instance_columns l k.instances) c.args.rows = c.in_ok-rows.ensures.rows in
    subst (AreEven (instance_columns l k.instances)) (sym c.in_ok-placement.ensures.rows) (first_even l n c.requires.library c.requires.netlist c.args.rows c.requires.some rows are k seen)

pub returns-clause-many : goal.returns-clause-many
returns-clause-many c =
    let l = c.args.library.now in
    let n = c.args.netlist.now in
    let rows = map items c.in_ok-rows.rows.items in
    let are : (k : Seen) → IsSeenAs n k → rows ≡ first_rows (instance_columns l k.instances) c.args.rows = c.in_ok-rows.ensures.rows in
    ap length c.in_ok-placement.ensures.rows ∙ first_count l n c.requires.library c.requires.netlist c.args.rows c.requires.some rows are
