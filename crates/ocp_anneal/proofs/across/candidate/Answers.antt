use Rattle.std.proofs.Common.{◌≡◌, map, length, sym, ap, ◌∙◌, arith}
use Rattle.std.proofs.lemmas.List.{length-map}
use Rattle.row_fill.proofs.Filling.{items}
use Rattle.ocp_anneal.proofs.Fair.{fair_here, fair_once, fair_many}
use Rattle.ocp_anneal.proofs.across.candidate.Goals as goal

pub place_in_rows-requires-clause-once : goal.place_in_rows-requires-clause-once
place_in_rows-requires-clause-once c =
    let fair = fair_here c.in_ok-columns.columns.items c.deref-2.result.now c.in_ok-rows.rows.items c.deref.result.now (length c.rows-2.result.now)
    c.deref-2.ensures.value c.deref.ensures.value (c.in_ok-fair.ensures.0 c.if-not-fair.false) in
    let as_many : length c.rows-2.result.now ≡ length c.args.placement.now.rows = sym (length-map c.rows-2.result.now items) ∙ ap length c.rows-2.ensures in
    fair_once c.args.library.now c.args.netlist.now c.args.placement.now c.requires c.in_ok-columns.columns.items (map items c.in_ok-rows.rows.items)
    c.in_ok-columns.ensures.columns (length c.rows-2.result.now) as_many fair.0

pub place_in_rows-requires-clause-some : goal.place_in_rows-requires-clause-some
place_in_rows-requires-clause-some c =
    let fair = fair_here c.in_ok-columns.columns.items c.deref-2.result.now c.in_ok-rows.rows.items c.deref.result.now (length c.rows-2.result.now)
    c.deref-2.ensures.value c.deref.ensures.value (c.in_ok-fair.ensures.0 c.if-not-fair.false) in
    let as_many : length c.rows-2.result.now ≡ length c.args.placement.now.rows = sym (length-map c.rows-2.result.now items) ∙ ap length c.rows-2.ensures in
    let r = fair_many c.args.library.now c.args.netlist.now c.args.placement.now c.requires c.in_ok-columns.columns.items (map items c.in_ok-rows.rows.items)
    c.in_ok-columns.ensures.columns (length c.rows-2.result.now) as_many fair.0 in
    let some = r.0 in
    let all = length-map c.in_ok-rows.rows.items items in
    omega (arith, some, all)

pub place_in_rows-requires-clause-few : goal.place_in_rows-requires-clause-few
place_in_rows-requires-clause-few c =
    let fair = fair_here c.in_ok-columns.columns.items c.deref-2.result.now c.in_ok-rows.rows.items c.deref.result.now (length c.rows-2.result.now)
    c.deref-2.ensures.value c.deref.ensures.value (c.in_ok-fair.ensures.0 c.if-not-fair.false) in
    let as_many : length c.rows-2.result.now ≡ length c.args.placement.now.rows = sym (length-map c.rows-2.result.now items) ∙ ap length c.rows-2.ensures in
    let r = fair_many c.args.library.now c.args.netlist.now c.args.placement.now c.requires c.in_ok-columns.columns.items (map items c.in_ok-rows.rows.items)
    c.in_ok-columns.ensures.columns (length c.rows-2.result.now) as_many fair.0 in
    let few = r.1 in
    let all = length-map c.in_ok-rows.rows.items items in
    omega (arith, few, all)
