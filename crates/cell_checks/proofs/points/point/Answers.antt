use Rattle.std.specs.Prelude.{slice_get}
use Rattle.std.proofs.Common.{◌≡◌, ◌<◌, ◌%◌, List, filter, length, Some, None, sym, ap, ◌∙◌, arith, rules}
use Rattle.std.proofs.lemmas.Bool.Decides.{nat_tests}
use Rattle.std.proofs.lemmas.Option.{slice_get_past, slice_get-get_or}
use Rattle.vlsi_base.specs.Names.{comes_before}
use Rattle.cell_model.specs.declared.cell.Pin.{Pin}
use Rattle.cell_checks.proofs.PointLists.{point_is}
use Rattle.cell_checks.proofs.points.point.Goals as goal

pub returns-then-is_empty : goal.returns-then-is_empty
returns-then-is_empty c =
    let none : length c.in_ok-nodes.nodes.items ≡ 0 = grind (arith, nat_tests, rules) in
    point_is c.args.cell.now c.args.name.now c.rank_of-rank.result c.in_ok-nodes.nodes.items None
    (c.rank_of-rank.ensures ∙ ap (λ (ps : List Pin). length (filter (λ (p : Pin). comes_before p.port.name c.args.name.now) ps)) c.as_slice.ensures)
    c.in_ok-nodes.ensures
    (slice_get_past c.in_ok-nodes.nodes.items (c.rank_of-rank.result % length c.in_ok-nodes.nodes.items) (omega arith))

pub returns : goal.returns
returns c =
    let many : c.len.result ≡ length c.in_ok-nodes.nodes.items = omega arith in
    let less : (c.rank_of-rank.result % c.len.result) < length c.in_ok-nodes.nodes.items = grind (arith, nat_tests, rules) in
    point_is c.args.cell.now c.args.name.now c.rank_of-rank.result c.in_ok-nodes.nodes.items (Some c.index.result.now)
    (c.rank_of-rank.ensures ∙ ap (λ (ps : List Pin). length (filter (λ (p : Pin). comes_before p.port.name c.args.name.now) ps)) c.as_slice.ensures)
    c.in_ok-nodes.ensures
    (ap (λ k. slice_get c.in_ok-nodes.nodes.items (c.rank_of-rank.result % k)) (sym many)
    ∙ slice_get-get_or c.in_ok-nodes.nodes.items (c.rank_of-rank.result % c.len.result) c.index.result.now less
    ∙ ap (λ x. Some x) (sym c.index.ensures))
