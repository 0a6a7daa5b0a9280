use Rattle.std.proofs.Common.{◌≡◌, ◌+◌, List, [], ◌∷◌, ◌++◌, false, length, map, slice_index_or, ap, sym, subst, ◌∙◌, arith}
use Rattle.std.proofs.lemmas.List.{map-append}
use Rattle.bool_expr.specs.Expression.{bit}
use Rattle.graph_theory.specs.Graph.{Node}
use Rattle.subject_table.specs.View.{node_view}
use Rattle.subject_table.specs.declared.table.Node.{Node as Kind}
use Rattle.subject_table.specs.declared.table.Node.TheVariants as kind
use Rattle.boog_cuts.proofs.Growing.{number_map}
use Rattle.boog_cuts.proofs.Whole.{read_number, map_long}
use Rattle.boog_part.specs.Part.{kept_kind}
use Rattle.boog_part.proofs.Keeping.{Keeping, keeping_none, keeping_more, keeping_all}
use Rattle.boog_part.proofs.part.kept_nodes.Goals as goal

pub loop-place-init : goal.loop-place-init
loop-place-init c =
    subst (λ (l : List Kind). Keeping c.args.held c.args.marks.now (map node_view c.args.nodes.now) (map node_view l) 0) (sym c.new-kept.ensures.items)
    (keeping_none c.args.held c.args.marks.now (map node_view c.args.nodes.now))

pub loop-place-preserved : goal.loop-place-preserved
loop-place-preserved c =
    let i = c.loop-place.place in
    let held = c.args.held in
    let marks = c.args.marks.now in
    let nodes = c.args.nodes.now in
    let one = slice_index_or nodes i (kind.Fixed false) in
    let here = number_map node_view nodes i one (read_number nodes i (kind.Fixed false) c.loop-place-test.true) in
    let items = c.in_ok-push.ensures.items in
    let whole : map node_view c.push.new.self.items ≡ map node_view c.loop-place.kept.items ++ node_view c.kept_node.result ∷ [] =
    ap (λ (l : List Kind). map node_view l) items ∙ map-append node_view c.loop-place.kept.items (c.kept_node.result ∷ []) in
    subst (λ (l : List Node). Keeping held marks (map node_view nodes) l (i + 1)) (sym whole)
    (keeping_more held marks (map node_view nodes) (map node_view c.loop-place.kept.items) i (node_view one) (node_view c.kept_node.result)
    c.loop-place.invariant here c.kept_node.ensures)

pub returns : goal.returns
returns c =
    let long = map_long node_view c.args.nodes.now in
    keeping_all c.args.held c.args.marks.now (map node_view c.args.nodes.now) (map node_view c.loop-place.kept.items) c.loop-place.place c.loop-place.invariant
    (omega (arith, long, c.loop-place.auto.place-end, c.loop-place-test.false))
