use Rattle.std.proofs.Common.{◌≡◌, ℕ, ◌+◌, ◌<◌, List, [], ◌∷◌, ◌++◌, map, take, length, get_or, true, sym, ap, subst, ◌∙◌}
use Rattle.std.specs.Prelude.{slice_set}
use Rattle.std.proofs.lemmas.List.{take_more, map-append}
use Rattle.net_core.specs.declared.frame.Node.{Node}
use Rattle.nero_tracks.specs.Tracks.{AreMarks}
use Rattle.nero_tracks.proofs.Marked.{marks_step}
use Rattle.nero_tracks.proofs.columns.models_in_use.Goals as goal

abbrev model : Node → ℕ
model i = i.model

models_more : (nodes : List Node) (k : ℕ) (node : Node) → k < length nodes → node ≡ get_or nodes k node → map model (take k nodes) ++ node.model ∷ [] ≡ map model (take (k + 1) nodes)
models_more nodes k node low is =
    sym (map-append model (take k nodes) (node ∷ []))
    ∙ ap (λ (n : Node). map model (take k nodes ++ n ∷ [])) is
    ∙ ap (map model) (sym (take_more nodes k node low))

pub loop-node-preserved : goal.loop-node-preserved
loop-node-preserved c =
    let nodes = c.args.nodes.now in let k = c.loop-node.node-index in let node = c.node-item.result in
    let below : node.model < c.args.count = subst (λ (n : Node). n.model < c.args.count) (sym c.node-item.is) (c.requires k node c.loop-node-test.true) in
    subst (λ (models : List ℕ). AreMarks models c.args.count (slice_set c.loop-node.marks.items node.model true)) (models_more nodes k node c.loop-node-test.true c.node-item.is)
    (marks_step (map model (take k nodes)) node.model c.args.count c.loop-node.marks.items c.loop-node.invariant below)
