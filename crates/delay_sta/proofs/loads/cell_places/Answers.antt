use Rattle.std.proofs.Common.{◌≡◌, ℕ, ◌+◌, List, [], ◌∷◌, ◌++◌, take, sym, ap, ◌∙◌, subst}
use Rattle.std.proofs.lemmas.List.{take_more, take_all}
use Rattle.delay_sta.specs.Graph.{AreFound}
use Rattle.delay_sta.proofs.Finding.{found_next}
use Rattle.delay_sta.proofs.loads.cell_places.Goals as goal

pub loop-model-preserved : goal.loop-model-preserved
loop-model-preserved c =
    let more : take (c.loop-model.model-index + 1) c.args.models.now ≡ take c.loop-model.model-index c.args.models.now ++ c.model-item.result ∷ [] =
    take_more c.args.models.now c.loop-model.model-index c.model-item.result c.loop-model-test.true ∙ ap (λ (m : List ℕ). take c.loop-model.model-index c.args.models.now ++ m ∷ []) (sym c.model-item.is) in
    subst (λ (ms : List (List ℕ)). AreFound c.args.cells.now ms c.push.new.self.items) (sym more)
    (subst (λ (ps : List ℕ). AreFound c.args.cells.now (take c.loop-model.model-index c.args.models.now ++ c.model-item.result ∷ []) ps) (sym c.in_ok-push.ensures.items)
    (found_next c.args.cells.now (take c.loop-model.model-index c.args.models.now) c.loop-model.places.items c.model-item.result c.cell_place.result c.loop-model.invariant c.cell_place.ensures))

pub returns : goal.returns
returns c = subst (λ (ms : List (List ℕ)). AreFound c.args.cells.now ms c.loop-model.places.items) (take_all c.loop-model.model-index c.args.models.now c.loop-model-test.false) c.loop-model.invariant
