use Rattle.std.proofs.Common.{◌≡◌, sym, subst, length, get_or, map, List, [], ℕ, refl, arith}
use Rattle.std.proofs.lemmas.Option.{slice_get_read, get_or_from_slice_get}
use Rattle.std.proofs.lemmas.List.{length-map}
use Rattle.net_core.specs.declared.pins.ModelPins.{ModelPins}
use Rattle.net_core.specs.Places.{Stands, Learned}
use Rattle.net_core.proofs.Frames.{mapped}
use Rattle.net_core.proofs.Learning.{learned_step}
use Rattle.net_core.proofs.roles.model_names.Goals as goal

pub loop-model-preserved : goal.loop-model-preserved
loop-model-preserved c =
    let s : Stands c.args.table.now c.loop-model.model-index c.model-item.result = slice_get_read c.args.table.now (length c.args.table.now) c.loop-model.model-index c.model-item.result refl c.loop-model-test.true c.model-item.is in
    let at : get_or (map (λ (m : ModelPins). m.model) c.args.table.now) c.loop-model.model-index [] ≡ c.model-item.result.model =
    get_or_from_slice_get (map (λ (m : ModelPins). m.model) c.args.table.now) c.loop-model.model-index c.model-item.result.model [] (mapped (λ (m : ModelPins). m.model) c.args.table.now c.loop-model.model-index c.model-item.result s) in
    let n = length-map c.args.table.now (λ (m : ModelPins). m.model) in
    learned_step [] c.loop-model.names c.learn.new.self (map (λ (m : ModelPins). m.model) c.args.table.now) c.loop-model.model-index c.in_ok-learn.field-0 c.loop-model.invariant (omega (arith, n, c.loop-model-test.true))
    (subst (λ (t : List ℕ). Learned c.loop-model.names c.learn.new.self t) (sym at) c.in_ok-learn.ensures.learned)
    (subst (λ (t : List ℕ). Stands c.learn.new.self c.in_ok-learn.field-0 t) (sym at) c.in_ok-learn.ensures.place)
