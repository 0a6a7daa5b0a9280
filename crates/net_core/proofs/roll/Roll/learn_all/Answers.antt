use Rattle.std.proofs.Common.{◌≡◌, ◌∙◌, ap, sym, subst, length, get_or, take, List, [], ℕ, refl, arith}
use Rattle.std.proofs.Math.Seq.{take-length}
use Rattle.std.proofs.lemmas.Option.{slice_get_read, get_or_from_slice_get}
use Rattle.std.specs.List.{All}
use Rattle.net_core.specs.Places.{AddsOnly, Stands, IsThere, Learned}
use Rattle.net_core.proofs.Learning.{learned_step}
use Rattle.net_core.proofs.roll.Roll.learn_all.Goals as goal

pub loop-text-preserved : goal.loop-text-preserved
loop-text-preserved c =
    let at : get_or c.args.texts.now c.loop-text.text-index [] ≡ c.text-item.result =
    get_or_from_slice_get c.args.texts.now c.loop-text.text-index c.text-item.result [] (slice_get_read c.args.texts.now (length c.args.texts.now) c.loop-text.text-index c.text-item.result refl c.loop-text-test.true c.text-item.is) in
    learned_step c.args.self.now c.loop-text.self c.learn.new.self c.args.texts.now c.loop-text.text-index c.in_ok-learn.field-0 c.loop-text.invariant c.loop-text-test.true
    (subst (λ (t : List ℕ). Learned c.loop-text.self c.learn.new.self t) (sym at) c.in_ok-learn.ensures.learned)
    (subst (λ (t : List ℕ). Stands c.learn.new.self c.in_ok-learn.field-0 t) (sym at) c.in_ok-learn.ensures.place)

pub returns-clause-there : goal.returns-clause-there
returns-clause-there c =
    let e : c.loop-text.text-index ≡ length c.args.texts.now = omega (arith, c.loop-text-test.false, c.loop-text.auto.text-index-end) in
    subst (λ (xs : List (List ℕ)). All (IsThere c.loop-text.self) xs) (ap (λ n. take n c.args.texts.now) e ∙ take-length c.args.texts.now) c.loop-text.invariant.there

pub returns-clause-only : goal.returns-clause-only
returns-clause-only c =
    let e : c.loop-text.text-index ≡ length c.args.texts.now = omega (arith, c.loop-text-test.false, c.loop-text.auto.text-index-end) in
    subst (λ (xs : List (List ℕ)). AddsOnly c.args.self.now c.loop-text.self xs) (ap (λ n. take n c.args.texts.now) e ∙ take-length c.args.texts.now) c.loop-text.invariant.only
