use Rattle.std.proofs.Common.{◌+◌, ℕ, Bool, List, take, sym, subst, arith}
use Rattle.cougar_extract.specs.declared.links.Link.{Link}
use Rattle.cougar_extract.specs.Stages.{AreOutputs}
use Rattle.cougar_extract.proofs.Linking.{TextsTo, take_whole, texts_all}
use Rattle.cougar_extract.proofs.DirectTexts.{text_driven, text_passed}
use Rattle.cougar_extract.proofs.directions.driven_texts.Goals.{then-is_marked+in_ok-learn, else-is_marked}
use Rattle.cougar_extract.proofs.directions.driven_texts.Goals as goal

pub loop-link-preserved : goal.loop-link-preserved
loop-link-preserved c =
    let links = c.args.links.now in
    let k = c.loop-link.link-index in
    let x = c.link-item.result in
    let are = subst (λ (marks : List Bool). AreOutputs links marks) (sym c.deref.ensures.value) c.in_ok-marks.ensures in
    elim c.if-is_marked.branch [
      | then-is_marked+in_ok-learn w ↦
          subst (λ (texts : List (List ℕ)). TextsTo (take (k + 1) links) links texts) (sym w.texts-is)
          (text_driven links c.deref.result.now k x c.loop-link.texts w.learn.new.self c.is_marked.result c.loop-link-test.true c.link-item.is are c.is_marked.ensures
          w.if-is_marked.true w.in_ok-learn.ensures.learned (w.in_ok-learn.field-0, w.in_ok-learn.ensures.place) c.loop-link.invariant)
      | else-is_marked w ↦
          subst (λ (texts : List (List ℕ)). TextsTo (take (k + 1) links) links texts) (sym w.texts-is)
          (text_passed links c.deref.result.now k x c.loop-link.texts c.is_marked.result c.loop-link-test.true c.link-item.is are c.is_marked.ensures
          w.if-is_marked.false c.loop-link.invariant)
    ]

pub returns : goal.returns
returns c =
    texts_all c.args.links.now c.loop-link.texts
    (subst (λ (seen : List Link). TextsTo seen c.args.links.now c.loop-link.texts)
    (take_whole c.args.links.now c.loop-link.link-index (omega (arith, c.loop-link-test.false))) c.loop-link.invariant)
