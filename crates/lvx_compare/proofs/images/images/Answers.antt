use Rattle.std.proofs.Common.{◌<◌, ◌+◌, ◌∙◌, get_or, take, sym, subst, arith}
use Rattle.std.specs.Prelude.{slice_set}
use Rattle.std.proofs.lemmas.List.{length-set}
use Rattle.lvx_compare.specs.declared.images.Image.{Image}
use Rattle.lvx_compare.specs.Stages.{AreImages}
use Rattle.lvx_compare.proofs.Imaging.{images_more, images_all}
use Rattle.lvx_compare.proofs.images.images.Goals as goal

pub loop-k-preserved : goal.loop-k-preserved
loop-k-preserved c =
    let classes = c.args.classes.now in
    let k = c.loop-k.k in
    let images = c.loop-k.images.items in
    let low : get_or classes k 0 < c.args.count = c.requires.inside k 0 c.loop-k-test.true in
    let many = c.loop-k.invariant.many in
    record {
      many = length-set images (get_or classes k 0) c.with_member.result ∙ many;
      images =
          subst (λ (i : Image). AreImages (take (k + 1) classes) (take (k + 1) c.args.found.now) (slice_set images (get_or classes k 0) i)) (sym c.with_member.ensures)
          (images_more classes c.args.found.now k images c.index-image.result.now c.requires.each c.loop-k-test.true (omega (arith, low, many)) c.index-image.ensures c.loop-k.invariant.images);
    }

pub returns-clause-images : goal.returns-clause-images
returns-clause-images c = images_all c.args.classes.now c.args.found.now c.loop-k.k c.loop-k.images.items c.requires.each (omega (arith, c.loop-k-test.false)) c.loop-k.invariant.images
