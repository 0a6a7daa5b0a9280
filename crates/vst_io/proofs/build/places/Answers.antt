use Rattle.std.proofs.Common.{◌∙◌, List, ℕ, ap, refl, length}
use Rattle.std.proofs.lemmas.Option.{slice_get_read}
use Rattle.std.specs.FinMap.{empty, insert}
use Rattle.vlsi_base.specs.NamePlaces.{name_of}
use Rattle.vst_io.proofs.Joins.{bit_of}
use Rattle.vst_io.proofs.Indexed.{named_next, named_all}
use Rattle.vst_io.proofs.build.places.Goals as goal

pub loop-place-preserved : goal.loop-place-preserved
loop-place-preserved c =
    let l = c.index-links-place.result in
    let k = c.loop-place.place in
    named_next bit_of c.args.links.now empty c.loop-place.index c.insert.new.self k l (slice_get_read c.args.links.now (length c.args.links.now) k l refl c.loop-place-test.true c.index-links-place.is)
    (c.in_ok-insert.ensures.ok ∙ ap (λ (t : List ℕ). insert c.loop-place.index (name_of t l.1.bit) k) c.as_bytes.ensures) c.loop-place.invariant

pub returns : goal.returns
returns c = named_all bit_of c.args.links.now empty c.loop-place.index c.loop-place.place refl c.loop-place-test.false c.loop-place.invariant
