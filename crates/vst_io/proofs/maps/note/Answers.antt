use Rattle.std.proofs.Common.{None, get_or}
use Rattle.std.proofs.lemmas.Option.{slice_get-get_or}
use Rattle.vlsi_base.specs.NamePlaces.{name_of}
use Rattle.vst_io.proofs.Indexed.{named_next}
use Rattle.vst_io.proofs.maps.note.Goals as goal

pub loop-place-preserved : goal.loop-place-preserved
loop-place-preserved c =
    let bits = c.args.bits.now in
    let k = c.loop-place.place in
    named_next (name_of c.args.text.now) bits c.args.mapped.now c.loop-place.mapped c.insert.new.self k (get_or bits k None) (slice_get-get_or bits k None c.loop-place-test.true) c.in_ok-insert.ensures.ok c.loop-place.invariant
