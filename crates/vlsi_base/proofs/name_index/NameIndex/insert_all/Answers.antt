use Rattle.std.proofs.Common.{ap, ◌∙◌}
use Rattle.std.specs.FinMap.{insert}
use Rattle.vlsi_base.specs.NamePlaces.{name_of}
use Rattle.vlsi_base.proofs.IndexLemmas.{has_next}
use Rattle.vlsi_base.proofs.name_index.NameIndex.insert_all.Goals as goal

pub loop-place-preserved : goal.loop-place-preserved
loop-place-preserved c =
    has_next c.args.self.now c.loop-place.self c.insert.new.self c.args.names.now c.loop-place.place c.index-names-place.result c.loop-place-test.true c.index-names-place.is
    (c.in_ok-insert.ensures.ok ∙ ap (λ t. insert c.loop-place.self (name_of t c.index-names-place.result.bit) c.loop-place.place) c.as_bytes.ensures)
    c.loop-place.invariant
