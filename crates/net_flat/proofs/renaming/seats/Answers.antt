use Rattle.std.proofs.Common.{◌∙◌, sym}
use Rattle.vlsi_model.proofs.Naming.{same_default}
use Rattle.net_flat.proofs.Assembling.{seats_more}
use Rattle.net_flat.proofs.renaming.seats.Goals as goal

pub loop-k-preserved : goal.loop-k-preserved
loop-k-preserved c =
    c.in_ok-push.ensures.items
    ∙ seats_more c.args.names.now c.loop-k.k c.in_ok-name.name c.loop-k.seats.items c.loop-k.invariant
    (same_default c.args.names.now c.loop-k.k _ _ c.loop-k-test.true ∙ sym c.index-names-k.is ∙ sym c.in_ok-name.ensures)
