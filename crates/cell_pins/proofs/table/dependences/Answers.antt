use Rattle.std.proofs.Common.{refl, ℕ, length}
use Rattle.std.proofs.lemmas.Option.{slice_get_read}
use Rattle.vlsi_base.specs.Member.{done}
use Rattle.cell_model.specs.View.{function_view}
use Rattle.cell_pins.specs.Table.{DependsAt}
use Rattle.cell_pins.proofs.Listed.{place_taken, place_skipped, depends_not}
use Rattle.cell_pins.proofs.table.dependences.Goals as goal
use Rattle.cell_pins.proofs.table.dependences.Goals.{then-branch+in_ok-push, else-branch}

pub loop-place-init : goal.loop-place-init
loop-place-init c = rw c.new-places.ensures.items done

pub loop-place-preserved : goal.loop-place-preserved
loop-place-preserved c =
    let at = slice_get_read c.args.ports.now (length c.args.ports.now) c.loop-place.place c.index-ports-place.result refl c.loop-place-test.true c.index-ports-place.is in
    let P : ℕ → Type 0 = DependsAt (function_view c.args.function.now) c.args.ports.now c.args.output.now in
    elim c.if-branch.branch [
      | then-branch+in_ok-push w ↦ rw (w.places-is, w.in_ok-push.ensures.items) (place_taken P c.loop-place.place c.loop-place.places.items c.loop-place.invariant (c.index-ports-place.result, at, c.in_ok-depends_on.ensures.0 w.if-branch.true))
      | else-branch w ↦ rw w.places-is (place_skipped P c.loop-place.place c.loop-place.places.items c.loop-place.invariant
          (depends_not (function_view c.args.function.now) c.args.ports.now c.args.output.now c.index-ports-place.result c.loop-place.place c.in_ok-depends_on.field-0 at c.in_ok-depends_on.ensures w.if-branch.false))
    ]
