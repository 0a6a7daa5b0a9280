use Rattle.std.proofs.Common.{◌≡◌, ℕ, List, get_or, refl, sym, ◌∙◌, subst, below_more, arith}
use Rattle.std.specs.Prelude.{slice_get}
use Rattle.std.proofs.lemmas.Option.{slice_get_within, slice_get-get_or, get_or_from_slice_get}
use Rattle.cell_model.specs.Library.{cell_of}
use Rattle.net_core.specs.Places.{Stands, IsThere}
use Rattle.net_core.specs.Netlist.{Netlist}
use Rattle.net_core.proofs.Rings.{at_place}
use Rattle.loon_buffer.specs.Drives.{drives_at}
use Rattle.loon_buffer.specs.Choices.{IsDriveAt, Shortens, DoesNotHelp}
use Rattle.loon_buffer.proofs.Choosing.{drive_at, all_tried}
use Rattle.loon_buffer.proofs.choose.exchange_cell.Goals as goal

pub cell_place-own-requires-clause-there : goal.cell_place-own-requires-clause-there
cell_place-own-requires-clause-there c = c.requires.there

pub cell_place-own-requires-clause-each : goal.cell_place-own-requires-clause-each
cell_place-own-requires-clause-each c = c.requires.ready.delays.places.many

pub loop-drive-init : goal.loop-drive-init
loop-drive-init c = record { kept = refl; marks = refl; ready = c.requires.ready; idle = λ j l. absurd (omega (arith, l)) }

pub try_exchange-requires-clause-ready : goal.try_exchange-requires-clause-ready
try_exchange-requires-clause-ready c = c.loop-drive.invariant.ready

pub try_exchange-requires-clause-drive : goal.try_exchange-requires-clause-drive
try_exchange-requires-clause-drive c =
    let own = at_place c.args.netlist.now.instances c.args.number c.requires.there in
    let at : slice_get c.args.library.now.cells c.cell_place-own.result ≡ cell_of c.args.library.now own.0.model =
    c.cell_place-own.ensures c.args.library.now own.0 c.requires.ready.delays.places own.1 in
    let item = get_or c.drives-drive-items.result.now c.loop-drive.drive-index 0 in
    let there : IsThere (drives_at c.args.table.now.drives.items c.cell_place-own.result) item = (
      c.loop-drive.drive-index,
      subst (λ (xs : List ℕ). Stands xs c.loop-drive.drive-index item) c.drives-drive-items.ensures
          (slice_get-get_or c.drives-drive-items.result.now c.loop-drive.drive-index 0 c.loop-drive-test.true),
    ) in
    subst (λ (n : Netlist). IsDriveAt c.args.library.now n c.args.number item) (sym c.loop-drive.invariant.kept)
    (drive_at c.args.library.now c.cells.ensures.checked c.args.table.now.drives.items c.requires.table c.args.netlist.now c.requires.ready.timed c.args.number c.cell_place-own.result own.0 own.1 at item there)

pub returns-then-try_exchange-clause-ready : goal.returns-then-try_exchange-clause-ready
returns-then-try_exchange-clause-ready c = c.try_exchange.ensures.ready

pub returns-then-try_exchange-clause-marks : goal.returns-then-try_exchange-clause-marks
returns-then-try_exchange-clause-marks c = c.try_exchange.ensures.marks ∙ c.loop-drive.invariant.marks

pub returns-then-try_exchange-clause-helps : goal.returns-then-try_exchange-clause-helps
returns-then-try_exchange-clause-helps c = λ e.
    subst (λ (n : Netlist). Shortens c.args.library.now n c.try_exchange.new.netlist) c.loop-drive.invariant.kept (c.try_exchange.ensures.helps c.if-try_exchange.true)

pub returns-then-try_exchange-clause-kept : goal.returns-then-try_exchange-clause-kept
returns-then-try_exchange-clause-kept c = λ e. absurd cc

pub returns-then-try_exchange-clause-driven : goal.returns-then-try_exchange-clause-driven
returns-then-try_exchange-clause-driven c = λ e. absurd cc

pub loop-drive-preserved : goal.loop-drive-preserved
loop-drive-preserved c = record {
  kept = c.try_exchange.ensures.kept c.if-try_exchange.false ∙ c.loop-drive.invariant.kept;
  marks = c.try_exchange.ensures.marks ∙ c.loop-drive.invariant.marks;
  ready = c.try_exchange.ensures.ready;
  idle = below_more
      (λ (j : ℕ). DoesNotHelp c.args.library.now c.args.netlist.now c.args.number (get_or c.drives-drive-items.result.now j 0)) c.loop-drive.drive-index c.loop-drive.invariant.idle
      (subst (λ (n : Netlist). DoesNotHelp c.args.library.now n c.args.number (get_or c.drives-drive-items.result.now c.loop-drive.drive-index 0)) c.loop-drive.invariant.kept
      (c.try_exchange.ensures.idle c.if-try_exchange.false));
}

pub returns-clause-ready : goal.returns-clause-ready
returns-clause-ready c = c.loop-drive.invariant.ready

pub returns-clause-marks : goal.returns-clause-marks
returns-clause-marks c = c.loop-drive.invariant.marks

pub returns-clause-helps : goal.returns-clause-helps
returns-clause-helps c = λ e. absurd cc

pub returns-clause-kept : goal.returns-clause-kept
returns-clause-kept c = λ e. c.loop-drive.invariant.kept

pub returns-clause-driven : goal.returns-clause-driven
returns-clause-driven c = λ e.
    let own = at_place c.args.netlist.now.instances c.args.number c.requires.there in
    let at : slice_get c.args.library.now.cells c.cell_place-own.result ≡ cell_of c.args.library.now own.0.model =
    c.cell_place-own.ensures c.args.library.now own.0 c.requires.ready.delays.places own.1 in
    all_tried c.args.library.now c.cells.ensures.checked c.args.table.now.drives.items c.requires.table c.args.netlist.now c.requires.ready.timed c.args.number c.cell_place-own.result own.0 own.1 at
    (λ k t.
    let s : Stands c.drives-drive-items.result.now t.0 k = subst (λ (xs : List ℕ). Stands xs t.0 k) (sym c.drives-drive-items.ensures) t.1 in
    let low = slice_get_within c.drives-drive-items.result.now t.0 k s in
    let all = c.loop-drive-test.false in
    subst (λ j. DoesNotHelp c.args.library.now c.args.netlist.now c.args.number j) (get_or_from_slice_get c.drives-drive-items.result.now t.0 k 0 s)
    (c.loop-drive.invariant.idle t.0 (omega (arith, low, all))))
