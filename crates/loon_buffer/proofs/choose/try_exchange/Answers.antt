use Rattle.std.proofs.Common.{◌≡◌, ◌∙◌}
use Rattle.std.specs.Prelude.{slice_get}
use Rattle.std.proofs.lemmas.Option.{slice_get_within}
use Rattle.cell_model.specs.Library.{cell_of}
use Rattle.loon_buffer.specs.Choices.{IsReady, IsDriveAt}
use Rattle.loon_buffer.proofs.Choosing.{exchange_at, is_exchange, ready_after, drive_back, back_is, shorter_by, idle_by}
use Rattle.loon_buffer.proofs.choose.try_exchange.Goals as goal

pub cell_place-own-requires-clause-there : goal.cell_place-own-requires-clause-there
cell_place-own-requires-clause-there c = slice_get_within c.args.netlist.now.instances c.args.number c.requires.drive.owner c.requires.drive.stands

pub cell_place-own-requires-clause-each : goal.cell_place-own-requires-clause-each
cell_place-own-requires-clause-each c = c.requires.ready.delays.places.many

pub exchange-requires-clause-sound : goal.exchange-requires-clause-sound
exchange-requires-clause-sound c = c.requires.ready.sound

pub exchange-requires-clause-timed : goal.exchange-requires-clause-timed
exchange-requires-clause-timed c = c.requires.ready.timed

pub exchange-requires-clause-delays : goal.exchange-requires-clause-delays
exchange-requires-clause-delays c = c.requires.ready.delays

pub exchange-requires-clause-exchange : goal.exchange-requires-clause-exchange
exchange-requires-clause-exchange c = exchange_at c.args.library.now c.args.netlist.now c.args.delays.now c.args.number c.args.place c.requires.ready c.requires.drive

pub returns-then-after-before-clause-ready : goal.returns-then-after-before-clause-ready
returns-then-after-before-clause-ready c =
    ready_after c.args.library.now c.args.netlist.now c.exchange.new.netlist c.args.delays.now c.exchange.new.self c.requires.ready
    (is_exchange c.args.library.now c.args.netlist.now c.exchange.new.netlist c.args.number c.args.place c.requires.drive c.exchange.ensures.sets) c.exchange.ensures.sound c.exchange.ensures.delays

pub returns-then-after-before-clause-marks : goal.returns-then-after-before-clause-marks
returns-then-after-before-clause-marks c = c.exchange.ensures.marks

pub returns-then-after-before-clause-helps : goal.returns-then-after-before-clause-helps
returns-then-after-before-clause-helps c = λ e. record {
  exchange = is_exchange c.args.library.now c.args.netlist.now c.exchange.new.netlist c.args.number c.args.place c.requires.drive c.exchange.ensures.sets;
  shorter = shorter_by c.args.library.now c.args.netlist.now c.exchange.new.netlist c.worst-before.result c.worst-after.result
      (c.worst-before.ensures c.args.netlist.now c.args.library.now c.requires.ready.sound c.requires.ready.delays)
      (c.worst-after.ensures c.exchange.new.netlist c.args.library.now c.exchange.ensures.sound c.exchange.ensures.delays) c.if-after-before.true;
}

pub returns-then-after-before-clause-kept : goal.returns-then-after-before-clause-kept
returns-then-after-before-clause-kept c = λ e. absurd cc

pub returns-then-after-before-clause-idle : goal.returns-then-after-before-clause-idle
returns-then-after-before-clause-idle c = λ e. absurd cc

pub exchange-requires-2-clause-sound : goal.exchange-requires-2-clause-sound
exchange-requires-2-clause-sound c = c.exchange.ensures.sound

pub exchange-requires-2-clause-timed : goal.exchange-requires-2-clause-timed
exchange-requires-2-clause-timed c =
    (ready_after c.args.library.now c.args.netlist.now c.exchange.new.netlist c.args.delays.now c.exchange.new.self c.requires.ready
    (is_exchange c.args.library.now c.args.netlist.now c.exchange.new.netlist c.args.number c.args.place c.requires.drive c.exchange.ensures.sets) c.exchange.ensures.sound c.exchange.ensures.delays).timed

pub exchange-requires-2-clause-delays : goal.exchange-requires-2-clause-delays
exchange-requires-2-clause-delays c = c.exchange.ensures.delays

pub exchange-requires-2-clause-exchange : goal.exchange-requires-2-clause-exchange
exchange-requires-2-clause-exchange c =
    let at : slice_get c.args.library.now.cells c.cell_place-own.result ≡ cell_of c.args.library.now c.requires.drive.owner.model =
    c.cell_place-own.ensures c.args.library.now c.requires.drive.owner c.requires.ready.delays.places c.requires.drive.stands in
    exchange_at c.args.library.now c.exchange.new.netlist c.exchange.new.self c.args.number c.cell_place-own.result
    (ready_after c.args.library.now c.args.netlist.now c.exchange.new.netlist c.args.delays.now c.exchange.new.self c.requires.ready
    (is_exchange c.args.library.now c.args.netlist.now c.exchange.new.netlist c.args.number c.args.place c.requires.drive c.exchange.ensures.sets) c.exchange.ensures.sound c.exchange.ensures.delays)
    (drive_back c.args.library.now c.args.netlist.now c.exchange.new.netlist c.args.number c.args.place c.cell_place-own.result c.requires.drive c.exchange.ensures.sets at c.requires.ready.timed)

pub returns-clause-ready : goal.returns-clause-ready
returns-clause-ready c =
    let at : slice_get c.args.library.now.cells c.cell_place-own.result ≡ cell_of c.args.library.now c.requires.drive.owner.model =
    c.cell_place-own.ensures c.args.library.now c.requires.drive.owner c.requires.ready.delays.places c.requires.drive.stands in
    let ready : IsReady c.args.library.now c.exchange.new.netlist c.exchange.new.self =
    ready_after c.args.library.now c.args.netlist.now c.exchange.new.netlist c.args.delays.now c.exchange.new.self c.requires.ready
    (is_exchange c.args.library.now c.args.netlist.now c.exchange.new.netlist c.args.number c.args.place c.requires.drive c.exchange.ensures.sets) c.exchange.ensures.sound c.exchange.ensures.delays in
    let back : IsDriveAt c.args.library.now c.exchange.new.netlist c.args.number c.cell_place-own.result =
    drive_back c.args.library.now c.args.netlist.now c.exchange.new.netlist c.args.number c.args.place c.cell_place-own.result c.requires.drive c.exchange.ensures.sets at c.requires.ready.timed in
    ready_after c.args.library.now c.exchange.new.netlist c.exchange-2.new.netlist c.exchange.new.self c.exchange-2.new.self ready
    (is_exchange c.args.library.now c.exchange.new.netlist c.exchange-2.new.netlist c.args.number c.cell_place-own.result back c.exchange-2.ensures.sets) c.exchange-2.ensures.sound c.exchange-2.ensures.delays

pub returns-clause-marks : goal.returns-clause-marks
returns-clause-marks c = c.exchange-2.ensures.marks ∙ c.exchange.ensures.marks

pub returns-clause-helps : goal.returns-clause-helps
returns-clause-helps c = λ e. absurd cc

pub returns-clause-kept : goal.returns-clause-kept
returns-clause-kept c = λ e.
    back_is c.args.library.now c.args.netlist.now c.exchange.new.netlist c.args.number c.args.place c.cell_place-own.result c.requires.drive c.exchange.ensures.sets
    (c.cell_place-own.ensures c.args.library.now c.requires.drive.owner c.requires.ready.delays.places c.requires.drive.stands) c.exchange-2.new.netlist c.exchange-2.ensures.sets

pub returns-clause-idle : goal.returns-clause-idle
returns-clause-idle c = λ e.
    idle_by c.args.library.now c.args.netlist.now c.exchange.new.netlist c.args.number c.args.place c.worst-before.result c.worst-after.result c.exchange.ensures.sets
    (c.worst-before.ensures c.args.netlist.now c.args.library.now c.requires.ready.sound c.requires.ready.delays)
    (c.worst-after.ensures c.exchange.new.netlist c.args.library.now c.exchange.ensures.sound c.exchange.ensures.delays) c.if-after-before.false
